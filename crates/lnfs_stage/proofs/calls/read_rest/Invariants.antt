use Rattle.std.proofs.Common.{◌≡◌, ◌≤◌, ◌-◌, ◌^◌, vec_len}
use Rattle.std.specs.Io.KnownBytes.{Consumes}
use Rattle.lnfs_stage.proofs.calls.read_rest.Given as goal

abbrev pub invariant-loop-count : goal.invariant-loop-count
invariant-loop-count g l =
    Consumes (g.F.Files.left l.initial.files) (g.F.Files.left l.files) l.bytes.items
    × (g.F.Files.content l.files ≡ g.F.Files.content l.initial.files)
    × (g.F.Files.faults l.initial.files ≤ g.F.Files.faults l.files)

-- the bytes for which there is a number of 64 bits still: each turn keeps one at least
abbrev pub decreases-loop-count : goal.decreases-loop-count
decreases-loop-count g l = 2 ^ 64 - vec_len l.bytes
