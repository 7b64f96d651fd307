use Rattle.std.proofs.Common.{◌≡◌, map, take}
use Rattle.lnfs_rows.specs.Lasts.{given_of}
use Rattle.lnfs_tree.specs.Flat.{last_row}
use Rattle.lnfs_tree.proofs.restoring.lasts_of.Given as goal

-- those of the levels so far
abbrev pub invariant-loop-level : goal.invariant-loop-level
invariant-loop-level l = map last_row l.lasts.entries ≡ given_of (take l.level l.numbers)
