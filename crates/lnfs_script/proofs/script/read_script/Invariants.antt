use Rattle.std.proofs.Common.{◌≡◌, ◌+◌, ◌≤◌, length}
use Rattle.lnfs_script.specs.Script.{script_of}
use Rattle.lnfs_script.proofs.Steps.{finally}
use Rattle.lnfs_script.proofs.script.read_script.Given as goal

-- the lines that are left complete the script
abbrev pub invariant-loop-line : goal.invariant-loop-line
invariant-loop-line l =
    (script_of l.policy l.text ≡ finally l.policy l.link l.actions.items (l.number + 1) l.lines) × (l.number + length l.lines ≤ length l.text + 1)

abbrev pub decreases-loop-line : goal.decreases-loop-line
decreases-loop-line l = length l.lines
