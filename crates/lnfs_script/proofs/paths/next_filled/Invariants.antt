use Rattle.std.proofs.Common.{◌≡◌, length}
use Rattle.lnfs_script.specs.Paths.{are_filled}
use Rattle.lnfs_script.proofs.paths.next_filled.Given as goal

-- only empty parts were gone past
abbrev pub invariant-loop-part : goal.invariant-loop-part
invariant-loop-part l = are_filled l.fn.parts ≡ are_filled l.parts

abbrev pub decreases-loop-part : goal.decreases-loop-part
decreases-loop-part l = length l.parts
