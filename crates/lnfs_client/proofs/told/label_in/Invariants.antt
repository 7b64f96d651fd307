use Rattle.std.proofs.Common.{◌≡◌, length}
use Rattle.lnfs_client.specs.Told.{label_in}
use Rattle.lnfs_client.proofs.told.label_in.Given as goal

-- no label stands before the results that are left
abbrev pub invariant-loop-first : goal.invariant-loop-first
invariant-loop-first l = label_in l.left ≡ label_in l.initial.left

abbrev pub decreases-loop-first : goal.decreases-loop-first
decreases-loop-first l = length l.left
