use Rattle.std.proofs.Common.{◌≡◌, ◌++◌, length}
use Rattle.lnfs_client.proofs.paths.names_of.Given as goal

-- the names so far, and those that are left
abbrev pub invariant-loop-name : goal.invariant-loop-name
invariant-loop-name l = l.names.items ++ l.left ≡ l.initial.left

abbrev pub decreases-loop-name : goal.decreases-loop-name
decreases-loop-name l = length l.left
