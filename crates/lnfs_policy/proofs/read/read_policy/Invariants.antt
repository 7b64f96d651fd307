use Rattle.std.proofs.Common.{◌≡◌, ◌+◌, ◌≤◌, length}
use Rattle.lnfs_policy.specs.PolicyText.{policy_of}
use Rattle.lnfs_policy.specs.Reading.{read_from}
use Rattle.lnfs_policy.proofs.read.read_policy.Given as goal

-- the lines that are left complete the policy
abbrev pub invariant-loop-line : goal.invariant-loop-line
invariant-loop-line g l = (policy_of l.text ≡ read_from l.number l.reading l.lines) × (l.number + length l.lines ≤ length l.text + 2)

abbrev pub decreases-loop-line : goal.decreases-loop-line
decreases-loop-line g l = length l.lines
