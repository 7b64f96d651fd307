use Rattle.lnfs_client.specs.Fits.{Suits}
use Rattle.lnfs_test_client.proofs.driven.each_row.Given as goal

-- the policy is that of the earlier rows
abbrev pub invariant-loop-row : goal.invariant-loop-row
invariant-loop-row g l = Suits l.policy l.client
