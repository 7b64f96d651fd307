use Rattle.lnfs_client.specs.Fits.{Suits}
use Rattle.lnfs_test_talk.proofs.acting.finish.Given as goal

-- the policy is that of the earlier requests
abbrev pub invariant-loop-turn : goal.invariant-loop-turn
invariant-loop-turn g l = Suits l.policy l.client
