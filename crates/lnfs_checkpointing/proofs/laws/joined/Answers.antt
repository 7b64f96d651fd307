use Rattle.lnfs_policy.proofs.Site.{preordered}
use Rattle.lnfs_checkpointing.proofs.Joining.{out_is, verdict_is, joined_is}
use Rattle.lnfs_checkpointing.proofs.laws.joined.Goals as goal

pub returns-clause-out : goal.returns-clause-out
returns-clause-out c = λ p traffic. out_is p traffic

pub returns-clause-verdict : goal.returns-clause-verdict
returns-clause-verdict c = λ p a again v. verdict_is c.one_verdict.ensures p a again v

pub returns-clause-resumed : goal.returns-clause-resumed
returns-clause-resumed c = λ p text spelled a again files ending verdict judged some is_text is_bytes policy checkpoint traffic.
    joined_is c.one_verdict.ensures p (λ journal event. c.purge.ensures.replies p (preordered p) journal event) a (c.purge.ensures.facts p (preordered p) a) again files ending verdict judged some text is_text spelled is_bytes policy checkpoint traffic
