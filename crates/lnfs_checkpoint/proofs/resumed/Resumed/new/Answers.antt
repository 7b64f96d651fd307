use Rattle.lnfs_further.specs.Further.{further}
use Rattle.lnfs_step.specs.Journal.{first_state}
use Rattle.lnfs_checkpoint.proofs.Serving.{fit_of_state}
use Rattle.lnfs_checkpoint.proofs.resumed.Resumed.new.Goals as goal

pub invariant_of-result : goal.invariant_of-result
invariant_of-result g c = λ running.
    let policy = c.args.policy in
    let new = c.in_ok-core.core in
    fit_of_state policy new.policy (first_state further policy) new.world new.extra.first c.in_ok-core.ensures.policy c.in_ok-core.ensures.state c.in_ok-core.ensures.kept
    (c.contexts_fit.ensures.first policy) (c.locks_are_bounded.ensures.first policy)
