use Rattle.std.proofs.Common.{subst}
use Rattle.lnfs_policy.specs.PolicyText.{IsPolicy}
use Rattle.lnfs_policy.proofs.Site.{preordered}
use Rattle.lnfs_checkpoint.specs.Resumed.{state_of}
use Rattle.lnfs_checkpoint.proofs.Serving.{going, kept_of_fit, holds_of_fit, bounds_of_fit, fit_of_state}
use Rattle.lnfs_checkpoint.proofs.resumed.Resumed.serve.Goals as goal

pub invariant_of-self-2 : goal.invariant_of-self-2
invariant_of-self-2 g c = λ running.
    let event = c.args.event.now in
    let old = c.self.inside.core in
    let new = c.step.new.self in
    let state = state_of old.world old.extra.first in
    let spelled = subst IsPolicy c.policy.ensures c.law_policy.ensures in
    let fit = c.self.invariant (going old.stopped c.in_ok-served.ensures.stopped) in
    let contexts = c.contexts_fit.ensures.kept old.policy (preordered old.policy) state event (holds_of_fit old.policy old.world old.extra.first fit) fit.contexts in
    let bounds = c.locks_are_bounded.ensures.kept old.policy spelled state event (kept_of_fit old.policy old.world old.extra.first fit) (bounds_of_fit old.policy old.world old.extra.first fit) in
    fit_of_state old.policy new.policy _ new.world new.extra.first c.step.ensures.policy c.in_ok-served.ensures.state (c.step.ensures.kept running) contexts bounds

pub step-requires-clause-kept : goal.step-requires-clause-kept
step-requires-clause-kept g c = λ running.
    let old = c.self.inside.core in
    kept_of_fit old.policy old.world old.extra.first (c.self.invariant running)
