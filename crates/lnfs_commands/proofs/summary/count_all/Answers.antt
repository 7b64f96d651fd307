use Rattle.std.proofs.Common.{rules, refl, sym, ap, ◌∙◌, subst, arith}
use Rattle.std.specs.List.{AllByRecursion}
use Rattle.sha2.specs.Hashers.{Holds256}
use Rattle.lnfs_types.specs.Moments.{Fits}
use Rattle.lnfs_vault.specs.Kept.{Kept}
use Rattle.lnfs_commands.proofs.Summing.{counts_none, few_replies, few_failed, counts_next, counts_replies, counts_failed, counts_frames}
use Rattle.lnfs_commands.proofs.summary.count_all.Goals as goal

pub loop-event-init : goal.loop-event-init
loop-event-init g c =
    let items = c.from_vec-rest.ensures.items in
    (refl, subst (AllByRecursion Fits) (sym items) c.requires.fits, counts_none _ _ _ _ (Holds256 c.args.tally.now.frames) items c.requires.replies c.requires.failed c.requires.frames)

pub count-requires-clause-replies : goal.count-requires-clause-replies
count-requires-clause-replies g c = let all = c.args.events in omega (arith, few_replies _ _ _ _ c.loop-event.invariant.2, all.ok.0, all.ok.1, all.small)

pub count-requires-clause-failed : goal.count-requires-clause-failed
count-requires-clause-failed g c = let all = c.args.events in omega (arith, few_failed _ _ _ _ c.loop-event.invariant.2, all.ok.0, all.ok.1, all.small)

pub loop-event-preserved : goal.loop-event-preserved
loop-event-preserved g c =
    let n = c.loop-event.invariant in
    let did = rw n.0 at c.in_ok-count.ensures in
    let cut = c.in-Some.ensures.items in (
      ap (λ (k : Kept). k.policy) c.in_ok-count.ensures.state ∙ n.0,
      (subst (AllByRecursion Fits) cut n.1).1,
      counts_next _ _ _ _ n.2 c.in-Some.event cut (ap (λ (k : Kept). k.journal) c.in_ok-count.ensures.state) did.replies did.failed did.frames,
    )

pub returns-clause-replies : goal.returns-clause-replies
returns-clause-replies g c = counts_replies _ _ _ _ c.loop-event.invariant.2 (search rules)

pub returns-clause-failed : goal.returns-clause-failed
returns-clause-failed g c = counts_failed _ _ _ _ c.loop-event.invariant.2 (search rules)

pub returns-clause-frames : goal.returns-clause-frames
returns-clause-frames g c = counts_frames _ _ _ _ c.loop-event.invariant.2 (search rules)
