use Rattle.std.proofs.Common.{rules, arith, ◌∙◌, refl}
use Rattle.std.proofs.lemmas.List.{take_all}
use Rattle.lnfs_outside.proofs.Parts.{nothing, puts_then, puts_first, puts_whole, then_more}
use Rattle.lnfs_traffic.proofs.Put.{text_next, text_split, recorded_next}
use Rattle.lnfs_traffic.proofs.Whole.{recording_none}
use Rattle.lnfs_traffic.proofs.writing.put_events.Goals as goal

pub loop-event-init : goal.loop-event-init
loop-event-init g c = record {
  taken = nothing _;
  spelled = recording_none;
  later = omega arith;
  within = λ h. h;
  beside = refl;
}

pub returns-in_err-put_event-clause-bytes : goal.returns-in_err-put_event-clause-bytes
returns-in_err-put_event-clause-bytes g c =
    rw (← text_split c.args.events.now c.loop-event.event-index c.event-item.result c.loop-event-test.true c.event-item.is)
    (puts_first _ _ (puts_then _ _ c.loop-event.invariant.taken c.in_err-put_event.ensures.bytes) (search rules))

pub loop-event-preserved : goal.loop-event-preserved
loop-event-preserved g c =
    let i = c.loop-event.invariant in
    let e = c.in_ok-put_event.ensures in
    record {
      taken = rw (text_next c.args.events.now c.loop-event.event-index c.event-item.result c.loop-event-test.true c.event-item.is) (then_more _ _ _ _ _ i.taken e.bytes.whole);
      spelled = recorded_next c.args.events.now c.loop-event.event-index c.event-item.result c.loop-event-test.true c.event-item.is i.spelled e.spelled;
      later = omega (arith, i.later, e.cause.later);
      within = λ h. e.cause.within (i.within h);
      beside = e.beside ∙ i.beside;
    }

pub returns-clause-bytes : goal.returns-clause-bytes
returns-clause-bytes g c = puts_whole _ (rw (take_all c.loop-event.event-index c.args.events.now c.loop-event-test.false) at c.loop-event.invariant.taken)

pub returns-clause-spelled : goal.returns-clause-spelled
returns-clause-spelled g c = rw (take_all c.loop-event.event-index c.args.events.now c.loop-event-test.false) at c.loop-event.invariant.spelled
