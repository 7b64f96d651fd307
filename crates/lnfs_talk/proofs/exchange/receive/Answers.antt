use Rattle.std.proofs.Common.{refl, ◌∙◌, arith}
use Rattle.lnfs_talk.proofs.Exchanging.{waits_first, waits_on, received, not_received}
use Rattle.lnfs_talk.proofs.exchange.receive.Goals as goal

pub loop-init : goal.loop-init
loop-init g c = record { waits = waits_first _ _; later = omega arith; taken = refl; write_faults = refl }

pub loop-preserved : goal.loop-preserved
loop-preserved g c =
    let i = c.loop.invariant in
    let e = c.in-Ok-None.ensures in
    record {
      waits = waits_on i.waits (rw c.in-Ok-None.field-0-is at e.looks);
      later = omega (arith, i.later, e.later);
      taken = e.taken ∙ i.taken;
      write_faults = e.write_faults ∙ i.write_faults;
    }

pub returns-in-Ok-Some-clause-receives : goal.returns-in-Ok-Some-clause-receives
returns-in-Ok-Some-clause-receives g c = received _ _ c.loop.invariant.waits (rw c.in-Ok-Some.field-0-is at c.in-Ok-Some.ensures.looks)

pub returns-in-Err-clause-receives : goal.returns-in-Err-clause-receives
returns-in-Err-clause-receives g c = not_received _ _ c.loop.invariant.later c.loop.invariant.waits c.in-Err.ensures.looks
