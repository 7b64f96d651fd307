use Rattle.std.proofs.Common.{◌∙◌, ap, sym, List, Ok}
use Rattle.lnfs_arguments.specs.declared.types.Op.{Op}
use Rattle.lnfs_arguments.proofs.Steps.{op_read, op_outside, op_fault, ops_end, is_cut_short, is_whole}
use Rattle.lnfs_arguments.proofs.reading.compound_in.Goals.{else-not-is_cut-via-then-not-is_cut+else-not-is_empty, else-not-is_cut-via-else-not-is_cut}
use Rattle.lnfs_arguments.proofs.reading.compound_in.Goals as goal

pub loop-preserved : goal.loop-preserved
loop-preserved g c = rw c.in_ok-push-in-Ok.ensures.items (op_read _ _ _ _ _ _ _ _ _ c.loop-test.true c.in-Ok.ensures c.loop.invariant)

pub returns-in-Err-Outside : goal.returns-in-Err-Outside
returns-in-Err-Outside g c =
    let left = rw c.in-Err-Outside.field-0-is at c.in-Err-Outside.ensures in
    let e = op_outside _ _ _ _ _ _ _ _ _ c.loop-test.true left c.loop.invariant in
    let pushed = rw c.in-Err-Outside.field-0-is at c.in_ok-push-in-Err-Outside.ensures.items in
    e ∙ ap (λ (l : List Op). Ok (record { tag = c.loop.tag; minor = c.in_ok-tag.minor; count = c.in_ok-tag.count; ops = l })) (sym (c.new.ensures ∙ pushed))

pub returns-in-Err-Fault : goal.returns-in-Err-Fault
returns-in-Err-Fault g c =
    let left = rw c.in-Err-Fault.field-0-is at c.in-Err-Fault.ensures in
    op_fault _ _ _ _ _ _ _ _ _ c.loop-test.true left c.loop.invariant

pub returns : goal.returns
returns g c =
    let e = ops_end _ _ _ _ _ _ _ c.loop-test.false c.loop.invariant in
    rw c.new-2.ensures (e ∙ elim c.else-not-is_cut.branch [
      | else-not-is_cut-via-then-not-is_cut+else-not-is_empty w ↦
          let empty = sym w.is_empty.ensures ∙ w.if-not-is_empty.false in
          is_whole _ _ _ (rw w.rest-then-not-is_cut.ensures at empty)
      | else-not-is_cut-via-else-not-is_cut w ↦ is_cut_short _ _ _ w.if-not-is_cut.false
    ])
