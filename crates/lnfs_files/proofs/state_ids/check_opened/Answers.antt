use Rattle.std.proofs.Common.{refl, ap, sym, ◌∙◌, Some}
use Rattle.lnfs_world.specs.Outcome.{Place}
use Rattle.lnfs_nodes.specs.Acts.{placed}
use Rattle.lnfs_files.specs.Worlds.{with_opens}
use Rattle.lnfs_files.specs.Tests.{refusal_in}
use Rattle.lnfs_files.proofs.Stages.{err_failed}
use Rattle.lnfs_files.proofs.NamedOpens.{told}
use Rattle.lnfs_files.proofs.StateIds.{mode_on, mode_off}
use Rattle.lnfs_files.proofs.state_ids.check_opened.Goals as goal

pub returns-in_err-open : goal.returns-in_err-open
returns-in_err-open c = λ site p rest n client node.
    err_failed c.from_residual.result c.in_err-open.field-0.0 c.from_residual.ensures.1
    ∙ sym (ap refusal_in (c.in_err-open.ensures (placed p c.args.caller.now) (with_opens rest c.args.opens.now) n _ refl client refl))

pub returns-then-row-bit-eq0 : goal.returns-then-row-bit-eq0
returns-then-row-bit-eq0 c = λ site p rest n client node.
    let at : Place = placed p c.args.caller.now in
    mode_off at c.in-Ok.row.now.access c.bit.result _ c.bit.ensures c.if-row-bit-eq0.true ∙ sym (ap refusal_in (told at (with_opens rest c.args.opens.now) n c.args.id.now _ c.args.client c.args.opens.now.opens c.in_ok-open.open _ _ c.in_ok-open.ensures client refl (c.node_key.ensures ∙ node) c.in-Ok.ensures.row))

pub returns-else-row-bit-eq0 : goal.returns-else-row-bit-eq0
returns-else-row-bit-eq0 c = λ site p rest n client node.
    let at : Place = placed p c.args.caller.now in
    mode_on at c.in-Ok.row.now.access c.bit.result _ c.bit.ensures c.if-row-bit-eq0.false ∙ sym (ap refusal_in (told at (with_opens rest c.args.opens.now) n c.args.id.now _ c.args.client c.args.opens.now.opens c.in_ok-open.open _ _ c.in_ok-open.ensures client refl (c.node_key.ensures ∙ node) c.in-Ok.ensures.row))

pub returns-in-Err : goal.returns-in-Err
returns-in-Err c = λ site p rest n client node.
    let at : Place = placed p c.args.caller.now in
    ap Some c.refused_by.ensures ∙ sym (ap refusal_in (told at (with_opens rest c.args.opens.now) n c.args.id.now _ c.args.client c.args.opens.now.opens c.in_ok-open.open _ _ c.in_ok-open.ensures client refl (c.node_key.ensures ∙ node) c.in-Err.ensures.row))
