use Rattle.std.proofs.Common.{refl, ◌∙◌}
use Rattle.lnfs_world.specs.Outcome.{Place}
use Rattle.lnfs_nodes.specs.Acts.{placed}
use Rattle.lnfs_files.specs.Worlds.{with_files}
use Rattle.lnfs_files.proofs.NamedOpens.{told}
use Rattle.lnfs_files.proofs.Ends.{err_acts, ended}
use Rattle.lnfs_files.proofs.closing.end_open.Goals as goal

pub returns-in_err-open : goal.returns-in_err-open
returns-in_err-open c = λ p rest t n client node.
    let at : Place = placed p c.args.caller.now in
    err_acts (λ (it : Unit {0}). it) at rest t t c.args.opens.now c.args.opens.now _ c.from_residual.result c.in_err-open.field-0.0 c.from_residual.ensures.1
    (record { outcome = c.in_err-open.ensures at (with_files rest t c.args.opens.now) n _ refl client refl; tree = refl; opens = refl })

pub returns-in-Ok : goal.returns-in-Ok
returns-in-Ok c = λ p rest t n client node.
    let at : Place = placed p c.args.caller.now in
    ended at rest t c.args.opens.now c.close.new.self _ _
    (told at (with_files rest t c.args.opens.now) n c.args.id.now _ c.args.client c.args.opens.now.opens c.in_ok-open.open _ _ c.in_ok-open.ensures client refl (c.node_key.ensures ∙ node) refl)
    c.in-Ok.ensures.answer c.in-Ok.ensures.lists
