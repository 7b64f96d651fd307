use Rattle.std.proofs.Common.{sym, subst, ◌∙◌, not}
use Rattle.std.specs.Prelude.{is_some}
use Rattle.lnfs_world.specs.Outcome.{Place, Outcome}
use Rattle.lnfs_operations.specs.Chain.{Answer}
use Rattle.lnfs_operations.specs.StateIds.{special}
use Rattle.lnfs_nodes.specs.Acts.{placed}
use Rattle.lnfs_nodes.proofs.Tests.{passed}
use Rattle.lnfs_nodes.proofs.Found.{about_held}
use Rattle.lnfs_files.specs.Worlds.{with_opens}
use Rattle.lnfs_files.specs.Acts.{Acts}
use Rattle.lnfs_files.proofs.Ends.{no_meaning}
use Rattle.lnfs_files.proofs.closing.close.Goals as goal

pub returns : goal.returns
returns c = record {
  acts = λ p rest client.
      let at : Place = placed p c.args.caller.now in
      about_held (λ (o : Outcome (Answer (Unit {0}))). Acts (λ (it : Unit {0}). it) at rest c.args.tree.now c.args.tree.now c.args.opens.now c.end_open.new.opens o c.end_open.result)
      at (with_opens rest c.args.opens.now) c.args.tree.now _ c.in_ok-held.held c.in_ok-held.ensures (λ n holds.
      subst (λ (o : Outcome (Answer (Unit {0}))). Acts (λ (it : Unit {0}). it) at rest c.args.tree.now c.args.tree.now c.args.opens.now c.end_open.new.opens o c.end_open.result)
      (sym (passed (not (is_some (special c.args.id.now))) _ _ (no_meaning c.meaning.result (special c.args.id.now) c.meaning.ensures (sym c.is_some.ensures ∙ c.if-is_some.false))))
      (c.end_open.ensures p rest c.args.tree.now n client holds.id));
}
