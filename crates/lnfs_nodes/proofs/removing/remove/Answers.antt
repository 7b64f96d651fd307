use Rattle.std.specs.Option.{option_map}
use Rattle.std.proofs.Common.{◌∙◌, ap, sym, refl, Err, Option}
use Rattle.lnfs_site.specs.Site.{site_of}
use Rattle.lnfs_tree.specs.declared.node.TreeError.{TreeError}
use Rattle.lnfs_tree.specs.declared.node.Info.{Info}
use Rattle.lnfs_tree.specs.declared.node.Dropped.{Dropped}
use Rattle.lnfs_tree.specs.Rows.{id_of}
use Rattle.lnfs_tree.specs.Changed.{Gone, gone_of, remove_of}
use Rattle.lnfs_nodes.specs.Acts.{placed, without_opens}
use Rattle.lnfs_nodes.specs.Told.{cinfo_of, gone_from}
use Rattle.lnfs_nodes.proofs.Acting.{acts, acts_not, err_acts}
use Rattle.lnfs_nodes.proofs.OfNodes.{of_remove}
use Rattle.lnfs_nodes.proofs.Leaving.{left_removed, leaves_remove}
use Rattle.lnfs_nodes.proofs.Going.{told_gone, remove_gone}
use Rattle.lnfs_nodes.proofs.removing.remove.Goals as goal

pub remove-requires : goal.remove-requires
remove-requires c = record { facts = ((site_of c.args.site.now).dom, c.requires.facts) }

pub returns-in-Ok : goal.returns-in-Ok
returns-in-Ok c =
    let told = remove_of c.args.tree.now (id_of c.in_ok-dir.dir) c.args.name.now c.args.caller.now.moment in
    record {
      acts = λ p rest.
          acts (λ (r : Info × Option Dropped). (r.0, option_map gone_of r.1)) (λ (a : Info × Option Gone). cinfo_of a.0) (placed p c.args.caller.now) c.args.tree.now c.remove.new.self _ left_removed rest told
          (c.in_ok-dir.ensures.checked p rest) (of_remove c.args.tree.now (id_of c.in_ok-dir.dir) c.args.name.now c.args.caller.now.moment) (leaves_remove c.args.tree.now (id_of c.in_ok-dir.dir) c.args.name.now c.args.caller.now.moment) c.in-Ok.done c.in-Ok.ensures.does;
      gone =
          told_gone (λ (r : Info × Option Dropped). (r.0, option_map gone_of r.1)) (λ (a : Info × Option Gone). a.1) c.args.tree.now c.remove.new.self told _ (remove_gone c.args.tree.now (id_of c.in_ok-dir.dir) c.args.name.now c.args.caller.now.moment) c.in-Ok.done c.in-Ok.ensures.does
          ∙ ap (λ i. gone_from c.args.tree.now i c.args.name.now) (sym c.in_ok-dir.ensures.dir);
    }

pub returns-in-Err : goal.returns-in-Err
returns-in-Err c = record {
  acts = λ p rest.
      acts_not (λ (r : Info × Option Dropped). (r.0, option_map gone_of r.1)) (λ (a : Info × Option Gone). cinfo_of a.0) (placed p c.args.caller.now) c.args.tree.now c.remove.new.self _ (remove_of c.args.tree.now (id_of c.in_ok-dir.dir) c.args.name.now c.args.caller.now.moment)
      (c.in_ok-dir.ensures.checked p rest) c.in-Err.error (λ none. c.in-Err.ensures.calm (ap (λ (e : TreeError). Err e) none)) c.in-Err.ensures.does c.refused_by.result c.refused_by.ensures;
  gone = tt;
}

pub returns-in_err-dir-clause-acts : goal.returns-in_err-dir-clause-acts
returns-in_err-dir-clause-acts c = λ p rest.
    err_acts (λ (r : Info × Option Dropped). cinfo_of r.0) (λ r. placed p c.args.caller.now) (λ r. without_opens (option_map gone_of r.1)) (placed p c.args.caller.now) rest c.args.tree.now c.args.tree.now _ c.from_residual.result c.in_err-dir.field-0.0 c.from_residual.ensures.1 (record { outcome = c.in_err-dir.ensures.checked p rest; tree = refl })
