use Rattle.std.proofs.lemmas.Bool.{false≢true}
use Rattle.std.proofs.Common.{◌∙◌, ap, sym, Option, Some}
use Rattle.std.specs.Option.{option_map}
use Rattle.lnfs_site.specs.Site.{site_of}
use Rattle.lnfs_tree.specs.declared.node.Info.{Info}
use Rattle.lnfs_tree.specs.declared.node.Dropped.{Dropped}
use Rattle.lnfs_tree.specs.Rows.{id_of}
use Rattle.lnfs_tree.specs.Changed.{Gone, gone_of, rename_of}
use Rattle.lnfs_nodes.specs.Acts.{placed}
use Rattle.lnfs_nodes.specs.Renames.{renamed_of, gone_past}
use Rattle.lnfs_nodes.proofs.Acting.{acts, acts_not}
use Rattle.lnfs_nodes.proofs.OfNodes.{of_rename}
use Rattle.lnfs_nodes.proofs.Leaving.{left_renamed, leaves_rename}
use Rattle.lnfs_nodes.proofs.Going.{told_gone}
use Rattle.lnfs_nodes.proofs.GoingPast.{rename_gone}
use Rattle.lnfs_nodes.proofs.renaming.rename.Goals as goal

pub rename-requires : goal.rename-requires
rename-requires c = record { facts = ((site_of c.args.site.now).dom, c.requires.facts) }

pub returns-in-Ok-rename : goal.returns-in-Ok-rename
returns-in-Ok-rename c =
    let told = rename_of c.args.tree.now (id_of c.in-Ok.ends.from.id) c.args.old.now (id_of c.in-Ok.ends.to.id) c.args.new.now c.args.caller.now.moment in
    record {
      acts = λ p rest.
          acts (λ (r : Info × Info × Option Dropped). (r.0, r.1, option_map gone_of r.2)) (λ (a : Info × Info × Option Gone). renamed_of a.0 a.1) (placed p c.args.caller.now) c.args.tree.now c.rename.new.self _ left_renamed rest told
          (c.in-Ok.ensures.checked p rest) (of_rename c.args.tree.now (id_of c.in-Ok.ends.from.id) c.args.old.now (id_of c.in-Ok.ends.to.id) c.args.new.now c.args.caller.now.moment) (leaves_rename c.args.tree.now (id_of c.in-Ok.ends.from.id) c.args.old.now (id_of c.in-Ok.ends.to.id) c.args.new.now c.args.caller.now.moment) c.in-Ok-rename.done c.in-Ok-rename.ensures.does;
      gone =
          told_gone (λ (r : Info × Info × Option Dropped). (r.0, r.1, option_map gone_of r.2)) (λ (a : Info × Info × Option Gone). a.2) c.args.tree.now c.rename.new.self told _
          (rename_gone c.args.tree.now (id_of c.in-Ok.ends.from.id) c.args.old.now (id_of c.in-Ok.ends.to.id) c.args.new.now c.args.caller.now.moment) c.in-Ok-rename.done c.in-Ok-rename.ensures.does
          ∙ ap (λ i. gone_past c.args.tree.now i c.args.old.now (Some (id_of c.in-Ok.ends.to.id)) c.args.new.now) (sym c.in-Ok.ensures.from)
          ∙ ap (λ i. gone_past c.args.tree.now (option_map id_of c.args.caller.now.saved) c.args.old.now i c.args.new.now) (sym c.in-Ok.ensures.to);
      memory = tt;
    }

pub returns-in_ok-settled_by-in-Err-rename : goal.returns-in_ok-settled_by-in-Err-rename
returns-in_ok-settled_by-in-Err-rename c = record {
  acts = λ p rest.
      acts_not (λ (r : Info × Info × Option Dropped). (r.0, r.1, option_map gone_of r.2)) (λ (a : Info × Info × Option Gone). renamed_of a.0 a.1) (placed p c.args.caller.now) c.args.tree.now c.rename.new.self _
      (rename_of c.args.tree.now (id_of c.in-Ok.ends.from.id) c.args.old.now (id_of c.in-Ok.ends.to.id) c.args.new.now c.args.caller.now.moment)
      (c.in-Ok.ensures.checked p rest) c.in-Err-rename.error (λ none. false≢true (c.in_ok-settled_by-in-Err-rename.ensures.memory.1 none)) c.in-Err-rename.ensures.does c.in_ok-settled_by-in-Err-rename.field-0 c.in_ok-settled_by-in-Err-rename.ensures.refusal;
  gone = tt;
  memory = tt;
}
