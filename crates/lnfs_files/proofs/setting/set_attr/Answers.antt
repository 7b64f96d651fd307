use Rattle.std.proofs.Common.{◌∙◌, ap, sym, subst, refl, Bool, Ok, Err}
use Rattle.lnfs_attrs.specs.declared.bitmap.Bitmap.{Bitmap}
use Rattle.lnfs_world.specs.World.{World}
use Rattle.lnfs_world.specs.Outcome.{Place}
use Rattle.lnfs_site.specs.Site.{site_of}
use Rattle.lnfs_operations.specs.SetAttr.{set_attr}
use Rattle.lnfs_tree.specs.Rows.{kind_of}
use Rattle.lnfs_nodes.specs.Acts.{placed}
use Rattle.lnfs_nodes.specs.GivenValues.{wanted_of}
use Rattle.lnfs_nodes.proofs.Refusing.{not_held}
use Rattle.lnfs_files.specs.Worlds.{with_opens, with_files}
use Rattle.lnfs_files.specs.Acts.{Succeeds}
use Rattle.lnfs_files.specs.Setting.{size_refusal}
use Rattle.lnfs_files.proofs.Listed.{held_listed, wanted_listed}
use Rattle.lnfs_files.proofs.SetAttrs.{on_node, refused, taken, sized_not, acted, is_file}
use Rattle.lnfs_files.proofs.setting.set_attr.Goals as goal

pub set_wanted-requires : goal.set_wanted-requires
set_wanted-requires g c = record {
  told = c.requires.told;
  facts = c.requires.facts;
  counts = c.requires.counts;
  held = c.in-Ok-node_held.ensures;
  listed = held_listed c.in-Ok.wanted.label (wanted_listed (site_of c.args.site.now) c.law_listed.ensures c.args.given.now (wanted_of c.in-Ok.wanted) (sym (rw c.in-Ok.is at c.in_ok-wanted.ensures)));
  file = is_file c.in-Ok.wanted.size (kind_of c.in-Ok-node_held.held.facts.kind) (c.in_default.ensures ∙ ap (λ (b : Bool). size_refusal b (kind_of c.in-Ok-node_held.held.facts.kind)) c.is_some.ensures);
}

pub returns-in-Err-clause-acts : goal.returns-in-Err-clause-acts
returns-in-Err-clause-acts g c = λ p rest tells client.
    let at : Place = placed p c.args.caller.now in
    record {
      outcome = refused (site_of c.args.site.now) c.args.id.now c.args.given.now at (with_files rest c.args.tree.now c.args.opens.now) c.in-Err.why (rw c.in-Err.is at c.in_ok-wanted.ensures);
      tree = refl;
      opens = refl;
    }

pub returns-in-Err-node_held-clause-acts : goal.returns-in-Err-node_held-clause-acts
returns-in-Err-node_held-clause-acts g c = λ p rest tells client.
    let at : Place = placed p c.args.caller.now in
    let s = c.args.opens.now in
    let w : World = with_files rest c.args.tree.now s in
    let site = site_of c.args.site.now in
    record {
      outcome =
          taken site c.args.id.now c.args.given.now at w (wanted_of c.in-Ok.wanted) (rw c.in-Ok.is at c.in_ok-wanted.ensures)
          ∙ not_held at (with_opens rest s) c.args.tree.now (on_node site c.args.id.now c.args.given.now at w (wanted_of c.in-Ok.wanted)) c.in-Err-node_held.why c.in-Err-node_held.ensures;
      tree = refl;
      opens = refl;
    }

pub returns-in-Some-clause-acts : goal.returns-in-Some-clause-acts
returns-in-Some-clause-acts g c = λ p rest tells client.
    let at : Place = placed p c.args.caller.now in
    let t = c.args.tree.now in
    record {
      outcome = sized_not (site_of c.args.site.now) c.args.id.now c.args.given.now at rest t t c.args.opens.now c.in-Ok-node_held.held (wanted_of c.in-Ok.wanted) c.in-Ok-node_held.ensures (rw c.in-Ok.is at c.in_ok-wanted.ensures) c.in-Some.why (c.in-Some.ensures ∙ ap (λ (b : Bool). size_refusal b (kind_of c.in-Ok-node_held.held.facts.kind)) c.is_some.ensures);
      tree = refl;
      opens = refl;
    }

pub returns-in-Ok-set_wanted-clause-acts : goal.returns-in-Ok-set_wanted-clause-acts
returns-in-Ok-set_wanted-clause-acts g c = λ p rest tells client.
    let at : Place = placed p c.args.caller.now in
    let t = c.args.tree.now in
    let u = c.set_wanted.new.tree in
    let s = c.args.opens.now in
    let site = site_of c.args.site.now in
    subst (λ (set : Bitmap). Succeeds set at rest t u s s (set_attr site c.args.id.now c.args.given.now at (with_files rest t s))) (sym c.set_of.ensures)
    (acted site c.args.id.now c.args.given.now at rest t u s c.in-Ok-node_held.held (wanted_of c.in-Ok.wanted) c.in-Ok-node_held.ensures (rw c.in-Ok.is at c.in_ok-wanted.ensures) (Ok c.in-Ok-set_wanted.field-0) (c.in_default.ensures ∙ ap (λ (b : Bool). size_refusal b (kind_of c.in-Ok-node_held.held.facts.kind)) c.is_some.ensures)
    (λ n set holds. c.in-Ok-set_wanted.ensures.acts n p rest set tells client holds))

pub returns-in-Err-set_wanted-clause-acts : goal.returns-in-Err-set_wanted-clause-acts
returns-in-Err-set_wanted-clause-acts g c = λ p rest tells client.
    let at : Place = placed p c.args.caller.now in
    let t = c.args.tree.now in
    let u = c.set_wanted.new.tree in
    let s = c.args.opens.now in
    let site = site_of c.args.site.now in
    acted site c.args.id.now c.args.given.now at rest t u s c.in-Ok-node_held.held (wanted_of c.in-Ok.wanted) c.in-Ok-node_held.ensures (rw c.in-Ok.is at c.in_ok-wanted.ensures) (Err c.in-Err-set_wanted.why) (c.in_default.ensures ∙ ap (λ (b : Bool). size_refusal b (kind_of c.in-Ok-node_held.held.facts.kind)) c.is_some.ensures)
    (λ n set holds. c.in-Err-set_wanted.ensures.acts n p rest set tells client holds)
