use Rattle.std.proofs.Common.{◌∙◌, sym, refl, subst, []}
use Rattle.lnfs_attrs.specs.declared.bitmap.Bitmap.{Bitmap}
use Rattle.lnfs_world.specs.World.{World}
use Rattle.lnfs_world.specs.Effects.{parent_labels}
use Rattle.lnfs_world.specs.Outcome.{Place, Outcome}
use Rattle.lnfs_site.specs.Site.{site_of}
use Rattle.lnfs_monitor.specs.Rules.{Raise}
use Rattle.lnfs_operations.specs.Chain.{Answer}
use Rattle.lnfs_operations.specs.SetAttr.{raised}
use Rattle.lnfs_nodes.specs.Acts.{placed}
use Rattle.lnfs_nodes.proofs.Tests.{allowed}
use Rattle.lnfs_nodes.proofs.Refusing.{denied}
use Rattle.lnfs_files.specs.Worlds.{with_files}
use Rattle.lnfs_files.specs.Acts.{Succeeds, Acts}
use Rattle.lnfs_files.proofs.Labels.{raised_same, succeeds}
use Rattle.lnfs_files.proofs.labelling.raise.Goals as goal

pub put_level-requires : goal.put_level-requires
put_level-requires c = record {
  facts = ((site_of c.args.site.now).dom, c.requires.facts);
  counts = c.requires.counts;
  held = c.requires.held;
  bytes = c.counted_bytes-bytes.ensures;
  listed = c.requires.listed;
  other = sym c.eq.ensures ∙ c.if-eq.false;
}

pub returns-in-Some-clause-acts : goal.returns-in-Some-clause-acts
returns-in-Some-clause-acts c = λ n p rest opens set holds.
    let site = site_of c.args.site.now in
    let at : Place = placed p c.args.caller.now in
    let t = c.args.tree.now in
    let level = c.args.level.0 in
    record {
      outcome = denied site at (Raise n.label (parent_labels t.nodes t.entries n.id) level) (raised at (with_files rest t opens) n level set) c.in-Some.why (c.in-Some.ensures n holds);
      tree = refl;
      opens = refl;
    }

pub returns-then-eq-clause-acts : goal.returns-then-eq-clause-acts
returns-then-eq-clause-acts c = λ n p rest opens set holds.
    let site = site_of c.args.site.now in
    let at : Place = placed p c.args.caller.now in
    let t = c.args.tree.now in
    let level = c.args.level.0 in
    let w : World = with_files rest t opens in
    subst (λ (o : Outcome (Answer Bitmap)). Succeeds set at rest t t opens opens o)
    (sym (allowed site at (Raise n.label (parent_labels t.nodes t.entries n.id) level) (raised at w n level set) (c.in_default.ensures n holds) ∙ raised_same at w n _ level set holds.tells.label (sym c.eq.ensures ∙ c.if-eq.true)))
    (succeeds set at rest t t opens [] refl refl)

pub returns-clause-acts : goal.returns-clause-acts
returns-clause-acts c = λ n p rest opens set holds.
    let site = site_of c.args.site.now in
    let at : Place = placed p c.args.caller.now in
    let t = c.args.tree.now in
    let u = c.put_level.new.tree in
    let level = c.args.level.0 in
    subst (λ (o : Outcome (Answer Bitmap)). Acts {A = Unit {0}} (λ it. set) at rest t u opens opens o c.put_level.result)
    (sym (allowed site at (Raise n.label (parent_labels t.nodes t.entries n.id) level) (raised at (with_files rest t opens) n level set) (c.in_default.ensures n holds)))
    (c.put_level.ensures.acts n p rest opens set holds)
