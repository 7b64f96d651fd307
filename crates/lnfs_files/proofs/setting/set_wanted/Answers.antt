use Rattle.std.proofs.Common.{◌∙◌, ap, sym, subst, Option}
use Rattle.std.specs.Option.{option_map}
use Rattle.lnfs_attrs.specs.declared.bitmap.Bitmap.{Bitmap}
use Rattle.lnfs_world.specs.World.{World}
use Rattle.lnfs_world.specs.Effects.{parent_labels}
use Rattle.lnfs_world.specs.Outcome.{Place, Outcome}
use Rattle.lnfs_site.specs.Site.{site_of}
use Rattle.lnfs_monitor.specs.Rules.{Write, Raise}
use Rattle.lnfs_operations.specs.Chain.{Answer}
use Rattle.lnfs_operations.specs.Judged.{where_allowed}
use Rattle.lnfs_operations.specs.SetAttr.{respelled, raised, set_on}
use Rattle.lnfs_nodes.specs.Acts.{placed}
use Rattle.lnfs_nodes.specs.GivenValues.{given_of, wanted_of}
use Rattle.lnfs_nodes.specs.declared.given.GivenLabel as code
use Rattle.lnfs_files.specs.Worlds.{with_files}
use Rattle.lnfs_files.specs.Acts.{Acts}
use Rattle.lnfs_files.specs.Setting.{unlabelled}
use Rattle.lnfs_files.proofs.SetAttrs.{spelling_wanted, level_wanted}
use Rattle.lnfs_files.proofs.setting.set_wanted.Goals as goal

pub returns-then-is_limited-clause-acts : goal.returns-then-is_limited-clause-acts
returns-then-is_limited-clause-acts g c = λ n p rest set tells client holds.
    let site = site_of c.args.site.now in
    let at : Place = placed p c.args.caller.now in
    let t = c.args.tree.now in
    let u = c.respell.new.tree in
    let s = c.args.opens.now in
    subst (λ (o : Outcome (Answer Bitmap)). Acts {A = Unit {0}} (λ it. set) at rest t u s s o c.respell.result)
    (sym (spelling_wanted site c.args.id.now at (with_files rest t s) n (wanted_of c.args.wanted) set (given_of c.in-Some.given) (ap (λ (l : Option code.GivenLabel). option_map given_of l) (sym c.in-Some.is)) (sym c.is_limited.ensures ∙ c.if-is_limited.true)))
    (subst (λ (g : code.GivenLabel). Acts {A = Unit {0}} (λ it. set) at rest t u s s (where_allowed site at (Write n.label) (respelled site at n (given_of g).spelled set)) c.respell.result) c.in-Some.given-is
    (c.respell.ensures.acts n p rest s set holds))

pub returns-else-is_limited-clause-acts : goal.returns-else-is_limited-clause-acts
returns-else-is_limited-clause-acts g c = λ n p rest set tells client holds.
    let site = site_of c.args.site.now in
    let at : Place = placed p c.args.caller.now in
    let t = c.args.tree.now in
    let u = c.raise.new.tree in
    let s = c.args.opens.now in
    let w : World = with_files rest t s in
    subst (λ (o : Outcome (Answer Bitmap)). Acts {A = Unit {0}} (λ it. set) at rest t u s s o c.raise.result)
    (sym (level_wanted site c.args.id.now at w n (wanted_of c.args.wanted) set (given_of c.in-Some.given) (ap (λ (l : Option code.GivenLabel). option_map given_of l) (sym c.in-Some.is)) (sym c.is_limited.ensures ∙ c.if-is_limited.false)))
    (subst (λ (g : code.GivenLabel). Acts {A = Unit {0}} (λ it. set) at rest t u s s (where_allowed site at (Raise n.label (parent_labels t.nodes t.entries n.id) g.level.0) (raised at w n g.level.0 set)) c.raise.result) c.in-Some.given-is
    (c.raise.ensures.acts n p rest s set holds))

pub returns-in_default-clause-acts : goal.returns-in_default-clause-acts
returns-in_default-clause-acts g c = λ n p rest set tells client holds.
    let site = site_of c.args.site.now in
    let at : Place = placed p c.args.caller.now in
    let t = c.args.tree.now in
    let u = c.set_values.new.tree in
    let s = c.args.opens.now in
    let w : World = with_files rest t s in
    subst (λ (l : Option code.GivenLabel). Acts {A = Unit {0}} (λ it. set) at rest t u s s (set_on site c.args.id.now at w n (unlabelled c.args.wanted.size c.args.wanted.mode) (option_map given_of l) set) c.set_values.result)
    (sym c.in_default.is) (c.set_values.ensures.acts n p rest set tells client holds)
