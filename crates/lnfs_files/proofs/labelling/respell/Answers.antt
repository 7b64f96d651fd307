use Rattle.std.proofs.Common.{◌≡◌, ◌∙◌, sym, refl, subst, [], ◌∷◌, Some}
use Rattle.lnfs_attrs.specs.declared.bitmap.Bitmap.{Bitmap}
use Rattle.lnfs_world.specs.World.{Inner}
use Rattle.lnfs_world.specs.Change.{Touch}
use Rattle.lnfs_world.specs.Effects.{attributes_changed}
use Rattle.lnfs_world.specs.Outcome.{Place, Outcome}
use Rattle.lnfs_site.specs.Site.{site_of}
use Rattle.lnfs_operations.specs.Chain.{Answer}
use Rattle.lnfs_tree.specs.Rows.{id_of}
use Rattle.lnfs_world.specs.Given.{stored_of}
use Rattle.lnfs_tree.specs.Changed.{ran}
use Rattle.lnfs_tree.specs.Places.{world_of}
use Rattle.lnfs_nodes.specs.Acts.{placed}
use Rattle.lnfs_files.specs.Acts.{Succeeds}
use Rattle.lnfs_files.proofs.WriteOn.{is_there, found, some_place}
use Rattle.lnfs_files.proofs.Labels.{same, other, set_so, succeeds, same_bytes}
use Rattle.lnfs_files.proofs.Sizes.{touched_totals}
use Rattle.lnfs_files.proofs.labelling.respell.Goals as goal

pub returns-then-shows-clause-acts : goal.returns-then-shows-clause-acts
returns-then-shows-clause-acts c = λ n p rest opens set holds.
    let site = site_of c.args.site.now in
    let at : Place = placed p c.args.caller.now in
    let t = c.args.tree.now in
    subst (λ (o : Outcome (Answer Bitmap)). Succeeds set at rest t t opens opens o)
    (sym (same site at n (stored_of c.args.spelled) set _ holds.tells.label c.in_default.ensures (sym (c.shows.ensures n at holds) ∙ c.if-shows.true)))
    (succeeds set at rest t t opens [] refl refl)

pub returns-clause-acts : goal.returns-clause-acts
returns-clause-acts c = λ n p rest opens set holds.
    let site = site_of c.args.site.now in
    let at : Place = placed p c.args.caller.now in
    let t = c.args.tree.now in
    let u = c.respell-done.new.self in
    let h = c.args.held.now in
    let inner : Inner = attributes_changed at.moment (record n.inner { stored = Some (stored_of c.args.spelled) }) in
    let done : u ≡ ran (Touch n.id inner ∷ []) t = set_so t u (id_of h.id) n at.moment (found t n h holds) (λ (x : Inner). record x { stored = Some (stored_of c.args.spelled) }) c.respell-done.result c.respell-done.ensures.calm c.respell-done.ensures.does in
    subst (λ (o : Outcome (Answer Bitmap)). Succeeds set at rest t u opens opens o)
    (sym (other site at n (stored_of c.args.spelled) set _ holds.tells.label c.in_default.ensures (sym (c.shows.ensures n at holds) ∙ c.if-shows.false)))
    (succeeds set at rest t u opens (Touch n.id inner ∷ []) refl done)

pub returns-clause-counts : goal.returns-clause-counts
returns-clause-counts c =
    let at : Place = placed some_place c.args.caller.now in
    let t = c.args.tree.now in
    let u = c.respell-done.new.self in
    let h = c.args.held.now in
    let x = is_there t _ h c.requires.held in
    let n = x.0 in
    let inner : Inner = attributes_changed at.moment (record n.inner { stored = Some (stored_of c.args.spelled) }) in
    let done : u ≡ ran (Touch n.id inner ∷ []) t = set_so t u (id_of h.id) n at.moment (found t n h x.1) (λ (x : Inner). record x { stored = Some (stored_of c.args.spelled) }) c.respell-done.result c.respell-done.ensures.calm c.respell-done.ensures.does in
    touched_totals c.args.quota.now t u n.id inner done
    (c.law_totals.ensures.touched_alike c.args.quota.now n.id inner n (world_of t) c.requires.counts x.1.node_is (same_bytes n inner refl))
