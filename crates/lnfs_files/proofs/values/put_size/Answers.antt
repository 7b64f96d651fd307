use Rattle.std.proofs.Common.{◌≡◌, ◌≤◌, ◌∙◌, ap, sym, subst, ℕ, List, length, [], ◌∷◌}
use Rattle.lnfs_world.specs.World.{Id, Node, Inner}
use Rattle.lnfs_world.specs.Change.{Touch}
use Rattle.lnfs_world.specs.Effects.{sized, data_changed}
use Rattle.lnfs_world.specs.declared.numbers.TheConstants.{LAST_NUMBER, MOST_FILE}
use Rattle.lnfs_quota.specs.declared.quota.Row.{Row}
use Rattle.lnfs_quota.specs.Totals.{AreTotals}
use Rattle.lnfs_tree.specs.Rows.{id_of}
use Rattle.lnfs_tree.specs.Changed.{ran}
use Rattle.lnfs_tree.specs.Places.{world_of}
use Rattle.lnfs_quota.proofs.Kept.{resized_levels}
use Rattle.lnfs_files.proofs.WriteOn.{found}
use Rattle.lnfs_files.proofs.Writes.{up_to}
use Rattle.lnfs_files.proofs.Sizes.{sized_so, sized_totals, sized_bytes, held_kind}
use Rattle.lnfs_files.proofs.values.put_size.Goals as goal

pub resize-requires : goal.resize-requires
resize-requires c = record { known = c.requires.resizes.held.0; held = c.requires.resizes.held.1; fits = c.requires.resizes.fits }

pub returns-clause-done : goal.returns-clause-done
returns-clause-done c = λ n holds.
    let t = c.args.tree.now in
    let h = c.args.held.now in
    sized_so t c.set_size-done.new.self (id_of h.id) n c.args.moment (found t n h holds) c.args.size (held_kind t n h holds c.requires.file) (up_to c.args.size MOST_FILE c.requires.fits) c.set_size-done.result c.set_size-done.ensures.calm c.set_size-done.ensures.does

pub returns-clause-counts : goal.returns-clause-counts
returns-clause-counts c =
    let rows = c.args.quota.now in
    let t = c.args.tree.now in
    let u = c.set_size-done.new.self in
    let h = c.args.held.now in
    let n : Node = c.requires.there.0 in
    let holds = c.requires.there.1 in
    let inner : Inner = data_changed c.args.moment (sized c.args.size n.inner.content) n.inner in
    let done : u ≡ ran (Touch n.id inner ∷ []) t =
    sized_so t u (id_of h.id) n c.args.moment (found t n h holds) c.args.size (held_kind t n h holds c.requires.file) (up_to c.args.size MOST_FILE c.requires.fits) c.set_size-done.result c.set_size-done.ensures.calm c.set_size-done.ensures.does in
    subst (λ (rows : List Row). AreTotals rows u.nodes) (sym c.resize.ensures)
    (sized_totals rows t u n h holds c.args.moment c.args.size c.requires.file done (c.law_totals.ensures.touched rows n.id inner n (world_of t) c.requires.counts holds.node_is
    (subst (λ (b : ℕ). b ≤ MOST_FILE) (sym (sized_bytes n c.args.moment c.args.size (held_kind t n h holds c.requires.file))) c.requires.fits)
    (subst (λ (i : Id). i.number ≤ LAST_NUMBER) holds.id c.law_numbered.ensures)))

pub returns-clause-levels : goal.returns-clause-levels
returns-clause-levels c = ap (λ (rows : List Row). length rows) c.resize.ensures ∙ resized_levels c.args.quota.now c.args.held.now.facts.label.0 c.args.held.now.facts.size c.args.size
