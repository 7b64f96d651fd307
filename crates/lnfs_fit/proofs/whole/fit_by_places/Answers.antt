use Rattle.std.proofs.Common.{◌≡◌, ◌<◌, ◌||◌, ℕ, true, sym, ◌∙◌, arith, length}
use Rattle.std.proofs.lemmas.List.{length-map}
use Rattle.std.proofs.lemmas.Bool.{false≢true}
use Rattle.lnfs_world.specs.World.{label_at, is_given}
use Rattle.lnfs_world.specs.Facts.{is_held}
use Rattle.lnfs_site.specs.Site.{site_of}
use Rattle.lnfs_operations.specs.Bounds.{IsGivenBy, EntryBounds}
use Rattle.lnfs_rows.specs.Told.{node_of, entry_of}
use Rattle.lnfs_rows.specs.Lasts.{given_of}
use Rattle.lnfs_fit.specs.Places.{nth_node, nth_entry}
use Rattle.lnfs_fit.specs.Fits.{IsFitNode, fits_in, is_home}
use Rattle.lnfs_fit.specs.RowsOf.{nodes_of, entries_of}
use Rattle.lnfs_fit.proofs.Mapped.{rows_all}
use Rattle.lnfs_fit.proofs.Tail.{told_as}
use Rattle.lnfs_fit.proofs.Together.{whole, names_fit_of, held_of, tree_of_fit}
use Rattle.lnfs_fit.proofs.whole.fit_by_places.Goals as goal

pub returns-then-not-names_fit : goal.returns-then-not-names_fit
returns-then-not-names_fit c =
    let count = length-map c.args.entries.now entry_of in (
      λ never. absurd (false≢true never),
      λ fit. sym c.if-not-names_fit.true ∙ c.names_fit.ensures.1
          (λ t t_in. names_fit_of (site_of c.args.site.now) c.args.last.now (nodes_of c.args.nodes.now) (entries_of c.args.entries.now) fit t (omega (arith, count, t_in))),
    )

pub returns-then-not-held : goal.returns-then-not-held
returns-then-not-held c =
    let len = length-map c.args.nodes.now node_of in (
      λ never. absurd (false≢true never),
      λ fit. sym c.if-not-held.true ∙ c.in_ok-held.ensures.1
          (λ k k_in. held_of (site_of c.args.site.now) c.args.last.now (nodes_of c.args.nodes.now) (entries_of c.args.entries.now) fit k (omega (arith, len, k_in))),
    )

pub returns-then-not-few : goal.returns-then-not-few
returns-then-not-few c = (
  λ never. absurd (false≢true never),
  λ fit. sym c.if-not-few.true ∙ c.in_ok-few.ensures.1 fit.names,
)

pub returns : goal.returns
returns c =
    let site = site_of c.args.site.now in
    let last = c.args.last.now in
    let nodes = nodes_of c.args.nodes.now in
    let entries = entries_of c.args.entries.now in
    let len = length-map c.args.nodes.now node_of in
    let count = length-map c.args.entries.now entry_of in
    let given = rows_all (λ n. n.id) nodes c.args.ids.now c.requires.ids (λ i. is_given (given_of last) i ≡ true) c.requires.given.given in
    let bounds = rows_all (λ n. n.id) nodes c.args.ids.now c.requires.ids (IsGivenBy site) c.requires.given.bounds in
    let fits : (k : ℕ) → k < length nodes → IsFitNode site (nth_node nodes k) = λ k k_in. c.requires.nodes k (omega (arith, len, k_in)) in
    let entries_fit : (t : ℕ) → t < length entries → EntryBounds (nth_entry entries t) = λ t t_in. c.requires.bounds t (omega (arith, count, t_in)) in
    let names : (t : ℕ) → t < length entries → fits_in site.dom nodes (nth_entry entries t) ≡ true = λ t t_in. c.names_fit.ensures.0 c.if-not-names_fit.false t (omega (arith, count, t_in)) in
    let held : (k : ℕ) → k < length nodes → (is_home nodes k || is_held (label_at nodes) entries (nth_node nodes k).id) ≡ true = λ k k_in. c.in_ok-held.ensures.0 c.if-not-held.false k (omega (arith, len, k_in)) in
    told_as c.is_tree_by_places.result _ _ c.is_tree_by_places.ensures
    (λ tree. whole site last nodes entries c.requires.rise given bounds c.requires.given.lasts c.requires.entries c.requires.apart fits entries_fit names held (c.in_ok-few.ensures.0 c.if-not-few.false) tree)
    (λ fit. tree_of_fit site last nodes entries fit)
