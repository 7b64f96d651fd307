use Rattle.std.proofs.Common.{◌≡◌, true, sym, ◌∙◌, arith}
use Rattle.std.proofs.lemmas.List.{length-map}
use Rattle.std.proofs.lemmas.Bool.{false≢true}
use Rattle.lnfs_world.specs.World.{is_given}
use Rattle.lnfs_site.specs.Site.{site_of}
use Rattle.lnfs_operations.specs.Bounds.{IsGivenBy}
use Rattle.lnfs_rows.specs.Told.{node_of, entry_of}
use Rattle.lnfs_rows.specs.Lasts.{given_of}
use Rattle.lnfs_fit.specs.RowsOf.{nodes_of, entries_of}
use Rattle.lnfs_fit.proofs.Mapped.{ids_rise, ids_all}
use Rattle.lnfs_fit.proofs.Together.{given_of_fit, bounds_of_fit, fits_of, entries_fit_of}
use Rattle.lnfs_fit.proofs.whole.are_fit.Goals as goal

pub returns-then-not-ids_fit : goal.returns-then-not-ids_fit
returns-then-not-ids_fit c =
    let site = site_of c.args.site.now in
    let last = c.args.last.now in
    let nodes = nodes_of c.args.nodes.now in
    let entries = entries_of c.args.entries.now in (
      λ never. absurd (false≢true never),
      λ fit. sym c.if-not-ids_fit.true ∙ c.ids_fit.ensures.1 (record {
        rise = ids_rise (λ n. n.id) nodes c.args.ids.now c.requires fit.facts.rise;
        given = ids_all (λ n. n.id) nodes c.args.ids.now c.requires (λ i. is_given (given_of last) i ≡ true) (given_of_fit site last nodes entries fit);
        bounds = ids_all (λ n. n.id) nodes c.args.ids.now c.requires (IsGivenBy site) (bounds_of_fit site last nodes entries fit);
        lasts = fit.lasts;
      }),
    )

pub returns-then-not-nodes_fit : goal.returns-then-not-nodes_fit
returns-then-not-nodes_fit c = (
  λ never. absurd (false≢true never),
  λ fit. sym c.if-not-nodes_fit.true ∙ c.nodes_fit.ensures.1
      (λ k k_in. fits_of (site_of c.args.site.now) c.args.last.now (nodes_of c.args.nodes.now) (entries_of c.args.entries.now) fit k (omega (arith, length-map c.args.nodes.now node_of, k_in))),
)

pub returns-then-not-entries_rise : goal.returns-then-not-entries_rise
returns-then-not-entries_rise c = (
  λ never. absurd (false≢true never),
  λ fit. sym c.if-not-entries_rise.true ∙ c.entries_rise.ensures.1 fit.facts.entries_rise,
)

pub returns-then-not-entries_fit : goal.returns-then-not-entries_fit
returns-then-not-entries_fit c = (
  λ never. absurd (false≢true never),
  λ fit. sym c.if-not-entries_fit.true ∙ c.entries_fit.ensures.1
      (λ t t_in. entries_fit_of (site_of c.args.site.now) c.args.last.now (nodes_of c.args.nodes.now) (entries_of c.args.entries.now) fit t (omega (arith, length-map c.args.entries.now entry_of, t_in))),
)

pub returns-then-not-differ : goal.returns-then-not-differ
returns-then-not-differ c = (
  λ never. absurd (false≢true never),
  λ fit. sym c.if-not-differ.true ∙ c.in_ok-differ.ensures.1 fit.facts.names,
)
