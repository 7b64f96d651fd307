use Rattle.std.proofs.Common.{◌<◌, length, sym, ◌∙◌, arith}
use Rattle.std.proofs.lemmas.Bool.{false≢true}
use Rattle.lnfs_site.specs.Site.{site_of}
use Rattle.lnfs_fit.specs.Places.{no_node}
use Rattle.lnfs_fit.specs.RowsOf.{nodes_of, entries_of}
use Rattle.lnfs_fit.proofs.Mapped.{ids_len, id_nth, rows_rise}
use Rattle.lnfs_fit.proofs.Missing.{no_root_missing, root_is_dir}
use Rattle.lnfs_fit.proofs.Together.{tree_of_fit}
use Rattle.lnfs_fit.proofs.whole.fit_together.Goals as goal

pub returns-in_default : goal.returns-in_default
returns-in_default c =
    let nodes = nodes_of c.args.nodes.now in
    let entries = entries_of c.args.entries.now in
    let many = ids_len (λ n. n.id) nodes c.args.ids.now c.requires.ids in (
      λ never. absurd (false≢true never),
      λ fit. absurd (no_root_missing nodes fit.facts.rise entries (tree_of_fit (site_of c.args.site.now) c.args.last.now nodes entries fit)
          (λ k k_in is. c.in_default.ensures.missing k (omega (arith, many, k_in)) (id_nth (λ n. n.id) nodes c.args.ids.now c.requires.ids no_node k k_in ∙ is))),
    )

pub returns-then-not-is_dir_at : goal.returns-then-not-is_dir_at
returns-then-not-is_dir_at c =
    let nodes = nodes_of c.args.nodes.now in
    let entries = entries_of c.args.entries.now in
    let found = c.in-Some.ensures.found in
    let inside : c.in-Some.top < length nodes = omega (arith, ids_len (λ n. n.id) nodes c.args.ids.now c.requires.ids, found.0) in (
      λ never. absurd (false≢true never),
      λ fit. sym c.if-not-is_dir_at.true ∙ c.is_dir_at.ensures ∙ root_is_dir nodes fit.facts.rise entries (tree_of_fit (site_of c.args.site.now) c.args.last.now nodes entries fit) c.in-Some.top inside
          (sym (id_nth (λ n. n.id) nodes c.args.ids.now c.requires.ids no_node c.in-Some.top inside) ∙ found.1),
    )

pub places_of-requires : goal.places_of-requires
places_of-requires c = record {
  ids = c.requires.ids;
  order = c.requires.given.rise;
  rise = rows_rise (λ n. n.id) (nodes_of c.args.nodes.now) c.args.ids.now c.requires.ids c.requires.given.rise;
}

pub fit_by_places-requires-clause-rise : goal.fit_by_places-requires-clause-rise
fit_by_places-requires-clause-rise c = rows_rise (λ n. n.id) (nodes_of c.args.nodes.now) c.args.ids.now c.requires.ids c.requires.given.rise

pub fit_by_places-requires-clause-top : goal.fit_by_places-requires-clause-top
fit_by_places-requires-clause-top c =
    let nodes = nodes_of c.args.nodes.now in
    let found = c.in-Some.ensures.found in
    let inside : c.in-Some.top < length nodes = omega (arith, ids_len (λ n. n.id) nodes c.args.ids.now c.requires.ids, found.0) in
    record {
      within = inside;
      is_root = sym (id_nth (λ n. n.id) nodes c.args.ids.now c.requires.ids no_node c.in-Some.top inside) ∙ found.1;
      directory = sym c.is_dir_at.ensures ∙ c.if-not-is_dir_at.false;
    }

pub returns-in-None : goal.returns-in-None
returns-in-None c =
    let missing = rw c.in-None.is at c.in_ok-places.ensures.missing in (
      λ never. absurd (false≢true never),
      λ fit. absurd (missing (tree_of_fit (site_of c.args.site.now) c.args.last.now (nodes_of c.args.nodes.now) (entries_of c.args.entries.now) fit).joined),
    )
