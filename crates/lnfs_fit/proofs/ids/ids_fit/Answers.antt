use Rattle.std.proofs.Common.{◌≡◌, ◌<◌, true, length, sym, ◌∙◌, arith}
use Rattle.std.proofs.lemmas.List.{length-map}
use Rattle.std.proofs.lemmas.Bool.{false≢true}
use Rattle.lnfs_world.specs.World.{is_given}
use Rattle.lnfs_world.specs.Tree.{root}
use Rattle.lnfs_site.specs.Site.{site_of}
use Rattle.lnfs_operations.specs.Bounds.{IsGivenBy}
use Rattle.lnfs_rows.specs.Told.{id_of}
use Rattle.lnfs_rows.specs.Lasts.{given_of}
use Rattle.lnfs_fit.specs.RowsOf.{ids_of}
use Rattle.lnfs_fit.proofs.Indexed.{all_at, at_all}
use Rattle.lnfs_fit.proofs.LastFits.{to_lasts, of_lasts}
use Rattle.lnfs_fit.proofs.ids.ids_fit.Goals as goal

pub returns-then-not-lasts_fit : goal.returns-then-not-lasts_fit
returns-then-not-lasts_fit c = (
  λ never. absurd (false≢true never),
  λ given. sym c.if-not-lasts_fit.true ∙ c.lasts_fit.ensures.1 (of_lasts (site_of c.args.site.now) c.args.last.now given.lasts),
)

pub returns-then-not-rise : goal.returns-then-not-rise
returns-then-not-rise c = (
  λ never. absurd (false≢true never),
  λ given. sym c.if-not-rise.true ∙ c.rise.ensures.1 given.rise,
)

pub returns : goal.returns
returns c =
    let site = site_of c.args.site.now in
    let ids = ids_of c.args.ids.now in
    let len = length-map c.args.ids.now id_of in (
      λ fits.
          let each = c.each_fits.ensures.0 fits in
          record {
            rise = c.rise.ensures.0 c.if-not-rise.false;
            given = at_all root (λ i. is_given (given_of c.args.last.now) i ≡ true) ids (λ k k_in. (each k (omega (arith, len, k_in))).given);
            bounds = at_all root (IsGivenBy site) ids (λ k k_in. (each k (omega (arith, len, k_in))).bounds);
            lasts = to_lasts site c.args.last.now (c.lasts_fit.ensures.0 c.if-not-lasts_fit.false);
          },
      λ given. c.each_fits.ensures.1 (λ k k_in.
          let inside : k < length ids = omega (arith, len, k_in) in
          record {
            given = all_at root (λ i. is_given (given_of c.args.last.now) i ≡ true) ids given.given k inside;
            bounds = all_at root (IsGivenBy site) ids given.bounds k inside;
          }),
    )
