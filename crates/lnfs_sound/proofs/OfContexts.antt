-- What the tests of contexts tell together.
use Rattle.std.proofs.Common.{◌≡◌, ℕ, true, List}
use Rattle.lnfs_world.specs.World.{Context, is_given}
use Rattle.lnfs_world.specs.Outcome.{Site}
use Rattle.lnfs_operations.specs.Bounds.{IsGivenBy}
use Rattle.lnfs_rows.specs.declared.numbers.Id.{Id}
use Rattle.lnfs_rows.specs.Lasts.{given_of}
use Rattle.lnfs_decide.proofs.LastNumbers.{given_rise}
use Rattle.lnfs_fit.specs.Ids.{AreGiven}
use Rattle.lnfs_fit.specs.RowsOf.{ids_of, AreIdsOf}
use Rattle.lnfs_fit.proofs.Mapped.{ids_rise, rows_rise, ids_all, rows_all}
use Rattle.lnfs_sound.specs.Parts.{AreContexts}

module _ (site : Site) (last : List ℕ) (contexts : List Context) (ids : List Id) (are : AreIdsOf (λ x. x.id) contexts ids) where
  pub to_contexts : AreGiven site last (ids_of ids) → AreContexts site last contexts
  to_contexts given = record {
    facts = record {
      rise = rows_rise (λ x. x.id) contexts ids are given.rise;
      lasts_rise = given_rise last;
      given = rows_all (λ x. x.id) contexts ids are (λ i. is_given (given_of last) i ≡ true) given.given;
    };
    bounds = rows_all (λ x. x.id) contexts ids are (IsGivenBy site) given.bounds;
    lasts = given.lasts;
  }

  pub contexts_given : AreContexts site last contexts → AreGiven site last (ids_of ids)
  contexts_given sound = record {
    rise = ids_rise (λ x. x.id) contexts ids are sound.facts.rise;
    given = ids_all (λ x. x.id) contexts ids are (λ i. is_given (given_of last) i ≡ true) sound.facts.given;
    bounds = ids_all (λ x. x.id) contexts ids are (IsGivenBy site) sound.bounds;
    lasts = sound.lasts;
  }
