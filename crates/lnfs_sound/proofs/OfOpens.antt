-- What the tests of opens tell together.
use Rattle.std.proofs.Common.{◌≡◌, ◌≤◌, ◌<◌, ℕ, true, List, sym, subst, length}
use Rattle.std.specs.Prelude.{◌==◌, count_by}
use Rattle.lnfs_world.specs.World.{Id as RowId, Client, Open, is_given}
use Rattle.lnfs_world.specs.Outcome.{Site}
use Rattle.lnfs_world.proofs.Rows.{all_weaker}
use Rattle.lnfs_world.specs.declared.numbers.TheConstants.{OPENS_OF_A_LEVEL}
use Rattle.lnfs_operations.specs.Bounds.{IsGivenBy, OpenBounds}
use Rattle.lnfs_rows.specs.declared.numbers.Id.{Id}
use Rattle.lnfs_rows.specs.Lasts.{given_of}
use Rattle.lnfs_fit.specs.Ids.{AreGiven}
use Rattle.lnfs_fit.specs.RowsOf.{ids_of, AreIdsOf}
use Rattle.lnfs_fit.proofs.Indexed.{all_at, at_all}
use Rattle.lnfs_fit.proofs.Mapped.{ids_rise, rows_rise, ids_all, rows_all}
use Rattle.lnfs_sound.specs.Parts.{IsFitOpen, FitOthers, AreOpens}
use Rattle.lnfs_sound.specs.RowsOf.{no_open, nth_open}
use Rattle.lnfs_sound.proofs.Listed.{rows_counted}

module _ (site : Site) (clients : List Client) (node_ids : List RowId) (last : List ℕ) (opens : List Open) (ids : List Id) (are : AreIdsOf (λ o. o.id) opens ids) where
  pub to_opens : AreGiven site last (ids_of ids) → ((level : ℕ) → count_by (λ i. i.level == level) (ids_of ids) ≤ OPENS_OF_A_LEVEL) → ((k : ℕ) → k < length opens → IsFitOpen (nth_open opens k)) → FitOthers site clients node_ids opens → AreOpens site clients node_ids last opens
  to_opens given few fits others =
      let bounds = rows_all (λ o. o.id) opens ids are (IsGivenBy site) given.bounds in
      record {
        rise = rows_rise (λ o. o.id) opens ids are given.rise;
        given = rows_all (λ o. o.id) opens ids are (λ i. is_given (given_of last) i ≡ true) given.given;
        others = others;
        bounds = at_all no_open (OpenBounds site) opens (λ k k_in. record {
          id = all_at no_open (λ o. IsGivenBy site o.id) opens bounds k k_in;
          owner = (fits k k_in).owner;
          access = (fits k k_in).access;
          deny = (fits k k_in).deny;
          sequence = (fits k k_in).sequence;
        });
        lasts = given.lasts;
        few = λ level. subst (λ n. n ≤ OPENS_OF_A_LEVEL) (rows_counted (λ o. o.id) opens ids are level) (few level);
      }

  module _ (sound : AreOpens site clients node_ids last opens) where
    pub opens_given : AreGiven site last (ids_of ids)
    opens_given = record {
      rise = ids_rise (λ o. o.id) opens ids are sound.rise;
      given = ids_all (λ o. o.id) opens ids are (λ i. is_given (given_of last) i ≡ true) sound.given;
      bounds = ids_all (λ o. o.id) opens ids are (IsGivenBy site) (all_weaker _ _ (λ o b. b.id) opens sound.bounds);
      lasts = sound.lasts;
    }

    pub opens_few : (level : ℕ) → count_by (λ i. i.level == level) (ids_of ids) ≤ OPENS_OF_A_LEVEL
    opens_few level = subst (λ n. n ≤ OPENS_OF_A_LEVEL) (sym (rows_counted (λ o. o.id) opens ids are level)) (sound.few level)

    pub opens_fit : (k : ℕ) → k < length opens → IsFitOpen (nth_open opens k)
    opens_fit k k_in =
        let bounds = all_at no_open (OpenBounds site) opens sound.bounds k k_in in
        record { owner = bounds.owner; access = bounds.access; deny = bounds.deny; sequence = bounds.sequence }
