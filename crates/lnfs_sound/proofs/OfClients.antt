-- What the tests of clients tell together.
use Rattle.std.proofs.Common.{◌≡◌, ◌≤◌, ◌<◌, ℕ, true, List, sym, subst, length}
use Rattle.std.specs.Prelude.{◌==◌, count_by}
use Rattle.lnfs_world.specs.Rows.{Apart}
use Rattle.lnfs_world.specs.World.{Client, is_given}
use Rattle.lnfs_world.specs.Facts.{are_rivals}
use Rattle.lnfs_world.specs.Outcome.{Site}
use Rattle.lnfs_world.proofs.Rows.{all_weaker}
use Rattle.lnfs_operations.specs.declared.numbers.TheConstants.{CLIENTS_OF_A_LEVEL}
use Rattle.lnfs_operations.specs.Sizes.{ClientFits}
use Rattle.lnfs_operations.specs.Bounds.{IsGivenBy, ClientBounds}
use Rattle.lnfs_rows.specs.declared.numbers.Id.{Id}
use Rattle.lnfs_rows.specs.Lasts.{given_of}
use Rattle.lnfs_decide.proofs.LastNumbers.{given_rise}
use Rattle.lnfs_fit.specs.Ids.{AreGiven}
use Rattle.lnfs_fit.specs.RowsOf.{ids_of, AreIdsOf}
use Rattle.lnfs_fit.proofs.Indexed.{all_at, at_all}
use Rattle.lnfs_fit.proofs.Mapped.{ids_rise, rows_rise, ids_all, rows_all}
use Rattle.lnfs_sound.specs.Parts.{IsFitClient, AreClients}
use Rattle.lnfs_sound.specs.RowsOf.{no_client, nth_client}
use Rattle.lnfs_sound.proofs.Listed.{rows_counted}

module _ (site : Site) (last : List ℕ) (clients : List Client) (ids : List Id) (are : AreIdsOf (λ c. c.id) clients ids) where
  pub to_clients : AreGiven site last (ids_of ids) → ((level : ℕ) → count_by (λ i. i.level == level) (ids_of ids) ≤ CLIENTS_OF_A_LEVEL) → ((k : ℕ) → k < length clients → IsFitClient (nth_client clients k)) → Apart are_rivals clients → AreClients site last clients
  to_clients given few fits apart =
      let bounds = rows_all (λ c. c.id) clients ids are (IsGivenBy site) given.bounds in
      record {
        facts = record {
          rise = rows_rise (λ c. c.id) clients ids are given.rise;
          lasts_rise = given_rise last;
          given = rows_all (λ c. c.id) clients ids are (λ i. is_given (given_of last) i ≡ true) given.given;
          rivals = apart;
        };
        sizes = at_all no_client ClientFits clients (λ k k_in. record { kept = (fits k k_in).kept; seen = (fits k k_in).seen });
        bounds = at_all no_client (ClientBounds site) clients (λ k k_in. record {
          id = all_at no_client (λ c. IsGivenBy site c.id) clients bounds k k_in;
          owner = (fits k k_in).owner;
          verifier = (fits k k_in).verifier;
          sequence = (fits k k_in).sequence;
        });
        lasts = given.lasts;
        few = λ level. subst (λ n. n ≤ CLIENTS_OF_A_LEVEL) (rows_counted (λ c. c.id) clients ids are level) (few level);
      }

  module _ (sound : AreClients site last clients) where
    pub clients_given : AreGiven site last (ids_of ids)
    clients_given = record {
      rise = ids_rise (λ c. c.id) clients ids are sound.facts.rise;
      given = ids_all (λ c. c.id) clients ids are (λ i. is_given (given_of last) i ≡ true) sound.facts.given;
      bounds = ids_all (λ c. c.id) clients ids are (IsGivenBy site) (all_weaker _ _ (λ c b. b.id) clients sound.bounds);
      lasts = sound.lasts;
    }

    pub clients_few : (level : ℕ) → count_by (λ i. i.level == level) (ids_of ids) ≤ CLIENTS_OF_A_LEVEL
    clients_few level = subst (λ n. n ≤ CLIENTS_OF_A_LEVEL) (sym (rows_counted (λ c. c.id) clients ids are level)) (sound.few level)

    pub clients_fit : (k : ℕ) → k < length clients → IsFitClient (nth_client clients k)
    clients_fit k k_in =
        let bounds = all_at no_client (ClientBounds site) clients sound.bounds k k_in in
        let sizes = all_at no_client ClientFits clients sound.sizes k k_in in
        record { owner = bounds.owner; verifier = bounds.verifier; sequence = bounds.sequence; kept = sizes.kept; seen = sizes.seen }
