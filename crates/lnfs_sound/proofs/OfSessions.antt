-- What the tests of sessions tell together.
use Rattle.std.proofs.Common.{◌≡◌, ◌≤◌, ◌<◌, ℕ, true, List, sym, subst, length}
use Rattle.std.specs.Prelude.{◌==◌, count_by}
use Rattle.lnfs_world.specs.World.{Client, Session, is_given}
use Rattle.lnfs_world.specs.Facts.{has_confirmed}
use Rattle.lnfs_world.specs.Outcome.{Site}
use Rattle.lnfs_world.proofs.Rows.{all_weaker, all_two}
use Rattle.lnfs_operations.specs.declared.numbers.TheConstants.{SESSIONS_OF_A_LEVEL}
use Rattle.lnfs_operations.specs.Sizes.{SlotFits, SessionFits}
use Rattle.lnfs_operations.specs.Bounds.{IsGivenBy, SessionBounds}
use Rattle.lnfs_world.specs.declared.numbers.TheConstants.{LAST_SEQUENCE}
use Rattle.lnfs_rows.specs.declared.numbers.Id.{Id}
use Rattle.lnfs_rows.specs.Lasts.{given_of}
use Rattle.lnfs_decide.proofs.LastNumbers.{given_rise}
use Rattle.lnfs_fit.specs.Ids.{AreGiven}
use Rattle.lnfs_fit.specs.RowsOf.{ids_of, AreIdsOf}
use Rattle.lnfs_fit.proofs.Indexed.{all_at, at_all}
use Rattle.lnfs_fit.proofs.Mapped.{ids_rise, rows_rise, ids_all, rows_all}
use Rattle.lnfs_sound.specs.Parts.{IsFitSlot, IsFitSession, AreSessions}
use Rattle.lnfs_sound.specs.RowsOf.{no_session, nth_session}
use Rattle.lnfs_sound.proofs.Listed.{rows_counted}

module _ (site : Site) (clients : List Client) (last : List ℕ) (sessions : List Session) (ids : List Id) (are : AreIdsOf (λ x. x.id) sessions ids) where
  pub to_sessions : AreGiven site last (ids_of ids) → ((level : ℕ) → count_by (λ i. i.level == level) (ids_of ids) ≤ SESSIONS_OF_A_LEVEL) → ((k : ℕ) → k < length sessions → IsFitSession (nth_session sessions k)) → ((k : ℕ) → k < length sessions → has_confirmed clients (nth_session sessions k).id.level (nth_session sessions k).client ≡ true) → AreSessions site clients last sessions
  to_sessions given few fits behind =
      let bounds = rows_all (λ x. x.id) sessions ids are (IsGivenBy site) given.bounds in
      record {
        facts = record {
          rise = rows_rise (λ x. x.id) sessions ids are given.rise;
          lasts_rise = given_rise last;
          given = rows_all (λ x. x.id) sessions ids are (λ i. is_given (given_of last) i ≡ true) given.given;
          behind = at_all no_session (λ x. has_confirmed clients x.id.level x.client ≡ true) sessions behind;
        };
        sizes = at_all no_session SessionFits sessions (λ k k_in. record {
          granted = (fits k k_in).granted;
          slots = (fits k k_in).slots;
          kept = all_weaker _ _ (λ slot fit. fit.kept) (nth_session sessions k).slots (fits k k_in).each;
        });
        bounds = at_all no_session (SessionBounds site) sessions (λ k k_in. record {
          id = all_at no_session (λ x. IsGivenBy site x.id) sessions bounds k k_in;
          sequences = all_weaker _ _ (λ slot fit. fit.sequence) (nth_session sessions k).slots (fits k k_in).each;
        });
        lasts = given.lasts;
        few = λ level. subst (λ n. n ≤ SESSIONS_OF_A_LEVEL) (rows_counted (λ x. x.id) sessions ids are level) (few level);
      }

  module _ (sound : AreSessions site clients last sessions) where
    pub sessions_given : AreGiven site last (ids_of ids)
    sessions_given = record {
      rise = ids_rise (λ x. x.id) sessions ids are sound.facts.rise;
      given = ids_all (λ x. x.id) sessions ids are (λ i. is_given (given_of last) i ≡ true) sound.facts.given;
      bounds = ids_all (λ x. x.id) sessions ids are (IsGivenBy site) (all_weaker _ _ (λ x b. b.id) sessions sound.bounds);
      lasts = sound.lasts;
    }

    pub sessions_few : (level : ℕ) → count_by (λ i. i.level == level) (ids_of ids) ≤ SESSIONS_OF_A_LEVEL
    sessions_few level = subst (λ n. n ≤ SESSIONS_OF_A_LEVEL) (sym (rows_counted (λ x. x.id) sessions ids are level)) (sound.few level)

    pub sessions_fit : (k : ℕ) → k < length sessions → IsFitSession (nth_session sessions k)
    sessions_fit k k_in =
        let x = nth_session sessions k in
        let bounds = all_at no_session (SessionBounds site) sessions sound.bounds k k_in in
        let sizes = all_at no_session SessionFits sessions sound.sizes k k_in in
        record {
          granted = sizes.granted;
          slots = sizes.slots;
          each = all_two (λ slot. slot.sequence ≤ LAST_SEQUENCE) (SlotFits x.channel.max_response) (IsFitSlot x.channel.max_response) (λ slot sequence kept. record { sequence = sequence; kept = kept }) x.slots bounds.sequences sizes.kept;
        }

    pub sessions_behind : (k : ℕ) → k < length sessions → has_confirmed clients (nth_session sessions k).id.level (nth_session sessions k).client ≡ true
    sessions_behind k k_in = all_at no_session (λ x. has_confirmed clients x.id.level x.client ≡ true) sessions sound.facts.behind k k_in
