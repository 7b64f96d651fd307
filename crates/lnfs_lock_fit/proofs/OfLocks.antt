-- What the tests of locks tell together.
use Rattle.std.proofs.Common.{◌≡◌, ◌≤◌, ◌<◌, ℕ, true, List, sym, subst, length}
use Rattle.std.specs.Prelude.{◌==◌, count_by}
use Rattle.std.specs.List.{AllByRecursion}
use Rattle.lnfs_world.specs.Rows.{Apart}
use Rattle.lnfs_world.specs.World.{World, is_given}
use Rattle.lnfs_world.specs.Outcome.{Site}
use Rattle.lnfs_world.proofs.Rows.{all_weaker, all_two}
use Rattle.lnfs_operations.specs.Bounds.{IsGivenBy}
use Rattle.lnfs_rows.specs.declared.numbers.Id.{Id}
use Rattle.lnfs_rows.specs.Lasts.{given_of}
use Rattle.lnfs_decide.proofs.LastNumbers.{given_rise}
use Rattle.lnfs_fit.specs.Ids.{AreGiven}
use Rattle.lnfs_fit.specs.RowsOf.{ids_of, AreIdsOf}
use Rattle.lnfs_fit.proofs.Indexed.{all_at, at_all}
use Rattle.lnfs_fit.proofs.Mapped.{ids_rise, rows_rise, ids_all, rows_all}
use Rattle.lnfs_sound.proofs.Listed.{rows_counted}
use Rattle.lnfs_locks.specs.declared.numbers.TheConstants.{LOCKS_OF_A_LEVEL, RANGES_OF_A_LEVEL}
use Rattle.lnfs_locks.specs.Locks.{Lock, Locks}
use Rattle.lnfs_locks.specs.Facts.{are_doubles, ranges_at}
use Rattle.lnfs_lock_rows.specs.Bounds.{LockBounds, LocksFit}
use Rattle.lnfs_lock_fit.specs.Parts.{IsFitLock}
use Rattle.lnfs_lock_fit.specs.RowsOf.{no_lock, nth_lock}

module _ (site : Site) (w : World) (last : List ℕ) (locks : List Lock) (ids : List Id) (are : AreIdsOf (λ (l : Lock). l.id) locks ids) where
  abbrev pub all_of : Locks
  all_of = record { lasts = given_of last; locks = locks }

  pub of_site : AreGiven site last (ids_of ids) → AllByRecursion (λ l. IsGivenBy site l.id) locks
  of_site given = rows_all (λ l. l.id) locks ids are (IsGivenBy site) given.bounds

  pub to_locks : AreGiven site last (ids_of ids) → ((level : ℕ) → count_by (λ i. i.level == level) (ids_of ids) ≤ LOCKS_OF_A_LEVEL) → ((k : ℕ) → k < length locks → IsFitLock site w (nth_lock locks k)) → ((level : ℕ) → ranges_at level locks ≤ RANGES_OF_A_LEVEL) → Apart (are_doubles w) locks → LocksFit site w all_of
  to_locks given few fits ranges apart =
      let all = at_all no_lock (IsFitLock site w) locks fits in
      record {
        facts = record {
          rise = rows_rise (λ l. l.id) locks ids are given.rise;
          lasts_rise = given_rise last;
          given = rows_all (λ l. l.id) locks ids are (λ i. is_given (given_of last) i ≡ true) given.given;
          opening_given = all_weaker _ _ (λ l fit. fit.opening.given) locks all;
          under = all_weaker _ _ (λ l fit. fit.opening.under) locks all;
          apart = apart;
          owners = all_weaker _ _ (λ l fit. fit.numbers.owner) locks all;
          runs = all_weaker _ _ (λ l fit. fit.ranges.runs) locks all;
          locks = λ level. subst (λ n. n ≤ LOCKS_OF_A_LEVEL) (rows_counted (λ l. l.id) locks ids are level) (few level);
          ranges = ranges;
        };
        bounds = record {
          locks = all_two (λ l. IsGivenBy site l.id) (IsFitLock site w) (LockBounds site) (λ l id fit. record {
            id = id;
            client = fit.numbers.client;
            opening = fit.numbers.opening;
            node = fit.node;
            sequence = fit.numbers.sequence;
            ranges = fit.ranges.ends;
          }) locks (of_site given) all;
          lasts = given.lasts;
        };
      }

  module _ (fit : LocksFit site w all_of) where
    pub locks_given : AreGiven site last (ids_of ids)
    locks_given = record {
      rise = ids_rise (λ l. l.id) locks ids are fit.facts.rise;
      given = ids_all (λ l. l.id) locks ids are (λ i. is_given (given_of last) i ≡ true) fit.facts.given;
      bounds = ids_all (λ l. l.id) locks ids are (IsGivenBy site) (all_weaker _ _ (λ l bounds. bounds.id) locks fit.bounds.locks);
      lasts = fit.bounds.lasts;
    }

    pub locks_few : (level : ℕ) → count_by (λ i. i.level == level) (ids_of ids) ≤ LOCKS_OF_A_LEVEL
    locks_few level = subst (λ n. n ≤ LOCKS_OF_A_LEVEL) (sym (rows_counted (λ l. l.id) locks ids are level)) (fit.facts.locks level)

    pub lock_fits : (k : ℕ) → k < length locks → IsFitLock site w (nth_lock locks k)
    lock_fits k k_in =
        let bounds = all_at no_lock (LockBounds site) locks fit.bounds.locks k k_in in
        record {
          numbers = record {
            client = bounds.client;
            opening = bounds.opening;
            sequence = bounds.sequence;
            owner = all_at no_lock _ locks fit.facts.owners k k_in;
          };
          node = bounds.node;
          ranges = record { runs = all_at no_lock _ locks fit.facts.runs k k_in; ends = bounds.ranges };
          opening = record {
            given = all_at no_lock _ locks fit.facts.opening_given k k_in;
            under = all_at no_lock _ locks fit.facts.under k k_in;
          };
        }
