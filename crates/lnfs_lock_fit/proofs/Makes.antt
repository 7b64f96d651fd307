-- The locks of a server can be made of those that fit.
use Rattle.std.proofs.Common.{◌≡◌, ◌<◌, ◌≤◌, ◌==◌, ℕ, Bool, true, false, cond, nat_lt, sym, subst, arith}
use Rattle.std.specs.Prelude.{◌^◌}
use Rattle.std.proofs.lemmas.Bool.{ltb-true, eqb-true}
use Rattle.lnfs_calipso.specs.declared.lattice.TheConstants.{MAX_LEVELS}
use Rattle.lnfs_world.specs.World.{Id, World}
use Rattle.lnfs_world.specs.Outcome.{Site}
use Rattle.lnfs_world.proofs.Rows.{all_weaker, all_two}
use Rattle.lnfs_operations.specs.Sizes.{is_level}
use Rattle.lnfs_operations.specs.Bounds.{IsGivenBy}
use Rattle.lnfs_counts.specs.Counters.{FitsCounter}
use Rattle.lnfs_ranges.specs.Modes.{AreRuns}
use Rattle.lnfs_locks.specs.Locks.{Lock, Locks}
use Rattle.lnfs_lock_rows.specs.Bounds.{LockBounds, LocksFit}
use Rattle.lnfs_locking.specs.Makes.{IsStorable, MakesLocks}

some_levels : 0 < MAX_LEVELS
some_levels = let below : 0 < 32 = omega arith in below

few_levels : (level : ℕ) → level < MAX_LEVELS → level < 2 ^ 32
few_levels level less = let below : level < 32 = less in omega (arith, below)

module _ (site : Site) (few : site.levels ≤ MAX_LEVELS) where
  short : (level : ℕ) → is_level site level ≡ true → level < 2 ^ 32
  short level is = few_levels level (at site.limited is)
    where
      at : (limited : Bool) → cond limited (level == 0) (nat_lt level site.levels) ≡ true → level < MAX_LEVELS
      at true is = subst (λ (n : ℕ). n < MAX_LEVELS) (sym (eqb-true level 0 is)) some_levels
      at false is = let less = ltb-true level site.levels is in omega (arith, less, few)

  fits_counter : (i : Id) → IsGivenBy site i → FitsCounter i
  fits_counter i given = record { level = short i.level given.level; number = given.number.1 }

  storable : (l : Lock) → LockBounds site l → AreRuns l.ranges → IsStorable l
  storable l bounds runs = record {
    number = bounds.id.number.1;
    client = bounds.client.1;
    opening = bounds.opening.1;
    node = bounds.node.number.1;
    runs = runs;
  }

  pub makes_locks : (w : World) (own : Locks) → LocksFit site w own → MakesLocks own
  makes_locks w own fit = record {
    rows = record {
      rise = fit.facts.rise;
      storable = all_two (LockBounds site) (λ l. AreRuns l.ranges) IsStorable storable own.locks fit.bounds.locks fit.facts.runs;
    };
    lasts = all_weaker _ _ fits_counter own.lasts fit.bounds.lasts;
  }
