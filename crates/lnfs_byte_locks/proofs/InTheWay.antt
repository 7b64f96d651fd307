-- The lock that stands in the way of another, by what the locks tell.
use Rattle.std.proofs.Common.{◌≡◌, ◌≤◌, ◌+◌, ℕ, refl, sym, subst, Bool, true, false, cond, List, [], ◌∷◌, Option, Some, None, length, arith}
use Rattle.std.specs.Prelude.{find, if◌then◌else◌}
use Rattle.std.specs.Option.{option_map, option_or}
use Rattle.lnfs_arguments.specs.declared.numbers.TheConstants.{OWNER_LIMIT}
use Rattle.lnfs_world.specs.World.{Id, World, same_id}
use Rattle.lnfs_ranges.specs.declared.range.LockRange.{LockRange}
use Rattle.lnfs_ranges.specs.Modes.{AreRuns, RiseFrom, conflicts}
use Rattle.lnfs_locks.specs.Locks.{Lock, Locks}
use Rattle.lnfs_locks.specs.Denial.{Denial, denial}
use Rattle.lnfs_locks.specs.Facts.{LockFacts}
use Rattle.lnfs_locks.proofs.LockBefore.{denial_of_kept}
use Rattle.lnfs_locking.specs.declared.search.Denied as code
use Rattle.lnfs_locking.specs.Asking.{denial_of}
use Rattle.lnfs_byte_locks.specs.Answers.{CanBeTold}

-- ranges that rise are ranges
rising_range : (x : ℕ) (q : LockRange → Bool) (rs : List LockRange) (r : LockRange) → RiseFrom x rs → find q rs ≡ Some r → r.first ≤ r.last
rising_range x q [] r rise found = absurd cc
rising_range x q (y ∷ rs) r rise found = at (q y) (rising_range (y.last + 1) q rs r rise.2) found
  where
    at : (b : Bool) → (find q rs ≡ Some r → r.first ≤ r.last) → (if b then Some y else find q rs) ≡ Some r → r.first ≤ r.last
    at true rest e = let same : y ≡ r = cc in subst (λ (z : LockRange). z.first ≤ z.last) same rise.1
    at false rest e = rest e

-- the range that is told is found among those of its lock
told_range : (node : Id) (rival : Lock → Bool) (first last : ℕ) (write : Bool) (locks : List Lock) (d : Denial) → denial rival node first last write locks ≡ Some d → find (conflicts first last write) d.lock.ranges ≡ Some d.range
told_range node rival first last write [] d e = absurd cc
told_range node rival first last write (l ∷ locks) d e = at (same_id node l.node) (rival l) (find (conflicts first last write) l.ranges) refl (told_range node rival first last write locks d) e
  where
    at : (a b : Bool) (o : Option LockRange) → find (conflicts first last write) l.ranges ≡ o
        → (denial rival node first last write locks ≡ Some d → find (conflicts first last write) d.lock.ranges ≡ Some d.range)
        → option_or (cond a (cond b (option_map (λ r. record { lock = l; range = r }) o) None) None) (denial rival node first last write locks) ≡ Some d
        → find (conflicts first last write) d.lock.ranges ≡ Some d.range
    at true true (Some r) is rest told =
        let same : (record { lock = l; range = r }) ≡ d = cc in
        subst (λ (x : Denial). find (conflicts first last write) x.lock.ranges ≡ Some x.range) same is
    at true true None is rest told = rest told
    at true false o is rest told = rest told
    at false b o is rest told = rest told

-- what is told is of a lock that is kept
pub can_be_told : (w : World) (own : Locks) → LockFacts w own → (node : Id) (rival : Lock → Bool) (first last : ℕ) (write : Bool) (result : Option code.Denied)
    → option_map denial_of result ≡ denial rival node first last write own.locks → CanBeTold result
can_be_told w own facts node rival first last write None e = tt
can_be_told w own facts node rival first last write (Some d) e =
    let runs : AreRuns (denial_of d).lock.ranges = denial_of_kept (λ l. AreRuns l.ranges) node rival first last write own.locks (denial_of d) facts.runs (sym e) in
    let short : length (denial_of d).lock.owner ≤ OWNER_LIMIT = denial_of_kept (λ l. length l.owner ≤ OWNER_LIMIT) node rival first last write own.locks (denial_of d) facts.owners (sym e) in
    record {
      range = rising_range 0 (conflicts first last write) (denial_of d).lock.ranges (denial_of d).range runs.rising (told_range node rival first last write own.locks (denial_of d) (sym e));
      owner = omega (arith, short);
    }
