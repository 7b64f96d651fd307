-- The limits of a level, by what the walk of its locks counts.
use Rattle.std.proofs.Common.{◌≡◌, ◌≤◌, ◌<◌, ℕ, ◌+◌, Bool, true, false, ◌&&◌, List, [], ◌∷◌, length, refl, sym, ap, subst, ◌∙◌, arith}
use Rattle.std.specs.Prelude.{nat_le, sum_by}
use Rattle.std.specs.Ordering.{match_ordering}
use Rattle.std.specs.declared.cmp.Ordering.{Ordering}
use Rattle.std.specs.declared.cmp.Ordering.TheVariants.{Less, Equal, Greater}
use Rattle.std.proofs.lemmas.Bool.Decides.{nat_tests}
use Rattle.lnfs_world.specs.declared.numbers.TheConstants.{LAST_NUMBER}
use Rattle.lnfs_world.specs.Rows.{inserted}
use Rattle.lnfs_world.specs.World.{World, id_order}
use Rattle.lnfs_open.specs.Lists.{Lists, lists_of}
use Rattle.lnfs_locks.specs.declared.numbers.TheConstants.{LOCKS_OF_A_LEVEL, RANGES_OF_A_LEVEL}
use Rattle.lnfs_locks.specs.Locks.{Lock, Locks, lock_order}
use Rattle.lnfs_locks.specs.Effects.{live_with, has_lock_left, has_ranges_left}
use Rattle.lnfs_locks.specs.Facts.{LockFacts}
use Rattle.lnfs_locking.specs.Usage.{total, standing_with}
use Rattle.lnfs_locking.proofs.Totals.{sum_is_total}
use Rattle.lnfs_byte_locks.specs.Standing.{is_found}
use Rattle.lnfs_byte_locks.proofs.LiveLocks.{standing_live}

-- a lock's own part of a total
own_part : (f : Lock → ℕ) (l : Lock) (xs : List Lock) → f l ≤ total f (inserted lock_order l xs)
own_part f l [] = omega arith
own_part f l (x ∷ xs) = by (id_order l.id x.id) (own_part f l xs)
  where
    by : (o : Ordering) → f l ≤ total f (inserted lock_order l xs) →
        f l ≤ total f (match_ordering o (l ∷ x ∷ xs) (l ∷ xs) (x ∷ inserted lock_order l xs))
    by Less rest = omega arith
    by Equal rest = omega arith
    by Greater rest = omega (arith, rest)

le_false : (a b : ℕ) → b < a → nat_le a b ≡ false
le_false a b less = grind (arith, nat_tests)

le_true : (a b : ℕ) → a ≤ b → nat_le a b ≡ true
le_true a b le = grind (arith, nat_tests)

and_false : (a : Bool) → (a && false) ≡ false
and_false true = refl
and_false false = refl

-- more ranges than a level may have
pub too_many : (w : World) (l : Lock) (locks : List Lock) → RANGES_OF_A_LEVEL < length l.ranges → (has_lock_left w l locks && has_ranges_left w l locks) ≡ false
too_many w l locks more =
    let part : length l.ranges ≤ total (λ x. length x.ranges) (live_with w l locks) = own_part (λ x. length x.ranges) l _ in
    let sum : length l.ranges ≤ sum_by (λ x. length x.ranges) (live_with w l locks) = subst (λ (k : ℕ). length l.ranges ≤ k) (sym (sum_is_total (λ x. length x.ranges) (live_with w l locks))) part in
    ap (λ (b : Bool). has_lock_left w l locks && b) (le_false (sum_by (λ x. length x.ranges) (live_with w l locks)) RANGES_OF_A_LEVEL (omega (arith, sum, more)))
    ∙ and_false (has_lock_left w l locks)

and_true : (a b : Bool) → b ≡ true → a ≡ (a && b)
and_true true b is = sym is
and_true false b is = refl

-- as they are counted
pub counted : (w : World) (own : Locks) → LockFacts w own → (s : Lists) → s ≡ lists_of w → (l : Lock) (locks ranges : ℕ) → l.id.number ≤ LAST_NUMBER →
    locks ≡ length (standing_with (is_found s.opens) l own.locks) → ranges ≡ sum_by (λ x. length x.ranges) (standing_with (is_found s.opens) l own.locks) →
    (nat_le locks LOCKS_OF_A_LEVEL && nat_le ranges RANGES_OF_A_LEVEL) ≡ (has_lock_left w l own.locks && has_ranges_left w l own.locks)
counted w own facts s is l locks ranges few count_is sum_is =
    let live : standing_with (is_found s.opens) l own.locks ≡ live_with w l own.locks = ap (λ (t : Lists). standing_with (is_found t.opens) l own.locks) is ∙ standing_live w own facts l in
    (λ i. nat_le ((count_is ∙ ap (λ (ls : List Lock). length ls) live) i) LOCKS_OF_A_LEVEL && nat_le ((sum_is ∙ ap (λ (ls : List Lock). sum_by (λ x. length x.ranges) ls) live) i) RANGES_OF_A_LEVEL)
    ∙ ap (λ (b : Bool). b && has_ranges_left w l own.locks) (and_true (nat_le (length (live_with w l own.locks)) LOCKS_OF_A_LEVEL) (nat_le l.id.number LAST_NUMBER) (le_true _ _ few))
