-- A lock by what names it is the first of all that is named so.
use Rattle.std.proofs.Common.{◌≡◌, ℕ, Bool, true, false, cond, ◌&&◌, List, [], ◌∷◌, Option, Some, None, refl, sym, ap, ◌∙◌, arith}
use Rattle.std.specs.Prelude.{◌==◌, find}
use Rattle.std.specs.Option.{option_and_then}
use Rattle.std.specs.Ordering.{is_le}
use Rattle.std.proofs.lemmas.Bool.Decides.{nat_tests}
use Rattle.lnfs_world.specs.Rows.{Rising}
use Rattle.lnfs_world.specs.World.{Id, id_order, same_id}
use Rattle.lnfs_world.proofs.Rows.{all_anyway}
use Rattle.lnfs_counts.proofs.Rows.{passing, one_passes}
use Rattle.lnfs_locks.specs.Locks.{Lock, lock_order, opening_id}
use Rattle.lnfs_locking.specs.Rows.{lock_id, lock_at}
use Rattle.lnfs_locking.specs.Walks.{from_on}

first_true : (a b : Bool) → (a && b) ≡ true → a ≡ true
first_true a b e = grind arith

narrowed : (i : Id) (q : Lock → Bool) (o : Option Lock) → ((l : Lock) → o ≡ Some l → same_id i l.id ≡ true) →
    passing (λ l. same_id i l.id && q l) o ≡ option_and_then (λ l. cond (q l) (Some l) None) o
narrowed i q None of = refl
narrowed i q (Some l) of = ap (λ b. cond (b && q l) (Some l) None) (of l refl)

at_own : (i : Id) (xs : List Lock) (l : Lock) → lock_at xs i ≡ Some l → same_id i l.id ≡ true
at_own i [] l found = absurd (cc)
at_own i (x ∷ xs) l found = grind (arith, at_own i xs l)

pub named_one : (i : Id) (q : Lock → Bool) (xs : List Lock) → Rising lock_order xs →
    option_and_then (λ l. cond (q l) (Some l) None) (lock_at xs i) ≡ find (λ l. same_id i l.id && q l) xs
named_one i q xs rising =
    sym (narrowed i q (lock_at xs i) (at_own i xs))
    ∙ sym (one_passes lock_id (λ l. same_id i l.id && q l) i xs rising (all_anyway _ (λ l e. first_true (same_id i l.id) (q l) e) xs))

-- ---- tests that agree

pub find_agree : (p q : Lock → Bool) (xs : List Lock) → ((l : Lock) → p l ≡ q l) → find p xs ≡ find q xs
find_agree p q [] same = refl
find_agree p q (x ∷ xs) same = grind (arith, same x, find_agree p q xs same)

merged : (a b c d e : Bool) → a ≡ true → b ≡ true → d ≡ true → (a && (b && (c && e))) ≡ ((d && c) && e)
merged a b c d e x y z = rw (x, y, z) refl

pub under_one : (level opening : ℕ) (of : List ℕ → Bool) (l : Lock) →
    from_on (record { level = level; number = 0 }) (λ x. opening == x.opening && of x.owner) l
    ≡ (same_id (record { level = level; number = opening }) (opening_id l) && of l.owner)
under_one level opening of l = by (l.id.level == level) refl
  where
    by : (b : Bool) → (l.id.level == level) ≡ b → from_on (record { level = level; number = 0 }) (λ x. opening == x.opening && of x.owner) l ≡ (same_id (record { level = level; number = opening }) (opening_id l) && of l.owner)
    by false is =
        let other : (level == l.id.level) ≡ false = grind (arith, nat_tests, is) in
        rw (is, other) refl
    by true is =
        let same : (level == l.id.level) ≡ true = grind (arith, nat_tests, is) in
        let le : is_le (id_order (record { level = level; number = 0 }) l.id) ≡ true = grind (arith, nat_tests, is) in
        merged (l.id.level == level) (is_le (id_order (record { level = level; number = 0 }) l.id)) (opening == l.opening) (level == l.id.level) (of l.owner) is le same
