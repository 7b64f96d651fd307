-- Lists of ranges that are joined bit by bit.
use Rattle.std.proofs.Common.{◌≡◌, ℕ, ◌+◌, Bool, true, false, cond, List, [], ◌∷◌, ◌++◌, refl, ap, sym, ◌∙◌}
use Rattle.std.specs.Prelude.{nat_eq}
use Rattle.std.proofs.lemmas.Bool.{cond-true, cond-false, cond_both, and_parts, and_from}
use mathlib.Core.Bool.{beq}
use Rattle.lnfs_ranges.specs.declared.range.LockRange.{LockRange}
use Rattle.lnfs_ranges.specs.Modes.{touches, joins, joined, IsApart, AreApart}

-- a test with what it tells
pub by_test : (b : Bool) (P : Bool → Type 0) → (b ≡ true → P true) → (b ≡ false → P false) → P b
by_test true P on off = on refl
by_test false P on off = off refl

beq_through : (a b c : Bool) → beq a b ≡ true → beq b c ≡ true → beq a c ≡ true
beq_through true true c h k = k
beq_through true false c h k = cc
beq_through false true c h k = cc
beq_through false false c h k = k

-- a list behind others, each joined to what follows
abbrev pub laid : List LockRange → List LockRange → List LockRange
laid [] ys = ys
laid (r ∷ rs) ys = joins r (laid rs ys)

touches_through : (r z y : LockRange) → touches r z ≡ true → touches z y ≡ true → touches r (record y { first = z.first }) ≡ true
touches_through r z y t u =
    let a = and_parts (nat_eq (r.last + 1) z.first) (beq r.write z.write) t in
    let b = and_parts (nat_eq (z.last + 1) y.first) (beq z.write y.write) u in
    and_from (nat_eq (r.last + 1) z.first) (beq r.write y.write) a.0 (beq_through r.write z.write y.write a.1 b.1)

-- what touches may be joined first
joins_twice : (r z : LockRange) (ys : List LockRange) → touches r z ≡ true → joins (record z { first = r.first }) ys ≡ joins r (joins z ys)
joins_twice r z [] t = sym (cond-true (touches r z) (record z { first = r.first } ∷ []) (r ∷ z ∷ []) t)
joins_twice r z (y ∷ ys) t =
    by_test (touches z y) (λ b. cond b (record y { first = r.first } ∷ ys) (record z { first = r.first } ∷ y ∷ ys) ≡ joins r (cond b (record y { first = z.first } ∷ ys) (z ∷ y ∷ ys)))
    (λ u. sym (cond-true (touches r (record y { first = z.first })) (record y { first = r.first } ∷ ys) (r ∷ record y { first = z.first } ∷ ys) (touches_through r z y t u)))
    (λ u. sym (cond-true (touches r z) (record z { first = r.first } ∷ y ∷ ys) (r ∷ z ∷ y ∷ ys) t))

laid-joins : (r : LockRange) (zs ys : List LockRange) → laid (joins r zs) ys ≡ joins r (laid zs ys)
laid-joins r [] ys = refl
laid-joins r (z ∷ zs) ys =
    cond_both (touches r z) (record z { first = r.first } ∷ zs) (r ∷ z ∷ zs) (λ m. laid m ys ≡ joins r (joins z (laid zs ys)))
    (λ t. joins_twice r z (laid zs ys) t) (λ t. refl)

laid-joined : (xs ys : List LockRange) → laid (joined xs) ys ≡ laid xs ys
laid-joined [] ys = refl
laid-joined (x ∷ xs) ys = laid-joins x (joined xs) ys ∙ ap (joins x) (laid-joined xs ys)

joined-append : (xs ys : List LockRange) → joined (xs ++ ys) ≡ laid xs (joined ys)
joined-append [] ys = refl
joined-append (x ∷ xs) ys = ap (joins x) (joined-append xs ys)

-- what comes first may be joined first
pub joined_first : (xs ys : List LockRange) → joined (joined xs ++ ys) ≡ joined (xs ++ ys)
joined_first xs ys = joined-append (joined xs) ys ∙ (laid-joined xs (joined ys) ∙ sym (joined-append xs ys))

apart_alike : (y : LockRange) (ys : List LockRange) (first : ℕ) → IsApart y ys → IsApart (record y { first = first }) ys
apart_alike y [] first h = tt
apart_alike y (z ∷ zs) first h = h

apart-joins : (r : LockRange) (ys : List LockRange) → AreApart ys → AreApart (joins r ys)
apart-joins r [] h = (tt, tt)
apart-joins r (y ∷ ys) h =
    cond_both (touches r y) (record y { first = r.first } ∷ ys) (r ∷ y ∷ ys) AreApart (λ t. (apart_alike y ys r.first h.0, h.1)) (λ t. (t, h))

pub apart_joined : (xs : List LockRange) → AreApart (joined xs)
apart_joined [] = tt
apart_joined (x ∷ xs) = apart-joins x (joined xs) (apart_joined xs)

-- where no two touch nothing is joined
pub joined_apart : (xs : List LockRange) → AreApart xs → joined xs ≡ xs
joined_apart [] h = refl
joined_apart (x ∷ []) h = refl
joined_apart (x ∷ y ∷ xs) h = ap (joins x) (joined_apart (y ∷ xs) h.1) ∙ cond-false (touches x y) (record y { first = x.first } ∷ xs) (x ∷ y ∷ xs) h.0

-- three lists that are joined one behind the other
pub joined_three : (a b c x y z : List LockRange) → x ≡ joined ([] ++ a) → y ≡ joined (x ++ b) → z ≡ joined (y ++ c) → z ≡ joined (a ++ b ++ c)
joined_three a b c x y z e f g =
    let two : y ≡ joined (a ++ b) = f ∙ (ap (λ xs. joined (xs ++ b)) e ∙ joined_first a b) in
    g ∙ (ap (λ xs. joined (xs ++ c)) two ∙ joined_first (a ++ b) c)
