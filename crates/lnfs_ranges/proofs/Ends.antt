-- A range at the end of a list in which no two touch.
use Rattle.std.proofs.Common.{◌≡◌, ℕ, ◌+◌, ◌<◌, zero, suc, Bool, true, false, cond, List, [], ◌∷◌, ◌++◌, length, take, set, get_or, refl, ap, sym, ◌∙◌, subst, append_assoc, arith}
use Rattle.std.specs.Prelude.{nat_eq}
use Rattle.std.specs.List.{flat_map}
use Rattle.std.proofs.lemmas.Bool.{cond-true, cond-false, and_parts}
use Rattle.std.proofs.lemmas.List.{flat_map_more}
use Rattle.std.proofs.lemmas.Grind.{take_at_read}
use mathlib.Core.Bool.{beq}
use Rattle.lnfs_ranges.specs.declared.range.LockRange.{LockRange}
use Rattle.lnfs_ranges.specs.Modes.{touches, joins, joined, AreApart}
use Rattle.lnfs_ranges.proofs.Joins.{by_test, joined_first}

pub beq_same : (a b : Bool) → beq a b ≡ true → a ≡ b
beq_same true true h = refl
beq_same true false h = cc
beq_same false true h = cc
beq_same false false h = refl

-- what didn't touch a range doesn't touch it when it has grown
touches_grown : (x p r : LockRange) → touches p r ≡ true → touches x p ≡ false → touches x (record r { first = p.first }) ≡ false
touches_grown x p r t f =
    let same = beq_same p.write r.write (and_parts (nat_eq (p.last + 1) r.first) (beq p.write r.write) t).1 in
    let P : Bool → Type 0 = λ w. touches x (record { first = p.first; last = r.last; write = w }) ≡ false in
    subst P same f

pub at_end : (front : List LockRange) (p r : LockRange) → AreApart (front ++ p ∷ []) →
    joined (front ++ p ∷ r ∷ []) ≡ cond (touches p r) (front ++ record r { first = p.first } ∷ []) (front ++ p ∷ r ∷ [])
at_end [] p r h = refl
at_end (x ∷ []) p r h =
    by_test (touches p r) (λ b. joins x (cond b (record r { first = p.first } ∷ []) (p ∷ r ∷ [])) ≡ cond b (x ∷ record r { first = p.first } ∷ []) (x ∷ p ∷ r ∷ []))
    (λ t. cond-false (touches x (record r { first = p.first })) (record r { first = x.first } ∷ []) (x ∷ record r { first = p.first } ∷ []) (touches_grown x p r t h.0))
    (λ t. cond-false (touches x p) (record p { first = x.first } ∷ r ∷ []) (x ∷ p ∷ r ∷ []) h.0)
at_end (x ∷ y ∷ front) p r h =
    let joins_none = λ (rest : List LockRange). cond-false (touches x y) (record y { first = x.first } ∷ rest) (x ∷ y ∷ rest) h.0 in
    ap (joins x) (at_end (y ∷ front) p r h.1)
    ∙ by_test (touches p r) (λ b. joins x (cond b (y ∷ front ++ record r { first = p.first } ∷ []) (y ∷ front ++ p ∷ r ∷ [])) ≡ cond b (x ∷ y ∷ front ++ record r { first = p.first } ∷ []) (x ∷ y ∷ front ++ p ∷ r ∷ []))
    (λ t. joins_none (front ++ record r { first = p.first } ∷ []))
    (λ t. joins_none (front ++ p ∷ r ∷ []))

-- a list by its last element
by_end : {X : Type 0} (xs : List X) (i : ℕ) (d : X) → i + 1 ≡ length xs → xs ≡ take i xs ++ get_or xs i d ∷ []
by_end [] i d h = absurd (omega arith)
by_end (x ∷ []) zero d h = refl
by_end (x ∷ y ∷ xs) zero d h = absurd (omega arith)
by_end (x ∷ xs) (suc i) d h = ap (λ ys. x ∷ ys) (by_end xs i d (omega arith))

set_end : {X : Type 0} (xs : List X) (i : ℕ) (v : X) → i + 1 ≡ length xs → set xs i v ≡ take i xs ++ v ∷ []
set_end [] i v h = absurd (omega arith)
set_end (x ∷ []) zero v h = refl
set_end (x ∷ y ∷ xs) zero v h = absurd (omega arith)
set_end (x ∷ xs) (suc i) v h = ap (λ ys. x ∷ ys) (set_end xs i v (omega arith))

ended : (xs : List LockRange) (i : ℕ) (p r : LockRange) → i + 1 ≡ length xs → AreApart xs → p ≡ get_or xs i p →
    joined (xs ++ r ∷ []) ≡ cond (touches p r) (take i xs ++ record r { first = p.first } ∷ []) (xs ++ r ∷ [])
ended xs i p r long apart read =
    let whole : xs ≡ take i xs ++ p ∷ [] = by_end xs i p long ∙ ap (λ q. take i xs ++ q ∷ []) (sym read) in
    let more : xs ++ r ∷ [] ≡ take i xs ++ p ∷ r ∷ [] = ap (λ ys. ys ++ r ∷ []) whole ∙ append_assoc (take i xs) (p ∷ []) (r ∷ []) in
    let P : List LockRange → Type 0 = λ ys. joined ys ≡ cond (touches p r) (take i xs ++ record r { first = p.first } ∷ []) ys in
    subst P (sym more) (at_end (take i xs) p r (subst AreApart whole apart))

pub ended_joined : (xs : List LockRange) (i : ℕ) (p r : LockRange) → i + 1 ≡ length xs → AreApart xs → p ≡ get_or xs i p → touches p r ≡ true →
    joined (xs ++ r ∷ []) ≡ set xs i (record { first = p.first; last = r.last; write = r.write })
ended_joined xs i p r long apart read t =
    ended xs i p r long apart read ∙ (cond-true (touches p r) (take i xs ++ record r { first = p.first } ∷ []) (xs ++ r ∷ []) t
    ∙ sym (set_end xs i (record r { first = p.first }) long))

pub ended_apart : (xs : List LockRange) (i : ℕ) (p r : LockRange) → i + 1 ≡ length xs → AreApart xs → p ≡ get_or xs i p → touches p r ≡ false →
    joined (xs ++ r ∷ []) ≡ xs ++ r ∷ []
ended_apart xs i p r long apart read t =
    ended xs i p r long apart read ∙ cond-false (touches p r) (take i xs ++ record r { first = p.first } ∷ []) (xs ++ r ∷ []) t

pub ended_empty : (xs : List LockRange) (r : LockRange) → length xs ≡ 0 → joined (xs ++ r ∷ []) ≡ xs ++ r ∷ []
ended_empty [] r h = refl
ended_empty (x ∷ xs) r h = absurd (omega arith)

-- a list to which the parts of one more range were joined
pub one_more : (f : LockRange → List LockRange) (start rs out new : List LockRange) (i : ℕ) (d : LockRange) → i < length rs →
    out ≡ joined (start ++ flat_map f (take i rs)) → new ≡ joined (out ++ f (get_or rs i d)) → new ≡ joined (start ++ flat_map f (take (i + 1) rs))
one_more f start rs out new i d within told made =
    made ∙ (ap (λ ys. joined (ys ++ f (get_or rs i d))) told
    ∙ (joined_first (start ++ flat_map f (take i rs)) (f (get_or rs i d))
    ∙ ap joined (flat_map_more f start (take i rs) (get_or rs i d) ∙ ap (λ ys. start ++ flat_map f ys) (sym (take_at_read rs i d within).1))))
