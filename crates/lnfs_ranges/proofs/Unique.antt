-- Two lists of runs with the same modes are one.
use Rattle.std.proofs.Common.{◌≡◌, ℕ, ◌+◌, ◌<◌, ◌≤◌, Bool, true, false, List, [], ◌∷◌, Some, None, inl, inr, refl, ap, sym, ◌∙◌, subst, arith}
use Rattle.std.specs.Prelude.{nat_eq}
use Rattle.std.proofs.lemmas.Bool.{cond-true, cond-false, cases_lt, false≢true, and_from, eq-eqb}
use Rattle.std.proofs.lemmas.Bool.Decides.{nat_tests}
use mathlib.Core.Bool.{beq}
use Rattle.lnfs_ranges.specs.declared.range.LockRange.{LockRange}
use Rattle.lnfs_ranges.specs.Modes.{is_in, mode, RiseFrom, IsApart, AreApart, AreRuns}

in_yes : (x : ℕ) (r : LockRange) → r.first ≤ x → x ≤ r.last → is_in x r ≡ true
in_yes x r h k = grind (arith, nat_tests)

in_before : (x : ℕ) (r : LockRange) → x < r.first → is_in x r ≡ false
in_before x r h = grind (arith, nat_tests)

in_after : (x : ℕ) (r : LockRange) → r.last < x → is_in x r ≡ false
in_after x r h = grind (arith, nat_tests)

mode_in : (x : ℕ) (r : LockRange) (rs : List LockRange) → r.first ≤ x → x ≤ r.last → mode (r ∷ rs) x ≡ Some r.write
mode_in x r rs h k = cond-true (is_in x r) (Some r.write) (mode rs x) (in_yes x r h k)

mode_after : (x : ℕ) (r : LockRange) (rs : List LockRange) → r.last < x → mode (r ∷ rs) x ≡ mode rs x
mode_after x r rs h = cond-false (is_in x r) (Some r.write) (mode rs x) (in_after x r h)

mode_before : (low x : ℕ) (rs : List LockRange) → RiseFrom low rs → x < low → mode rs x ≡ None
mode_before low x [] rise h = refl
mode_before low x (r ∷ rs) rise h =
    cond-false (is_in x r) (Some r.write) (mode rs x) (in_before x r (omega (arith, rise.0, h))) ∙ mode_before (r.last + 1) x rs rise.2 (omega (arith, rise.0, rise.1, h))

beq_itself : (a : Bool) → beq a a ≡ true
beq_itself true = refl
beq_itself false = refl

-- right behind a range nothing of its kind is locked
mode_behind : (r : LockRange) (rs : List LockRange) → IsApart r rs → RiseFrom (r.last + 1) rs → mode rs (r.last + 1) ≡ Some r.write → ⊥
mode_behind r [] apart rise is = cc
mode_behind r (y ∷ rs) apart rise is = elim (cases_lt (r.last + 1) y.first) [
  | inl less ↦ (let none = mode_before y.first (r.last + 1) (y ∷ rs) (omega arith, rise.1, rise.2) less in cc)
  | inr ge ↦ (
      let here : y.first ≡ r.last + 1 = omega (arith, rise.0, ge) in
      let now : Some y.write ≡ Some r.write = sym (mode_in (r.last + 1) y rs ge (omega (arith, rise.1, here))) ∙ is in
      let kind : r.write ≡ y.write = cc in
      let P : Bool → Type 0 = λ b. beq r.write b ≡ true in
      false≢true (sym apart ∙ and_from (nat_eq (r.last + 1) y.first) (beq r.write y.write) (eq-eqb (r.last + 1) y.first (sym here)) (subst P kind (beq_itself r.write))))
]

-- no range ends before another that begins with it, where both have the same modes
not_shorter : (x y : LockRange) (xs ys : List LockRange) → x.first ≤ x.last → x.first ≡ y.first → x.write ≡ y.write → IsApart x xs → RiseFrom (x.last + 1) xs →
    ((z : ℕ) → mode (x ∷ xs) z ≡ mode (y ∷ ys) z) → x.last < y.last → ⊥
not_shorter x y xs ys full first kind apart rise same less =
    mode_behind x xs apart rise
    (sym (mode_after (x.last + 1) x xs (omega arith)) ∙ (same (x.last + 1) ∙ (mode_in (x.last + 1) y ys (omega arith) (omega arith) ∙ ap (λ w. Some w) (sym kind))))

not_later : (x y : LockRange) (xs ys : List LockRange) → x.first ≤ x.last → RiseFrom y.first (y ∷ ys) → ((z : ℕ) → mode (x ∷ xs) z ≡ mode (y ∷ ys) z) → x.first < y.first → ⊥
not_later x y xs ys full rise same less =
    let one : Some x.write ≡ None = sym (mode_in x.first x xs (omega arith) full) ∙ (same x.first ∙ mode_before y.first x.first (y ∷ ys) rise less) in cc

equal_from : (a b : ℕ) → (a < b → ⊥) → (b < a → ⊥) → a ≡ b
equal_from a b h k = elim (cases_lt a b) [ inl less ↦ absurd (h less) | inr ge ↦ elim (cases_lt b a) [ inl less ↦ absurd (k less) | inr le ↦ omega (arith, ge, le) ] ]

same_range : (x y : LockRange) → x.first ≡ y.first → x.last ≡ y.last → x.write ≡ y.write → x ≡ y
same_range x y f l w = λ i. record { first = f i; last = l i; write = w i }

same_rest : (x y : LockRange) (xs ys : List LockRange) (z : ℕ) → x ≡ y → RiseFrom (x.last + 1) xs → RiseFrom (y.last + 1) ys → mode (x ∷ xs) z ≡ mode (y ∷ ys) z → mode xs z ≡ mode ys z
same_rest x y xs ys z one rx ry same =
    let ends : x.last ≡ y.last = ap (λ (r : LockRange). r.last) one in
    elim (cases_lt x.last z) [
      | inl less ↦ sym (mode_after z x xs less) ∙ (same ∙ mode_after z y ys (omega (arith, less, ends)))
      | inr le ↦ mode_before (x.last + 1) z xs rx (omega (arith, le)) ∙ sym (mode_before (y.last + 1) z ys ry (omega (arith, le, ends)))
    ]

one_list : (low : ℕ) (xs ys : List LockRange) → RiseFrom low xs → AreApart xs → RiseFrom low ys → AreApart ys → ((z : ℕ) → mode xs z ≡ mode ys z) → xs ≡ ys
one_list low [] [] rx ax ry ay same = refl
one_list low [] (y ∷ ys) rx ax ry ay same = absurd (let h = same y.first ∙ mode_in y.first y ys (omega arith) ry.1 in cc)
one_list low (x ∷ xs) [] rx ax ry ay same = absurd (let h = sym (same x.first) ∙ mode_in x.first x xs (omega arith) rx.1 in cc)
one_list low (x ∷ xs) (y ∷ ys) rx ax ry ay same =
    let first : x.first ≡ y.first = equal_from x.first y.first (not_later x y xs ys rx.1 (omega arith, ry.1, ry.2) same) (not_later y x ys xs ry.1 (omega arith, rx.1, rx.2) (λ z. sym (same z))) in
    let both : Some x.write ≡ Some y.write = sym (mode_in x.first x xs (omega arith) rx.1) ∙ (same x.first ∙ mode_in x.first y ys (omega (arith, first)) (omega (arith, first, ry.1))) in
    let kind : x.write ≡ y.write = cc in
    let last : x.last ≡ y.last = equal_from x.last y.last (not_shorter x y xs ys rx.1 first kind ax.0 rx.2 same) (not_shorter y x ys xs ry.1 (sym first) (sym kind) ay.0 ry.2 (λ z. sym (same z))) in
    let one : x ≡ y = same_range x y first last kind in
    ap (λ r. r ∷ xs) one ∙ ap (λ rs. y ∷ rs) (one_list (x.last + 1) xs ys rx.2 ax.1 (subst (λ n. RiseFrom (n + 1) ys) (sym last) ry.2) ay.1 (λ z. same_rest x y xs ys z one rx.2 ry.2 (same z)))

pub same_runs : (xs ys : List LockRange) → AreRuns xs → AreRuns ys → ((z : ℕ) → mode xs z ≡ mode ys z) → xs ≡ ys
same_runs xs ys rx ry same = one_list 0 xs ys rx.rising rx.apart ry.rising ry.apart same
