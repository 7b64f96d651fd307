-- That what is set rises.
use Rattle.std.proofs.Common.{◌≡◌, ℕ, ◌+◌, ◌-◌, ◌<◌, ◌≤◌, Bool, max, List, [], ◌∷◌, ◌++◌, Option, Some, None, refl, ap, sym, ◌∙◌, subst, arith}
use Rattle.std.specs.Prelude.{nat_lt}
use Rattle.std.proofs.lemmas.Bool.{cond_both, ltb-true, ltb-false}
use Rattle.lnfs_ranges.specs.declared.range.LockRange.{LockRange}
use Rattle.lnfs_ranges.specs.Modes.{RiseFrom, AreRuns, touches, joins, joined, part_above, below, above, asked_range, set}
use Rattle.lnfs_ranges.proofs.Joins.{by_test, apart_joined}
use Rattle.lnfs_ranges.proofs.Parts.{below_whole, below_cut, below_none, above_whole, above_cut, above_none}

-- ranges from an offset on, all of them below another
abbrev pub Span : ℕ → ℕ → List LockRange → Type 0
Span x y [] = x ≤ y
Span x y (r ∷ rs) = (x ≤ r.first) × (r.first ≤ r.last) × Span (r.last + 1) y rs

rise_earlier : (x y : ℕ) (rs : List LockRange) → x ≤ y → RiseFrom y rs → RiseFrom x rs
rise_earlier x y [] h k = tt
rise_earlier x y (r ∷ rs) h k = (omega (arith, k.0), k.1, k.2)

span_earlier : (x y z : ℕ) (rs : List LockRange) → x ≤ y → Span y z rs → Span x z rs
span_earlier x y z [] h k = omega arith
span_earlier x y z (r ∷ rs) h k = (omega (arith, k.0), k.1, k.2)

span-append : (x y z : ℕ) (rs ss : List LockRange) → Span x y rs → Span y z ss → Span x z (rs ++ ss)
span-append x y z [] ss h k = span_earlier x y z ss h k
span-append x y z (r ∷ rs) ss h k = (h.0, h.1, span-append (r.last + 1) y z rs ss h.2 k)

rise-append : (x y : ℕ) (rs ss : List LockRange) → Span x y rs → RiseFrom y ss → RiseFrom x (rs ++ ss)
rise-append x y [] ss h k = rise_earlier x y ss h k
rise-append x y (r ∷ rs) ss h k = (h.0, h.1, rise-append (r.last + 1) y rs ss h.2 k)

-- which of three a range's part is
pub by_place : {P : Type 0} (a b x : ℕ) → (b < x → P) → (x ≤ b → a < x → P) → (x ≤ b → x ≤ a → P) → P
by_place {P} a b x whole cut none =
    by_test (nat_lt b x) (λ _. P) (λ t. whole (ltb-true b x t))
    (λ t. by_test (nat_lt a x) (λ _. P) (λ u. cut (ltb-false b x t) (ltb-true a x u)) (λ u. none (ltb-false b x t) (ltb-false a x u)))

below_past : (x y : ℕ) (rs : List LockRange) → x ≤ y → RiseFrom y rs → below x rs ≡ []
below_past x y [] h k = refl
below_past x y (r ∷ rs) h k =
    ap (λ ps. ps ++ below x rs) (below_none x r (omega (arith, k.0, k.1)) (omega (arith, k.0))) ∙ below_past x (r.last + 1) rs (omega (arith, k.0, k.1)) k.2

span-below : (x y : ℕ) (rs : List LockRange) → y ≤ x → RiseFrom y rs → Span y x (below x rs)
span-below x y [] h k = h
span-below x y (r ∷ rs) h k =
    let P : List LockRange → Type 0 = λ ps. Span y x (ps ++ below x rs) in
    let Q : LockRange → List LockRange → Type 0 = λ p qs. Span y x (p ∷ qs) in
    by_place r.first r.last x
    (λ w. subst P (sym (below_whole x r w)) (k.0, k.1, span-below x (r.last + 1) rs (omega arith) k.2))
    (λ w c. subst P (sym (below_cut x r w c)) (subst (Q (record r { last = x - 1 })) (sym (below_past x (r.last + 1) rs (omega arith) k.2)) (k.0, omega arith, omega arith)))
    (λ w c. subst P (sym (below_none x r w c)) (subst (Span y x) (sym (below_past x (r.last + 1) rs (omega arith) k.2)) h))

rise-above : (x y z : ℕ) (rs : List LockRange) → z ≤ max y (x + 1) → RiseFrom y rs → RiseFrom z (above x rs)
rise-above x y z [] h k = tt
rise-above x y z (r ∷ rs) h k =
    let P : List LockRange → Type 0 = λ ps. RiseFrom z (ps ++ above x rs) in
    by_test (nat_lt x r.first) (λ _. P (part_above x r))
    (λ t. let w = ltb-true x r.first t in
    subst P (sym (above_whole x r w)) (omega (arith, k.0, w), k.1, rise-above x (r.last + 1) (r.last + 1) rs (omega arith) k.2))
    (λ t. let w = ltb-false x r.first t in
    by_test (nat_lt x r.last) (λ _. P (part_above x r))
    (λ u. let c = ltb-true x r.last u in
    subst P (sym (above_cut x r w c)) (omega (arith, k.0, w), omega (arith, c), rise-above x (r.last + 1) (r.last + 1) rs (omega arith) k.2))
    (λ u. let c = ltb-false x r.last u in
    subst P (sym (above_none x r w c)) (rise-above x (r.last + 1) z rs (omega (arith, k.0, w, c)) k.2)))

rise-joins : (x : ℕ) (r : LockRange) (ys : List LockRange) → x ≤ r.first → r.first ≤ r.last → RiseFrom (r.last + 1) ys → RiseFrom x (joins r ys)
rise-joins x r [] h k m = (h, k, tt)
rise-joins x r (y ∷ ys) h k m =
    cond_both (touches r y) (record y { first = r.first } ∷ ys) (r ∷ y ∷ ys) (RiseFrom x)
    (λ t. (h, omega (arith, k, m.0, m.1), m.2)) (λ t. (h, k, m))

pub rise-joined : (x : ℕ) (rs : List LockRange) → RiseFrom x rs → RiseFrom x (joined rs)
rise-joined x [] h = tt
rise-joined x (r ∷ rs) h = rise-joins x r (joined rs) h.0 h.1 (rise-joined (r.last + 1) rs h.2)

span-asked : (first last : ℕ) (asked : Option Bool) → first ≤ last → Span first (last + 1) (asked_range first last asked)
span-asked first last None h = omega arith
span-asked first last (Some w) h = (omega arith, h, omega arith)

pub rise_parts : (rs : List LockRange) (first last : ℕ) (asked : Option Bool) → first ≤ last → RiseFrom 0 rs →
    RiseFrom 0 (below first rs ++ asked_range first last asked ++ above last rs)
rise_parts rs first last asked h k =
    rise-append 0 (last + 1) (below first rs ++ asked_range first last asked) (above last rs)
    (span-append 0 first (last + 1) (below first rs) (asked_range first last asked) (span-below first 0 rs (omega arith) k) (span-asked first last asked h))
    (rise-above last 0 (last + 1) rs (omega arith) k)

-- what is set is the maximal runs
pub set_runs : (rs : List LockRange) (first last : ℕ) (asked : Option Bool) → first ≤ last → AreRuns rs → AreRuns (set rs first last asked)
set_runs rs first last asked h k = record {
  rising = rise-joined 0 (below first rs ++ asked_range first last asked ++ above last rs) (rise_parts rs first last asked h k.rising);
  apart = apart_joined (below first rs ++ asked_range first last asked ++ above last rs);
}
