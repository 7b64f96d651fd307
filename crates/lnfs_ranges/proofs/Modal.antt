-- What is locked at each offset of what is set.
use Rattle.std.proofs.Common.{◌≡◌, ℕ, ◌+◌, ◌≤◌, Bool, true, false, cond, not, ◌&&◌, List, [], ◌∷◌, ◌++◌, refl, ap, sym, ◌∙◌, arith}
use Rattle.std.specs.Prelude.{nat_lt, nat_le, nat_eq, Option, Some, None}
use Rattle.std.specs.Option.{option_or}
use Rattle.std.proofs.lemmas.Bool.{cond_both, and_parts, eqb-true}
use Rattle.std.proofs.lemmas.Bool.Decides.{nat_tests}
use mathlib.Core.Bool.{beq}
use Rattle.lnfs_ranges.specs.declared.range.LockRange.{LockRange}
use Rattle.lnfs_ranges.specs.Modes.{is_in, mode, mode_with, RiseFrom, touches, joins, joined, part_below, part_above, below, above, asked_range, set}
use Rattle.lnfs_ranges.proofs.Joins.{by_test}
use Rattle.lnfs_ranges.proofs.Ends.{beq_same}
use Rattle.lnfs_ranges.proofs.Rising.{rise-joined, rise_parts}

mode-append : (xs ys : List LockRange) (x : ℕ) → mode (xs ++ ys) x ≡ option_or (mode xs x) (mode ys x)
mode-append [] ys x = refl
mode-append (r ∷ xs) ys x =
    by_test (is_in x r) (λ b. cond b (Some r.write) (mode (xs ++ ys) x) ≡ option_or (cond b (Some r.write) (mode xs x)) (mode ys x))
    (λ t. refl) (λ t. mode-append xs ys x)

mode-part_below : (f : ℕ) (r : LockRange) (x : ℕ) → mode (part_below f r) x ≡ cond (nat_lt x f) (mode (r ∷ []) x) None
mode-part_below f r x = grind (arith, nat_tests)

mode-part_above : (l : ℕ) (r : LockRange) (x : ℕ) → mode (part_above l r) x ≡ cond (nat_lt l x) (mode (r ∷ []) x) None
mode-part_above l r x = grind (arith, nat_tests)

or_within : (b : Bool) (a c : Option Bool) → option_or (cond b a None) (cond b c None) ≡ cond b (option_or a c) None
or_within true a c = refl
or_within false a c = refl

none_within : (b : Bool) → let none : Option Bool = None in none ≡ cond b none none
none_within true = refl
none_within false = refl

mode-below : (f : ℕ) (rs : List LockRange) (x : ℕ) → mode (below f rs) x ≡ cond (nat_lt x f) (mode rs x) None
mode-below f [] x = none_within (nat_lt x f)
mode-below f (r ∷ rs) x =
    mode-append (part_below f r) (below f rs) x
    ∙ (ap (λ m. option_or m (mode (below f rs) x)) (mode-part_below f r x)
    ∙ (ap (option_or (cond (nat_lt x f) (mode (r ∷ []) x) None)) (mode-below f rs x)
    ∙ (or_within (nat_lt x f) (mode (r ∷ []) x) (mode rs x) ∙ ap (λ m. cond (nat_lt x f) m None) (sym (mode-append (r ∷ []) rs x)))))

mode-above : (l : ℕ) (rs : List LockRange) (x : ℕ) → mode (above l rs) x ≡ cond (nat_lt l x) (mode rs x) None
mode-above l [] x = none_within (nat_lt l x)
mode-above l (r ∷ rs) x =
    mode-append (part_above l r) (above l rs) x
    ∙ (ap (λ m. option_or m (mode (above l rs) x)) (mode-part_above l r x)
    ∙ (ap (option_or (cond (nat_lt l x) (mode (r ∷ []) x) None)) (mode-above l rs x)
    ∙ (or_within (nat_lt l x) (mode (r ∷ []) x) (mode rs x) ∙ ap (λ m. cond (nat_lt l x) m None) (sym (mode-append (r ∷ []) rs x)))))

mode-asked : (first last : ℕ) (asked : Option Bool) (x : ℕ) → mode (asked_range first last asked) x ≡ mode_with first last asked None x
mode-asked first last None x = none_within (nat_le first x && nat_le x last)
mode-asked first last (Some w) x = refl

-- an offset is in what two that touch make where it is in one of them
in_both : (r y : LockRange) (x : ℕ) (m : Option Bool) → r.first ≤ r.last → y.first ≤ y.last → r.last + 1 ≡ y.first → r.write ≡ y.write →
    cond (nat_le r.first x && nat_le x y.last) (Some y.write) m ≡ cond (nat_le r.first x && nat_le x r.last) (Some r.write) (cond (nat_le y.first x && nat_le x y.last) (Some y.write) m)
in_both r y x m h k e w = grind (arith, nat_tests)

mode-joins : (r : LockRange) (ys : List LockRange) (x : ℕ) → r.first ≤ r.last → RiseFrom (r.last + 1) ys → mode (joins r ys) x ≡ mode (r ∷ ys) x
mode-joins r [] x h k = refl
mode-joins r (y ∷ ys) x h k =
    cond_both (touches r y) (record y { first = r.first } ∷ ys) (r ∷ y ∷ ys) (λ zs. mode zs x ≡ mode (r ∷ y ∷ ys) x)
    (λ t. let both = and_parts (nat_eq (r.last + 1) y.first) (beq r.write y.write) t in
    in_both r y x (mode ys x) h k.1 (eqb-true (r.last + 1) y.first both.0) (beq_same r.write y.write both.1))
    (λ t. refl)

mode-joined : (low : ℕ) (rs : List LockRange) (x : ℕ) → RiseFrom low rs → mode (joined rs) x ≡ mode rs x
mode-joined low [] x h = refl
mode-joined low (r ∷ rs) x h =
    mode-joins r (joined rs) x h.1 (rise-joined (r.last + 1) rs h.2) ∙ ap (cond (is_in x r) (Some r.write)) (mode-joined (r.last + 1) rs x h.2)

or_none : (m : Option Bool) → option_or m None ≡ m
or_none None = refl
or_none (Some w) = refl

three_tests : (b c : Bool) (asked m : Option Bool) → (not b && not c) ≡ false →
    option_or (option_or (cond (not b) m None) (cond (b && c) asked None)) (cond (not c) m None) ≡ cond (b && c) asked m
three_tests true true asked m h = or_none asked
three_tests true false asked m h = refl
three_tests false true asked m h = or_none (option_or m None) ∙ or_none m
three_tests false false asked m h = cc

above_test : (a b : ℕ) → nat_lt a b ≡ not (nat_le b a)
above_test a b = grind (arith, nat_tests)

not_both : (first last x : ℕ) → first ≤ last → (not (nat_le first x) && not (nat_le x last)) ≡ false
not_both first last x h = grind (arith, nat_tests)

-- what lies below, what is asked, and what lies above
three : (first last x : ℕ) (asked m : Option Bool) → first ≤ last →
    option_or (option_or (cond (nat_lt x first) m None) (mode_with first last asked None x)) (cond (nat_lt last x) m None) ≡ mode_with first last asked m x
three first last x asked m h =
    ap (λ b. option_or (option_or (cond b m None) (mode_with first last asked None x)) (cond (nat_lt last x) m None)) (above_test x first)
    ∙ (ap (λ b. option_or (option_or (cond (not (nat_le first x)) m None) (mode_with first last asked None x)) (cond b m None)) (above_test last x)
    ∙ three_tests (nat_le first x) (nat_le x last) asked m (not_both first last x h))

-- at each offset of the range the mode is the asked one, and elsewhere it stays
pub mode-set : (rs : List LockRange) (first last : ℕ) (asked : Option Bool) (x : ℕ) → first ≤ last → RiseFrom 0 rs →
    mode (set rs first last asked) x ≡ mode_with first last asked (mode rs x) x
mode-set rs first last asked x h k =
    let front = below first rs ++ asked_range first last asked in
    mode-joined 0 (front ++ above last rs) x (rise_parts rs first last asked h k)
    ∙ (mode-append front (above last rs) x
    ∙ (ap (λ m. option_or m (mode (above last rs) x)) (mode-append (below first rs) (asked_range first last asked) x)
    ∙ (ap (λ m. option_or (option_or m (mode (asked_range first last asked) x)) (mode (above last rs) x)) (mode-below first rs x)
    ∙ (ap (λ m. option_or (option_or (cond (nat_lt x first) (mode rs x) None) m) (mode (above last rs) x)) (mode-asked first last asked x)
    ∙ (ap (option_or (option_or (cond (nat_lt x first) (mode rs x) None) (mode_with first last asked None x))) (mode-above last rs x)
    ∙ three first last x asked (mode rs x) h)))))
