-- A number is in the map of the parents exactly where a parent has it.
use Rattle.std.proofs.Common.{◌≡◌, ◌==◌, ℕ, Bool, true, false, ◌||◌, List, [], ◌∷◌, cond, refl, sym, ap, ◌∙◌, arith}
use Rattle.std.specs.Prelude.{Option, Some, None, is_some}
use Rattle.std.specs.List.{fold}
use Rattle.std.specs.Ordering.{nat_cmp, is_eq, match_ordering}
use Rattle.std.specs.declared.cmp.Ordering.{Ordering}
use Rattle.std.specs.declared.cmp.Ordering.TheVariants.{Less, Equal, Greater}
use Rattle.std.specs.BTreeMap.{insert_entry, is_at}
use Rattle.std.specs.Map.{lookup}
use Rattle.std.proofs.Math.Bool.{or_assoc, or-false}
use Rattle.std.proofs.lemmas.Bool.Decides.{nat_tests}
use Rattle.lnfs_policy.specs.Fits.{is_taken}
use Rattle.lnfs_policy.specs.Policy.{with_parent, by_number}
use Rattle.lnfs_policy.specs.Reading.{has_parent}
use Rattle.lnfs_policy.specs.declared.rows.Parent.{Parent}

same_key : (n k : ℕ) → is_eq (nat_cmp n k) ≡ (k == n)
same_key n k = grind (arith, nat_tests)

equal_key : (k e : ℕ) → nat_cmp k e ≡ Equal → k ≡ e
equal_key k e h = grind (arith, nat_tests)

found : {X : Type 0} (b : Bool) (x : X) (o : Option X) → is_some (cond b (Some x) o) ≡ (b || is_some o)
found true x o = refl
found false x o = refl

turned : (a b c : Bool) → a ≡ c → (a || b) ≡ (b || c)
turned true true c e = refl
turned true false c e = e
turned false true c e = refl
turned false false c e = e

again : (a b c : Bool) → a ≡ c → (a || b) ≡ ((a || b) || c)
again true b c e = refl
again false true c e = refl
again false false c e = e

abbrev at_key : ℕ → ℕ → Bool
at_key n k = is_eq (nat_cmp n k)

module _ (n k : ℕ) (p : Parent) where
  placed : (e : ℕ × Parent) (es new : List (ℕ × Parent)) (o : Ordering) → nat_cmp k e.0 ≡ o
      → is_some (lookup (is_at (nat_cmp n)) new) ≡ (is_some (lookup (is_at (nat_cmp n)) es) || (k == n))
      → is_some (lookup (is_at (nat_cmp n)) (match_ordering o ((k, p) ∷ e ∷ es) ((e.0, p) ∷ es) (e ∷ new)))
      ≡ (is_some (lookup (is_at (nat_cmp n)) (e ∷ es)) || (k == n))
  placed e es new Less h deeper =
      found (at_key n k) p (lookup (is_at (nat_cmp n)) (e ∷ es))
      ∙ turned (at_key n k) (is_some (lookup (is_at (nat_cmp n)) (e ∷ es))) (k == n) (same_key n k)
  placed e es new Equal h deeper =
      let same : k ≡ e.0 = equal_key k e.0 h in
      let key : at_key n e.0 ≡ (k == n) = ap (at_key n) (sym same) ∙ same_key n k in
      found (at_key n e.0) p (lookup (is_at (nat_cmp n)) es)
      ∙ again (at_key n e.0) (is_some (lookup (is_at (nat_cmp n)) es)) (k == n) key
      ∙ ap (λ b. b || (k == n)) (sym (found (at_key n e.0) e.1 (lookup (is_at (nat_cmp n)) es)))
  placed e es new Greater h deeper =
      found (at_key n e.0) e.1 (lookup (is_at (nat_cmp n)) new)
      ∙ ap (λ b. at_key n e.0 || b) deeper
      ∙ sym (or_assoc (at_key n e.0) (is_some (lookup (is_at (nat_cmp n)) es)) (k == n))
      ∙ ap (λ b. b || (k == n)) (sym (found (at_key n e.0) e.1 (lookup (is_at (nat_cmp n)) es)))

  alone : (a : Bool) → a ≡ (k == n) → is_some (cond a (Some p) None) ≡ (false || (k == n))
  alone true e = e
  alone false e = e

  inserted : (es : List (ℕ × Parent)) → is_some (lookup (is_at (nat_cmp n)) (insert_entry nat_cmp es k p)) ≡ (is_some (lookup (is_at (nat_cmp n)) es) || (k == n))
  inserted [] = alone (at_key n k) (same_key n k)
  inserted (e ∷ es) = placed e es (insert_entry nat_cmp es k p) (nat_cmp k e.0) refl (inserted es)

collected : (n : ℕ) (es : List (ℕ × Parent)) (parents : List Parent) → has_parent (fold with_parent es parents) n ≡ (has_parent es n || is_taken parents n)
collected n es [] = sym (or-false (has_parent es n))
collected n es (p ∷ parents) =
    collected n (with_parent es p) parents
    ∙ ap (λ b. b || is_taken parents n) (inserted n p.number p es)
    ∙ or_assoc (has_parent es n) (p.number == n) (is_taken parents n)

pub taken_same : (parents : List Parent) (n : ℕ) → has_parent (by_number parents) n ≡ is_taken parents n
taken_same parents n = collected n [] parents
