-- One more guest line.
use Rattle.std.proofs.Common.{◌≡◌, ◌==◌, ℕ, Bool, true, false, cond, ◌&&◌, List, [], ◌∷◌, ◌++◌, Option, Some, None, refl, sym, ◌∙◌, ap, arith}
use Rattle.std.specs.Prelude.{is_some}
use Rattle.std.specs.Option.{option_or, option_cmp}
use Rattle.std.specs.Ordering.{nat_cmp, is_eq, ordering_then}
use Rattle.std.specs.declared.cmp.Ordering.{Ordering}
use Rattle.std.specs.declared.cmp.Ordering.TheVariants.{Less, Equal, Greater}
use Rattle.std.specs.BTreeMap.{BTreeMap, IsEmpty, Updates, is_at}
use Rattle.std.specs.Map.{lookup}
use Rattle.std.proofs.lemmas.Bool.Decides.{nat_tests}
use Rattle.lnfs_calipso.specs.declared.Level.{Level}
use Rattle.lnfs_policy.specs.Policy.{admits, is_for}
use Rattle.lnfs_policy.specs.Guests.{named_cmp, level_under, level_in, first_level, AreLevelsOf}
use Rattle.lnfs_policy.specs.declared.guests.Named.{Named}
use Rattle.lnfs_policy.specs.declared.rows.Guest.{Guest}

-- ---- the keys of the map
then_same : (o p : Ordering) → is_eq (ordering_then o p) ≡ (is_eq o && is_eq p)
then_same Less p = refl
then_same Equal p = refl
then_same Greater p = refl

number_same : (a b : ℕ) → is_eq (nat_cmp a b) ≡ (a == b)
number_same a b = grind (arith, nat_tests)

abbrev same_uid : Option ℕ → Option ℕ → Bool
same_uid None None = true
same_uid None (Some b) = false
same_uid (Some a) None = false
same_uid (Some a) (Some b) = a == b

uid_same : (u v : Option ℕ) → is_eq (option_cmp nat_cmp u v) ≡ same_uid u v
uid_same None None = refl
uid_same None (Some b) = refl
uid_same (Some a) None = refl
uid_same (Some a) (Some b) = number_same a b

named_same : (c d : ℕ) (u v : Option ℕ) → is_eq (named_cmp (record { class = c; uid = u }) (record { class = d; uid = v })) ≡ (c == d && same_uid u v)
named_same c d u v = then_same (nat_cmp c d) (option_cmp nat_cmp u v) ∙ (λ t. number_same c d t && uid_same u v t)

-- ---- the first line that fits, with one more line
first_more : (lines : List Guest) (line : Guest) (class : ℕ) (uid : Option ℕ) → first_level (lines ++ line ∷ []) class uid ≡ option_or (first_level lines class uid) (cond (is_for class uid line) (Some line.level) None)
first_more [] line class uid = grind arith
first_more (x ∷ lines) line class uid = grind (arith, first_more lines line class uid)

module _ {X : Type 0} (f : ℕ → Option ℕ → Option X) (x : X) (c : ℕ) (named : Option ℕ) where
  abbrev met : ℕ → Option ℕ → Option X
  met class uid = option_or (f class uid) (f class None)

  abbrev more : ℕ → Option ℕ → Option X
  more class uid = option_or (met class uid) (cond (c == class && admits named uid) (Some x) None)

  -- a line that no caller meets first
  behind : is_some (met c named) ≡ true → (class : ℕ) (uid : Option ℕ) → met class uid ≡ more class uid
  behind there class uid = at named uid there
    where
      at : (u v : Option ℕ) → is_some (met c u) ≡ true → met class v ≡ option_or (met class v) (cond (c == class && admits u v) (Some x) None)
      at None None there = grind (arith, nat_tests)
      at None (Some b) there = grind (arith, nat_tests)
      at (Some a) None there = grind (arith, nat_tests)
      at (Some a) (Some b) there = grind (arith, nat_tests)

  -- and one that those whom it names meet first
  ahead : (g : ℕ → Option ℕ → Option X) → ((class : ℕ) (uid : Option ℕ) → g class uid ≡ cond (c == class && same_uid named uid) (Some x) (f class uid)) → met c named ≡ None → (class : ℕ) (uid : Option ℕ) → option_or (g class uid) (g class None) ≡ more class uid
  ahead g new none class uid = at named uid new none
    where
      at : (u v : Option ℕ) → ((d : ℕ) (w : Option ℕ) → g d w ≡ cond (c == d && same_uid u w) (Some x) (f d w)) → met c u ≡ None → option_or (g class v) (g class None) ≡ option_or (met class v) (cond (c == class && admits u v) (Some x) None)
      at None None new none = grind (arith, nat_tests, new class None)
      at None (Some b) new none = grind (arith, nat_tests, new class None, new class (Some b))
      at (Some a) None new none = grind (arith, nat_tests, new class None)
      at (Some a) (Some b) new none = grind (arith, nat_tests, new class None, new class (Some b))

pub none_yet : (levels : BTreeMap Named Level) → IsEmpty levels → AreLevelsOf [] levels
none_yet levels empty class uid = λ k.
    option_or (lookup (is_at (named_cmp (record { class = class; uid = uid }))) (empty k)) (lookup (is_at (named_cmp (record { class = class; uid = None }))) (empty k))

none_found : {X : Type 0} (o : Option X) → is_some o ≡ false → o ≡ None
none_found None none = refl
none_found (Some x) none = cc

module _ (levels : BTreeMap Named Level) (lines : List Guest) (line : Guest) (are : AreLevelsOf lines levels) where
  with_line : (class : ℕ) (uid : Option ℕ) → option_or (level_in levels class uid) (cond (is_for class uid line) (Some line.level) None) ≡ first_level (lines ++ line ∷ []) class uid
  with_line class uid = ap (λ (o : Option Level). option_or o (cond (is_for class uid line) (Some line.level) None)) (are class uid) ∙ sym (first_more lines line class uid)

  pub kept_behind : is_some (level_in levels line.class line.uid) ≡ true → AreLevelsOf (lines ++ line ∷ []) levels
  kept_behind there class uid = behind (level_under levels) line.level line.class line.uid there class uid ∙ with_line class uid

  pub noted_ahead : (new : BTreeMap Named Level) → is_some (level_in levels line.class line.uid) ≡ false → Updates named_cmp levels new (record { class = line.class; uid = line.uid }) (Some line.level) → AreLevelsOf (lines ++ line ∷ []) new
  noted_ahead new none updates class uid =
      ahead (level_under levels) line.level line.class line.uid (level_under new)
      (λ d v. updates.0 (record { class = d; uid = v }) ∙ ap (λ (b : Bool). cond b (Some line.level) (level_under levels d v)) (named_same line.class d line.uid v))
      (none_found (level_in levels line.class line.uid) none) class uid
      ∙ with_line class uid
