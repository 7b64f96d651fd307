-- What is told of the levels after a change of one.
use Rattle.std.proofs.Common.{◌≡◌, ℕ, Bool, true, false, cond, List, [], ◌∷◌, Option, Some, None, refl, ap, ◌∙◌, subst, arith}
use Rattle.std.specs.Prelude.{◌==◌, ◌<◌}
use Rattle.std.specs.declared.cmp.Ordering.{Ordering}
use Rattle.std.specs.declared.cmp.Ordering.TheVariants.{Less, Equal, Greater}
use Rattle.std.specs.Ordering.{is_eq, nat_cmp}
use Rattle.std.specs.List.{AllByRecursion}
use Rattle.std.specs.List.Sorted.{IsStrictlySortedBy}
use Rattle.std.specs.Map.{lookup, set_value, keys_of}
use Rattle.std.specs.BTreeMap.{BTreeMap, UpdatesBy, get, insert_entry}
use Rattle.std.proofs.lemmas.Map.Keys.{sorted_head, sorted_tail}
use Rattle.std.proofs.lemmas.Bool.Decides.{nat_tests}
use Rattle.lnfs_world.specs.Rows.{inserted}
use Rattle.lnfs_world.specs.World.{level_order}
use Rattle.lnfs_counts.specs.Levels.{lasts_by}

-- ---- the last numbers as a list

module _ {V : Type 0} (last : V → ℕ) where
  abbrev pub at : ℕ → List (ℕ × V) → Option V
  at level es = lookup (λ k. is_eq (nat_cmp level k)) es

  -- a level that was given no number is not seen
  pub lasts-inserted : (level : ℕ) (x : V) (es : List (ℕ × V)) → last x ≡ 0 → at level es ≡ None → lasts_by last (insert_entry nat_cmp es level x) ≡ lasts_by last es
  lasts-inserted level x [] none absent = grind (arith, nat_tests)
  lasts-inserted level x (e ∷ es) none absent = by (nat_cmp level e.0) refl (lasts-inserted level x es none)
    where
      by : (o : Ordering) → nat_cmp level e.0 ≡ o → (at level es ≡ None → lasts_by last (insert_entry nat_cmp es level x) ≡ lasts_by last es) → lasts_by last (insert_entry nat_cmp (e ∷ es) level x) ≡ lasts_by last (e ∷ es)
      by Less is rest = grind (arith, nat_tests, is)
      by Equal is rest = grind (arith, nat_tests, is)
      by Greater is rest = grind (arith, nat_tests, is)

  pub lasts-same : (level : ℕ) (x y : V) (es : List (ℕ × V)) → at level es ≡ Some x → last y ≡ last x → lasts_by last (set_value (λ k. is_eq (nat_cmp level k)) es y) ≡ lasts_by last es
  lasts-same level x y [] there same = absurd (cc)
  lasts-same level x y (e ∷ es) there same = by (is_eq (nat_cmp level e.0)) refl (lasts-same level x y es)
    where
      by : (b : Bool) → is_eq (nat_cmp level e.0) ≡ b → (at level es ≡ Some x → last y ≡ last x → lasts_by last (set_value (λ k. is_eq (nat_cmp level k)) es y) ≡ lasts_by last es) → lasts_by last (set_value (λ k. is_eq (nat_cmp level k)) (e ∷ es) y) ≡ lasts_by last (e ∷ es)
      by true is rest = grind (arith, is)
      by false is rest = grind (arith, is)

  -- all that is seen is of later levels
  above : (number level : ℕ) (es : List (ℕ × V)) → AllByRecursion (λ k. nat_cmp level k ≡ Less) (keys_of es) → inserted level_order (record { level = level; number = number }) (lasts_by last es) ≡ record { level = level; number = number } ∷ lasts_by last es
  above number level [] all = refl
  above number level (e ∷ es) all = by (last e.1 == 0) refl (above number level es all.1)
    where
      by : (b : Bool) → (last e.1 == 0) ≡ b → inserted level_order (record { level = level; number = number }) (lasts_by last es) ≡ record { level = level; number = number } ∷ lasts_by last es → inserted level_order (record { level = level; number = number }) (lasts_by last (e ∷ es)) ≡ record { level = level; number = number } ∷ lasts_by last (e ∷ es)
      by true is rest = grind (arith, is)
      by false is rest = grind (arith, is, all.0)

  pub below : (level key : ℕ) (es : List (ℕ × V)) → nat_cmp level key ≡ Less → AllByRecursion (λ k. nat_cmp key k ≡ Less) (keys_of es) → at level es ≡ None
  below level key [] less all = refl
  below level key (e ∷ es) less all = grind (arith, nat_tests, below level key es less all.1, all.0)

  -- a number that is given is seen
  pub lasts-given : (level : ℕ) (x y : V) (es : List (ℕ × V)) → IsStrictlySortedBy nat_cmp (keys_of es) → at level es ≡ Some x → 0 < last y → lasts_by last (set_value (λ k. is_eq (nat_cmp level k)) es y) ≡ inserted level_order (record { level = level; number = last y }) (lasts_by last es)
  lasts-given level x y [] sorted there positive = absurd (cc)
  lasts-given level x y (e ∷ es) sorted there positive = by (nat_cmp level e.0) refl (lasts-given level x y es (sorted_tail nat_cmp e.0 (keys_of es) sorted)) (λ less. below level e.0 es less (sorted_head nat_cmp e.0 (keys_of es) sorted)) (λ same. above (last y) level es (subst (λ k. AllByRecursion (λ j. nat_cmp k j ≡ Less) (keys_of es)) same (sorted_head nat_cmp e.0 (keys_of es) sorted)))
    where
      by : (o : Ordering) → nat_cmp level e.0 ≡ o → (at level es ≡ Some x → 0 < last y → lasts_by last (set_value (λ k. is_eq (nat_cmp level k)) es y) ≡ inserted level_order (record { level = level; number = last y }) (lasts_by last es)) → (nat_cmp level e.0 ≡ Less → at level es ≡ None) → (e.0 ≡ level → inserted level_order (record { level = level; number = last y }) (lasts_by last es) ≡ record { level = level; number = last y } ∷ lasts_by last es) → lasts_by last (set_value (λ k. is_eq (nat_cmp level k)) (e ∷ es) y) ≡ inserted level_order (record { level = level; number = last y }) (lasts_by last (e ∷ es))
      by Less is rest none front = absurd (grind (arith, nat_tests, is, none is))
      by Equal is rest none front = grind (arith, nat_tests, is)
      by Greater is rest none front = grind (arith, nat_tests, is)

-- ---- what is read of a level

module _ {V : Type 0} (m n : BTreeMap ℕ V) (level : ℕ) (w : Option V) (updates : UpdatesBy nat_cmp (nat_cmp level) m n w) where
  pub level_updated : (l : ℕ) → get nat_cmp n l ≡ cond (level == l) w (get nat_cmp m l)
  level_updated l = updates.0 l ∙ ap (λ b. cond b w (get nat_cmp m l)) (grind (arith, nat_tests))

  -- what is read alike of both states of one level is read alike of all
  pub read_alike : {W : Type 0} (f : Option V → W) → f w ≡ f (get nat_cmp m level) → (l : ℕ) → f (get nat_cmp n l) ≡ f (get nat_cmp m l)
  read_alike f same l = ap f (level_updated l) ∙ by (level == l) refl
    where
      by : (b : Bool) → (level == l) ≡ b → f (cond b w (get nat_cmp m l)) ≡ f (get nat_cmp m l)
      by true is =
          let here : level ≡ l = grind (arith, nat_tests) in
          same ∙ ap (λ k. f (get nat_cmp m k)) here
      by false is = refl
