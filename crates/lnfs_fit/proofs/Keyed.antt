-- One more key, of a row that clashes with those of its key.
use Rattle.std.proofs.Common.{◌≡◌, ℕ, Bool, true, false, cond, ◌||◌, List, [], ◌∷◌, ◌++◌, refl, sym, ◌∙◌, subst, take, drop}
use Rattle.std.specs.List.{list_any}
use Rattle.std.specs.declared.cmp.Ordering.{Ordering}
use Rattle.std.specs.BTreeSet.{BTreeSet, contains}
use Rattle.std.specs.BTreeMap.{is_at}
use Rattle.std.proofs.lemmas.Bool.{false≢true}
use Rattle.std.proofs.lemmas.List.{take-append-drop}
use Rattle.std.proofs.lemmas.List.Folds.{list_any-append}
use Rattle.lnfs_world.specs.Rows.{Apart}
use Rattle.lnfs_decide.proofs.OneMore.{apart_last, last_apart, apart_front}

any_alike : {X : Type 0} (p q : X → Bool) (xs : List X) → ((x : X) → p x ≡ q x) → list_any p xs ≡ list_any q xs
any_alike p q [] same = refl
any_alike p q (x ∷ xs) same = λ i. same x i || any_alike p q xs same i

pub so_far : {X : Type 0} (clash : X → X → Bool) (xs : List X) (t : ℕ) → Apart clash xs → Apart clash (take t xs)
so_far clash xs t apart = apart_front clash (take t xs) (drop t xs) (subst (Apart clash) (sym (take-append-drop t xs)) apart)

module _ {K X : Type 0} (cmp : K → K → Ordering) (is_keyed : K → X → Bool) (clash : X → X → Bool) (k : K) (x : X) (at_key : (q : K) → is_at (cmp k) q ≡ is_keyed q x) (keyed : (y : X) → clash y x ≡ is_keyed k y) (xs : List X) (old : BTreeSet K) (seen : (q : K) → contains cmp old q ≡ list_any (is_keyed q) xs) where
  clash_is : list_any (λ y. clash y x) xs ≡ contains cmp old k
  clash_is = any_alike (λ y. clash y x) (is_keyed k) xs keyed ∙ sym (seen k)

  pub grown : (new : BTreeSet K) → ((q : K) → contains cmp new q ≡ cond (is_at (cmp k) q) true (contains cmp old q)) → (q : K) → contains cmp new q ≡ list_any (is_keyed q) (xs ++ x ∷ [])
  grown new updates q = updates q ∙ (λ i. cond (at_key q i) true (seen q i)) ∙ joined (is_keyed q x) (list_any (is_keyed q) xs) ∙ sym (list_any-append (is_keyed q) xs (x ∷ []))
    where
      joined : (a b : Bool) → cond a true b ≡ (b || (a || false))
      joined true true = refl
      joined true false = refl
      joined false true = refl
      joined false false = refl

  pub apart_grown : contains cmp old k ≡ false → Apart clash xs → Apart clash (xs ++ x ∷ [])
  apart_grown new apart = apart_last clash xs x apart (clash_is ∙ new)

  pub clashes : contains cmp old k ≡ true → Apart clash (xs ++ x ∷ []) → ⊥
  clashes there apart = false≢true (sym (last_apart clash xs x apart).1 ∙ clash_is ∙ there)
