-- Sums over rows of which one is set and others go.
use Rattle.std.proofs.Common.{◌≡◌, ◌≤◌, ◌+◌, ℕ, suc, Bool, true, false, cond, ◌&&◌, List, [], ◌∷◌, length, refl, sym, ap, ◌∙◌, arith}
use Rattle.std.specs.Prelude.{filter, sum_by, count_by}
use Rattle.std.specs.List.{AllByRecursion, list_any}
use Rattle.std.specs.Ordering.{match_ordering, is_eq}
use Rattle.std.specs.declared.cmp.Ordering.{Ordering}
use Rattle.std.specs.declared.cmp.Ordering.TheVariants.{Less, Equal, Greater}
use Rattle.std.proofs.lemmas.List.Sums.{length-filter, sum_by-cons}
use Rattle.lnfs_world.specs.Rows.{inserted, Rising}

pub length_is_sum : {X : Type 0} (xs : List X) → length xs ≡ sum_by (λ x. 1) xs
length_is_sum [] = refl
length_is_sum (x ∷ xs) = let whole = sum_by-cons (λ y. 1) x xs in omega (arith, whole, length_is_sum xs)

pub count_is_sum : {X : Type 0} (q : X → Bool) (xs : List X) → count_by q xs ≡ sum_by (λ x. 1) (filter q xs)
count_is_sum q xs = sym (length-filter q xs) ∙ length_is_sum (filter q xs)

no_more : (n : ℕ) → 0 + n ≡ n
no_more n = omega arith

pub sum_filter : {X : Type 0} (f : X → ℕ) (q : X → Bool) (xs : List X) → sum_by (λ x. cond (q x) (f x) 0) xs ≡ sum_by f (filter q xs)
sum_filter f q [] = refl
sum_filter f q (x ∷ xs) = sum_by-cons (λ y. cond (q y) (f y) 0) x xs ∙ at (q x) (sum_filter f q xs)
  where
    at : (b : Bool) → sum_by (λ y. cond (q y) (f y) 0) xs ≡ sum_by f (filter q xs) → cond b (f x) 0 + sum_by (λ y. cond (q y) (f y) 0) xs ≡ sum_by f (cond b (x ∷ filter q xs) (filter q xs))
    at true rest = ap (λ n. f x + n) rest ∙ sym (sum_by-cons f x (filter q xs))
    at false rest = no_more (sum_by (λ y. cond (q y) (f y) 0) xs) ∙ rest

-- ---- sums that grow

through : (a b c : ℕ) → a ≤ b → b ≤ c → a ≤ c
through a b c h k = omega (arith, h, k)

module _ {X : Type 0} (f : X → ℕ) where
  with_one : (x : X) (xs ys : List X) → sum_by f xs ≤ sum_by f ys → sum_by f (x ∷ xs) ≤ sum_by f (x ∷ ys)
  with_one x xs ys less = let a = sum_by-cons f x xs in let b = sum_by-cons f x ys in omega (arith, a, b, less)

  without_one : (x : X) (xs : List X) → sum_by f xs ≤ sum_by f (x ∷ xs)
  without_one x xs = let a = sum_by-cons f x xs in omega (arith, a)

  turned : (x y : X) (xs : List X) → sum_by f (x ∷ y ∷ xs) ≤ sum_by f (y ∷ x ∷ xs)
  turned x y xs =
      let a = sum_by-cons f x (y ∷ xs) in
      let b = sum_by-cons f y xs in
      let c = sum_by-cons f y (x ∷ xs) in
      let d = sum_by-cons f x xs in
      omega (arith, a, b, c, d)

  pub fewer : (q : X → Bool) (xs : List X) → sum_by f (filter q xs) ≤ sum_by f xs
  fewer q [] = omega arith
  fewer q (x ∷ xs) = at (q x) (fewer q xs)
    where
      at : (b : Bool) → sum_by f (filter q xs) ≤ sum_by f xs → sum_by f (cond b (x ∷ filter q xs) (filter q xs)) ≤ sum_by f (x ∷ xs)
      at true rest = with_one x (filter q xs) xs rest
      at false rest = through _ _ _ rest (without_one x xs)

  module _ (R : X → X → Ordering) (r : X) where
    one_more : (xs : List X) → sum_by f (inserted R r xs) ≤ sum_by f (r ∷ xs)
    one_more [] = omega arith
    one_more (x ∷ xs) = at (R r x) (one_more xs)
      where
        same : (ys : List X) → sum_by f ys ≤ sum_by f ys
        same ys = omega arith

        at : (o : Ordering) → sum_by f (inserted R r xs) ≤ sum_by f (r ∷ xs) → sum_by f (match_ordering o (r ∷ x ∷ xs) (r ∷ xs) (x ∷ inserted R r xs)) ≤ sum_by f (r ∷ x ∷ xs)
        at Less rest = same (r ∷ x ∷ xs)
        at Equal rest = with_one r xs (x ∷ xs) (without_one x xs)
        at Greater rest = through _ _ _ (with_one x (inserted R r xs) (r ∷ xs) rest) (turned x r xs)

    pub set_among_fewer : (q : X → Bool) (xs : List X) → sum_by f (inserted R r (filter q xs)) ≤ sum_by f (inserted R r xs)
    set_among_fewer q [] = omega arith
    set_among_fewer q (x ∷ xs) = by_test (q x) (set_among_fewer q xs) (fewer q xs) (one_more (filter q xs))
      where
        left : (o : Ordering) → sum_by f (inserted R r (filter q xs)) ≤ sum_by f (inserted R r xs) → sum_by f (filter q xs) ≤ sum_by f xs →
            sum_by f (match_ordering o (r ∷ x ∷ filter q xs) (r ∷ filter q xs) (x ∷ inserted R r (filter q xs))) ≤ sum_by f (match_ordering o (r ∷ x ∷ xs) (r ∷ xs) (x ∷ inserted R r xs))
        left Less rest few = with_one r (x ∷ filter q xs) (x ∷ xs) (with_one x (filter q xs) xs few)
        left Equal rest few = with_one r (filter q xs) xs few
        left Greater rest few = with_one x (inserted R r (filter q xs)) (inserted R r xs) rest

        gone : (o : Ordering) → sum_by f (inserted R r (filter q xs)) ≤ sum_by f (inserted R r xs) → sum_by f (inserted R r (filter q xs)) ≤ sum_by f (r ∷ xs) →
            sum_by f (inserted R r (filter q xs)) ≤ sum_by f (match_ordering o (r ∷ x ∷ xs) (r ∷ xs) (x ∷ inserted R r xs))
        gone Less rest more = through _ _ _ more (with_one r xs (x ∷ xs) (without_one x xs))
        gone Equal rest more = more
        gone Greater rest more = through _ _ _ rest (without_one x (inserted R r xs))

        by_test : (b : Bool) → sum_by f (inserted R r (filter q xs)) ≤ sum_by f (inserted R r xs) → sum_by f (filter q xs) ≤ sum_by f xs → sum_by f (inserted R r (filter q xs)) ≤ sum_by f (r ∷ filter q xs) →
            sum_by f (inserted R r (cond b (x ∷ filter q xs) (filter q xs))) ≤ sum_by f (inserted R r (x ∷ xs))
        by_test true rest few more = left (R r x) rest few
        by_test false rest few more = gone (R r x) rest (through _ _ _ more (with_one r (filter q xs) xs few))

-- ---- filters

pub filter_agree : {X : Type 0} (p q : X → Bool) (xs : List X) → AllByRecursion (λ x. p x ≡ q x) xs → filter p xs ≡ filter q xs
filter_agree p q [] all = refl
filter_agree p q (x ∷ xs) all = grind (arith, all.0, filter_agree p q xs all.1)

pub filter_both : {X : Type 0} (p q : X → Bool) (xs : List X) → filter p (filter q xs) ≡ filter (λ x. q x && p x) xs
filter_both p q [] = refl
filter_both p q (x ∷ xs) = grind (arith, filter_both p q xs)

pub filter_all : {X : Type 0} (q : X → Bool) (xs : List X) → AllByRecursion (λ x. q x ≡ true) xs → filter q xs ≡ xs
filter_all q [] all = refl
filter_all q (x ∷ xs) all = grind (arith, all.0, filter_all q xs all.1)

module _ {X : Type 0} (R : X → X → Ordering) (r : X) where
  none_later : (xs : List X) → AllByRecursion (λ y. R r y ≡ Less) xs → list_any (λ y. is_eq (R r y)) xs ≡ false
  none_later [] all = refl
  none_later (x ∷ xs) all = grind (arith, all.0, none_later xs all.1)

  -- a row that takes the place of one
  pub set_in_place : ((a b : X) → R r a ≡ Less → R a b ≡ Less → R r b ≡ Less) → (xs : List X) → Rising R xs → list_any (λ y. is_eq (R r y)) xs ≡ true → length (inserted R r xs) ≡ length xs
  set_in_place transitive [] rise there = absurd cc
  set_in_place transitive (x ∷ xs) rise there = at (R r x) refl (set_in_place transitive xs rise.1)
    where
      at : (o : Ordering) → R r x ≡ o → (list_any (λ y. is_eq (R r y)) xs ≡ true → length (inserted R r xs) ≡ length xs) → length (match_ordering o (r ∷ x ∷ xs) (r ∷ xs) (x ∷ inserted R r xs)) ≡ length (x ∷ xs)
      at Less is rest = absurd (let none = none_later xs (later xs rise.0) in grind (arith, none, is, there))
        where
          later : (ys : List X) → AllByRecursion (λ y. R x y ≡ Less) ys → AllByRecursion (λ y. R r y ≡ Less) ys
          later [] all = tt
          later (y ∷ ys) all = (transitive x y is all.0, later ys all.1)
      at Equal is rest = refl
      at Greater is rest = let later : list_any (λ y. is_eq (R r y)) xs ≡ true = grind (arith, is, there) in ap (λ n. suc n) (rest later)
