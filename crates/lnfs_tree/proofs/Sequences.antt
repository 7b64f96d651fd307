-- Lists that are gone through from the front, over any type of row.
use Rattle.std.proofs.Common.{◌≡◌, ℕ, ◌+◌, ◌<◌, Bool, false, cond, List, [], ◌∷◌, ◌++◌, length, take, drop, get_or, map, refl, sym, ap, ◌∙◌}
use Rattle.std.specs.Prelude.{count_by}
use Rattle.std.specs.List.{AllByRecursion}
use Rattle.std.specs.declared.cmp.Ordering.{Ordering}
use Rattle.std.specs.declared.cmp.Ordering.TheVariants.{Less, Greater}
use Rattle.std.proofs.lemmas.List.{take_more, take-append-drop, append-nil, map-append}
use Rattle.std.proofs.lemmas.List.Sums.{sum_by-append, sum_by-cons}
use Rattle.lnfs_world.specs.Rows.{inserted, Rising, Apart}
use Rattle.lnfs_tree.proofs.Lists.{inserted_past}

module _ {X : Type 0} where
  pub snoc-append : (xs : List X) (a : X) (ys : List X) → (xs ++ a ∷ []) ++ ys ≡ xs ++ a ∷ ys
  snoc-append [] a ys = refl
  snoc-append (x ∷ xs) a ys = ap (λ zs. x ∷ zs) (snoc-append xs a ys)

  -- at an element: what came before, it, and the rest
  pub parted : (xs : List X) (i : ℕ) (d : X) → i < length xs → take i xs ++ get_or xs i d ∷ drop (i + 1) xs ≡ xs
  parted xs i d inside =
      sym (snoc-append (take i xs) (get_or xs i d) (drop (i + 1) xs))
      ∙ ap (λ (front : List X). front ++ drop (i + 1) xs) (sym (take_more xs i d inside))
      ∙ take-append-drop (i + 1) xs

  pub all_unmap : {Y : Type 0} (P : Y → Type 0) (f : X → Y) (xs : List X) → AllByRecursion P (map f xs) → AllByRecursion (λ x. P (f x)) xs
  all_unmap P f [] all = tt
  all_unmap P f (x ∷ xs) all = (all.0, all_unmap P f xs all.1)

  pub all_mid : (P : X → Type 0) (xs : List X) (a : X) (ys : List X) → AllByRecursion P (xs ++ a ∷ ys) → P a
  all_mid P [] a ys all = all.0
  all_mid P (x ∷ xs) a ys all = all_mid P xs a ys all.1

  pub all_back : (P : X → Type 0) (xs ys : List X) → AllByRecursion P (xs ++ ys) → AllByRecursion P ys
  all_back P [] ys all = all
  all_back P (x ∷ xs) ys all = all_back P xs ys all.1

  pub rising_mid : (R : X → X → Ordering) (xs : List X) (a : X) (ys : List X) → Rising R (xs ++ a ∷ ys) → AllByRecursion (λ x. R x a ≡ Less) xs
  rising_mid R [] a ys rise = tt
  rising_mid R (x ∷ xs) a ys rise = (all_mid (λ y. R x y ≡ Less) xs a ys rise.0, rising_mid R xs a ys rise.1)

  pub apart_mid : (clash : X → X → Bool) (xs : List X) (a : X) (ys : List X) → Apart clash (xs ++ a ∷ ys) → AllByRecursion (λ x. clash x a ≡ false) xs
  apart_mid clash [] a ys apart = tt
  apart_mid clash (x ∷ xs) a ys apart = (all_mid (λ y. clash x y ≡ false) xs a ys apart.0, apart_mid clash xs a ys apart.1)

  -- a row behind all others
  pub inserted_last : (R : X → X → Ordering) (r : X) (xs : List X) → AllByRecursion (λ x. R r x ≡ Greater) xs → inserted R r xs ≡ xs ++ r ∷ []
  inserted_last R r xs all = ap (inserted R r) (sym (append-nil xs)) ∙ inserted_past R r xs [] all

  pub count-mid : (q : X → Bool) (xs : List X) (a : X) (ys : List X) → count_by q (xs ++ a ∷ ys) ≡ count_by q xs + (cond (q a) 1 0 + count_by q ys)
  count-mid q xs a ys = sum_by-append _ xs (a ∷ ys) ∙ ap (λ (n : ℕ). count_by q xs + n) (sum_by-cons _ a ys)

-- the same of the rows of elements
pub map-parted : {X Y : Type 0} (f : X → Y) (xs : List X) (i : ℕ) (d : X) → i < length xs → map f (take i xs) ++ f (get_or xs i d) ∷ map f (drop (i + 1) xs) ≡ map f xs
map-parted f xs i d inside = sym (map-append f (take i xs) (get_or xs i d ∷ drop (i + 1) xs)) ∙ ap (map f) (parted xs i d inside)

pub map-more : {X Y : Type 0} (f : X → Y) (xs : List X) (i : ℕ) (d : X) → i < length xs → map f (take (i + 1) xs) ≡ map f (take i xs) ++ f (get_or xs i d) ∷ []
map-more f xs i d inside = ap (map f) (take_more xs i d inside) ∙ map-append f (take i xs) (get_or xs i d ∷ [])

-- and where the element is known
pub map-parted-at : {X Y : Type 0} (f : X → Y) (xs : List X) (i : ℕ) (x : X) → i < length xs → x ≡ get_or xs i x → map f (take i xs) ++ f x ∷ map f (drop (i + 1) xs) ≡ map f xs
map-parted-at f xs i x inside is = (λ k. map f (take i xs) ++ f (is k) ∷ map f (drop (i + 1) xs)) ∙ map-parted f xs i x inside

pub map-more-at : {X Y : Type 0} (f : X → Y) (xs : List X) (i : ℕ) (x : X) → i < length xs → x ≡ get_or xs i x → map f (take (i + 1) xs) ≡ map f (take i xs) ++ f x ∷ []
map-more-at f xs i x inside is = map-more f xs i x inside ∙ (λ k. map f (take i xs) ++ f (sym is k) ∷ [])

pub append-more : {X : Type 0} (xs ys zs : List X) → (xs ++ ys) ++ zs ≡ xs ++ (ys ++ zs)
append-more [] ys zs = refl
append-more (x ∷ xs) ys zs = ap (λ ws. x ∷ ws) (append-more xs ys zs)
