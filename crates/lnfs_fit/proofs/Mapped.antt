-- What holds of rows by what is told of them, as their identifiers.
use Rattle.std.proofs.Common.{◌≡◌, ℕ, zero, suc, ◌<◌, List, [], ◌∷◌, refl, sym, ap, ◌∙◌, subst, length, get_or, map, arith}
use Rattle.std.specs.List.{AllByRecursion}
use Rattle.std.specs.declared.cmp.Ordering.{Ordering}
use Rattle.std.specs.declared.cmp.Ordering.TheVariants.{Less}
use Rattle.std.proofs.lemmas.List.{length-map}
use Rattle.lnfs_world.specs.Rows.{Rising}
use Rattle.lnfs_world.specs.World as world
use Rattle.lnfs_world.specs.Tree.{root}
use Rattle.lnfs_rows.specs.declared.numbers.Id.{Id}
use Rattle.lnfs_rows.specs.Told.{id_of}
use Rattle.lnfs_fit.specs.Ids.{nth_id}
use Rattle.lnfs_fit.specs.RowsOf.{ids_of, AreIdsOf}

module _ {A B : Type 0} (f : A → B) where
  pub nth-map : (xs : List A) (k : ℕ) (d : A) (e : B) → k < length xs → get_or (map f xs) k e ≡ f (get_or xs k d)
  nth-map [] k d e less = absurd (omega arith)
  nth-map (x ∷ xs) zero d e less = refl
  nth-map (x ∷ xs) (suc k) d e less = nth-map xs k d e (omega arith)

  pub all_map : (P : B → Type 0) (xs : List A) → AllByRecursion P (map f xs) → AllByRecursion (λ x. P (f x)) xs
  all_map P [] all = tt
  all_map P (x ∷ xs) all = (all.0, all_map P xs all.1)

  pub map_all : (P : B → Type 0) (xs : List A) → AllByRecursion (λ x. P (f x)) xs → AllByRecursion P (map f xs)
  map_all P [] all = tt
  map_all P (x ∷ xs) all = (all.0, map_all P xs all.1)

  pub rise_map : (R : B → B → Ordering) (xs : List A) → Rising R (map f xs) → Rising (λ x y. R (f x) (f y)) xs
  rise_map R [] rising = tt
  rise_map R (x ∷ xs) rising = (all_map (λ y. R (f x) y ≡ Less) xs rising.0, rise_map R xs rising.1)

  pub map_rise : (R : B → B → Ordering) (xs : List A) → Rising (λ x y. R (f x) (f y)) xs → Rising R (map f xs)
  map_rise R [] rising = tt
  map_rise R (x ∷ xs) rising = (map_all (λ y. R (f x) y ≡ Less) xs rising.0, map_rise R xs rising.1)

module _ {X : Type 0} (id : X → world.Id) (rows : List X) (ids : List Id) (are : AreIdsOf id rows ids) where
  pub ids_len : length ids ≡ length rows
  ids_len = sym (length-map ids id_of) ∙ ap length are ∙ length-map rows id

  pub id_nth : (d : X) (k : ℕ) → k < length rows → nth_id (ids_of ids) k ≡ id (get_or rows k d)
  id_nth d k less = ap (λ is. nth_id is k) are ∙ nth-map id rows k d root less

  pub ids_rise : Rising (λ a b. world.id_order (id a) (id b)) rows → Rising world.id_order (ids_of ids)
  ids_rise rising = subst (Rising world.id_order) (sym are) (map_rise id world.id_order rows rising)

  pub rows_rise : Rising world.id_order (ids_of ids) → Rising (λ a b. world.id_order (id a) (id b)) rows
  rows_rise rising = rise_map id world.id_order rows (subst (Rising world.id_order) are rising)

  pub ids_all : (P : world.Id → Type 0) → AllByRecursion (λ x. P (id x)) rows → AllByRecursion P (ids_of ids)
  ids_all P all = subst (AllByRecursion P) (sym are) (map_all id P rows all)

  pub rows_all : (P : world.Id → Type 0) → AllByRecursion P (ids_of ids) → AllByRecursion (λ x. P (id x)) rows
  rows_all P all = all_map id P rows (subst (AllByRecursion P) are all)
