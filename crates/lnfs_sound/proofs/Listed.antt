-- Identifiers that are listed one by one, and what is counted of them.
use Rattle.std.proofs.Common.{◌≡◌, ℕ, ◌+◌, ◌<◌, List, [], ◌∷◌, ◌++◌, sym, ap, ◌∙◌, length, get_or, take, map, arith}
use Rattle.std.specs.Prelude.{◌==◌, count_by}
use Rattle.std.proofs.Math.Seq.{take-length}
use Rattle.std.proofs.lemmas.List.{length-map, map-append, take_more}
use Rattle.lnfs_world.specs.World as world
use Rattle.lnfs_world.specs.Tree.{root}
use Rattle.lnfs_rows.specs.declared.numbers.Id.{Id}
use Rattle.lnfs_rows.specs.Told.{id_of}
use Rattle.lnfs_fit.specs.RowsOf.{ids_of, AreIdsOf}
use Rattle.lnfs_fit.proofs.Mapped.{nth-map}
use Rattle.lnfs_fit.proofs.Counts.{count_map}

module _ {X : Type 0} (id : X → world.Id) (xs : List X) where
  pub one_more_id : (d : X) (ids : List Id) (k : ℕ) (i : Id) → k < length xs → id_of i ≡ id (get_or xs k d) → ids_of ids ≡ take k (map id xs) → ids_of (ids ++ i ∷ []) ≡ take (k + 1) (map id xs)
  one_more_id d ids k i less here before =
      let is : id_of i ≡ get_or (map id xs) k root = here ∙ sym (nth-map id xs k d root less) in
      map-append id_of ids (i ∷ [])
      ∙ (λ j. before j ++ is j ∷ [])
      ∙ sym (take_more (map id xs) k root (omega (arith, length-map xs id, less)))

  pub all_ids : (ids : List Id) (k : ℕ) → k ≡ length xs → ids_of ids ≡ take k (map id xs) → AreIdsOf id xs ids
  all_ids ids k all told =
      let whole : k ≡ length (map id xs) = all ∙ sym (length-map xs id) in
      told ∙ ap (λ n. take n (map id xs)) whole ∙ take-length (map id xs)

  pub rows_counted : (ids : List Id) → AreIdsOf id xs ids → (level : ℕ) → count_by (λ i. i.level == level) (ids_of ids) ≡ count_by (λ x. (id x).level == level) xs
  rows_counted ids are level = ap (count_by (λ i. i.level == level)) are ∙ count_map id (λ i. i.level == level) xs
