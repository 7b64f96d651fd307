-- Totals that are counted node by node, with the bytes of each.
use Rattle.std.proofs.Common.{◌≡◌, ◌+◌, ◌<◌, ◌==◌, ℕ, zero, suc, Bool, cond, List, [], ◌∷◌, ◌++◌, length, map, take, slice_index_or, refl, sym, ◌∙◌, ap, subst, arith}
use Rattle.std.specs.Prelude.{sum_by}
use Rattle.std.specs.List.{AllByRecursion}
use Rattle.std.specs.declared.cmp.Ordering.{Ordering}
use Rattle.std.specs.declared.cmp.Ordering.TheVariants.{Less}
use Rattle.std.proofs.lemmas.List.{take-map, take_more, map-append}
use Rattle.std.proofs.lemmas.List.Sums.{sum_by-cons}
use Rattle.lnfs_world.specs.Rows.{Rising}
use Rattle.lnfs_world.specs.World.{Node}
use Rattle.lnfs_world.specs.Usage.{bytes_of, nodes_used, bytes_used}
use Rattle.lnfs_quota.specs.declared.quota.Row.{Row}
use Rattle.lnfs_quota.specs.Quota.{row_at, resized}
use Rattle.lnfs_quota.specs.Totals.{IsInBounds, AreTotals, home_share, label_share, node_counted}
use Rattle.lnfs_quota.proofs.Kept.{Sums, sums_of, totals_of, sums-resized, sums-charged, resized_levels, charged_levels}

-- ---- a front of a list

module _ {X : Type 0} where
  pub all_take : (P : X → Type 0) (i : ℕ) (xs : List X) → AllByRecursion P xs → AllByRecursion P (take i xs)
  all_take P zero xs all = tt
  all_take P (suc i) [] all = tt
  all_take P (suc i) (x ∷ xs) all = (all.0, all_take P i xs all.1)

  pub rising_take : (R : X → X → Ordering) (i : ℕ) (xs : List X) → Rising R xs → Rising R (take i xs)
  rising_take R zero xs rising = tt
  rising_take R (suc i) [] rising = tt
  rising_take R (suc i) (x ∷ xs) rising = (all_take (λ y. R x y ≡ Less) i xs rising.0, rising_take R i xs rising.1)

  pub all_append : (P : X → Type 0) (xs : List X) (x : X) → AllByRecursion P xs → P x → AllByRecursion P (xs ++ x ∷ [])
  all_append P [] x all here = (here, tt)
  all_append P (y ∷ ys) x all here = (all.0, all_append P ys x all.1 here)

  sum_append : (f : X → ℕ) (xs : List X) (x : X) → sum_by f (xs ++ x ∷ []) ≡ sum_by f xs + f x
  sum_append f [] x = rw sum_by-cons (omega arith)
  sum_append f (y ∷ ys) x =
      let rest : sum_by f (ys ++ x ∷ []) ≡ sum_by f ys + f x = sum_append f ys x in
      rw (sum_by-cons f y (ys ++ x ∷ []), sum_by-cons f y ys) (omega arith)

module _ {X Y : Type 0} (f : X → Y) where
  -- what holds of what all elements stand for
  pub all_at : (P : Y → Type 0) (xs : List X) (i : ℕ) (x : X) → i < length xs → x ≡ slice_index_or xs i x → AllByRecursion P (map f xs) → P (f x)
  all_at P xs i x below is all = subst (λ (y : X). P (f y)) (sym is) (at xs i below all)
    where
      at : (xs : List X) (i : ℕ) → i < length xs → AllByRecursion P (map f xs) → P (f (slice_index_or xs i x))
      at [] i below all = absurd (omega arith)
      at (y ∷ ys) zero below all = all.0
      at (y ∷ ys) (suc i) below all = at ys i (omega arith) all.1

  -- one more
  pub taken_more : (xs : List X) (i : ℕ) (x : X) → i < length xs → x ≡ slice_index_or xs i x → take (i + 1) (map f xs) ≡ take i (map f xs) ++ f x ∷ []
  taken_more xs i x below is =
      take-map f (i + 1) xs ∙ ap (map f) (take_more xs i x below ∙ ap (λ (y : X). take i xs ++ y ∷ []) (sym is))
      ∙ map-append f (take i xs) (x ∷ []) ∙ ap (λ (ys : List Y). ys ++ f x ∷ []) (sym (take-map f i xs))

-- ---- one more node

-- bytes that come leave what is counted of nodes
pub resized_nodes : (rows : List Row) (label bytes k : ℕ) → label < length rows → (row_at (resized rows label 0 bytes) k).nodes ≡ (row_at rows k).nodes
resized_nodes rows label bytes k known = (sums-resized own label 0 bytes (λ j. (row_at rows j).bytes + cond (label == j) bytes 0) known (omega arith) (λ j. nothing_less (label == j) _ _)).nodes_sum k
  where
    own : Sums rows (λ j. (row_at rows j).nodes) (λ j. (row_at rows j).bytes)
    own = record { nodes_sum = λ j. refl; bytes_sum = λ j. refl }

    nothing_less : (b : Bool) (total more : ℕ) → total + cond b more 0 + cond b 0 0 ≡ total + cond b more 0
    nothing_less b total more = grind arith

pub totals-counted : (rows : List Row) (nodes : List Node) (n : Node) → AreTotals rows nodes → IsInBounds n → AreTotals (node_counted rows n) (nodes ++ n ∷ [])
totals-counted rows nodes n totals here =
    totals_of after (sums-charged resized_sums n.id.level (nodes_used after) home (λ k. sum_append (λ m. home_share m k) nodes n)) (λ k. refl) (λ k. refl)
    (charged_levels rows' n.id.level ∙ many ∙ totals.levels) (all_append IsInBounds nodes n totals.bounds here)
  where
    after : List Node
    after = nodes ++ n ∷ []

    rows' : List Row
    rows' = resized rows n.label 0 (bytes_of n n.kind)

    many : length rows' ≡ length rows
    many = resized_levels rows n.label 0 (bytes_of n n.kind)

    label : n.label < length rows
    label = subst (λ (l : ℕ). n.label < l) (sym totals.levels) here.label

    home : n.id.level < length rows'
    home = subst (λ (l : ℕ). n.id.level < l) (sym (many ∙ totals.levels)) here.home

    nothing_less : (b : Bool) (total more : ℕ) → total + cond b more 0 + cond b 0 0 ≡ total + cond b more 0
    nothing_less b total more = grind arith

    resized_sums : Sums rows' (nodes_used nodes) (bytes_used after)
    resized_sums = sums-resized (sums_of totals) n.label 0 (bytes_of n n.kind) (bytes_used after) label (omega arith)
        (λ k. ap (λ (b : ℕ). b + cond (n.label == k) 0 0) (sum_append (λ m. label_share m k) nodes n) ∙ nothing_less (n.label == k) (bytes_used nodes k) (bytes_of n n.kind))
