-- No range that a change leaves goes past an offset that none went past before, if what is asked doesn't.
use Rattle.std.proofs.Common.{◌≤◌, ◌-◌, ◌+◌, ℕ, Bool, cond, List, [], ◌∷◌, ◌++◌, Option, Some, None, arith}
use Rattle.std.specs.Prelude.{nat_lt}
use Rattle.std.specs.List.{AllByRecursion}
use Rattle.std.proofs.lemmas.Bool.{cond_both, ltb-false}
use Rattle.lnfs_ranges.specs.declared.range.LockRange.{LockRange}
use Rattle.lnfs_ranges.specs.Modes.{touches, joins, joined, part_below, part_above, below, above, asked_range, set}

module _ (most : ℕ) where
  abbrev Ends : LockRange → Type 0
  Ends r = r.last ≤ most

  abbrev AllEnd : List LockRange → Type 0
  AllEnd rs = AllByRecursion Ends rs

  ends-append : (rs ss : List LockRange) → AllEnd rs → AllEnd ss → AllEnd (rs ++ ss)
  ends-append [] ss all others = others
  ends-append (r ∷ rs) ss all others = (all.0, ends-append rs ss all.1 others)

  ends-below : (x : ℕ) (r : LockRange) → Ends r → AllEnd (part_below x r)
  ends-below x r is =
      cond_both (nat_lt r.last x) (r ∷ []) (cond (nat_lt r.first x) (record r { last = x - 1 } ∷ []) []) AllEnd (λ t. (is, tt))
      (λ t. cond_both (nat_lt r.first x) (record r { last = x - 1 } ∷ []) [] AllEnd (λ u. (omega (arith, is, ltb-false r.last x t), tt)) (λ u. tt))

  ends-above : (x : ℕ) (r : LockRange) → Ends r → AllEnd (part_above x r)
  ends-above x r is =
      cond_both (nat_lt x r.first) (r ∷ []) (cond (nat_lt x r.last) (record r { first = x + 1 } ∷ []) []) AllEnd (λ t. (is, tt))
      (λ t. cond_both (nat_lt x r.last) (record r { first = x + 1 } ∷ []) [] AllEnd (λ u. (is, tt)) (λ u. tt))

  each-below : (x : ℕ) (rs : List LockRange) → AllEnd rs → AllEnd (below x rs)
  each-below x [] all = tt
  each-below x (r ∷ rs) all = ends-append (part_below x r) (below x rs) (ends-below x r all.0) (each-below x rs all.1)

  each-above : (x : ℕ) (rs : List LockRange) → AllEnd rs → AllEnd (above x rs)
  each-above x [] all = tt
  each-above x (r ∷ rs) all = ends-append (part_above x r) (above x rs) (ends-above x r all.0) (each-above x rs all.1)

  ends-asked : (first last : ℕ) (asked : Option Bool) → last ≤ most → AllEnd (asked_range first last asked)
  ends-asked first last None is = tt
  ends-asked first last (Some write) is = (is, tt)

  ends-joins : (r : LockRange) (rs : List LockRange) → Ends r → AllEnd rs → AllEnd (joins r rs)
  ends-joins r [] is all = (is, tt)
  ends-joins r (next ∷ rs) is all =
      cond_both (touches r next) (record next { first = r.first } ∷ rs) (r ∷ next ∷ rs) AllEnd (λ t. all) (λ t. (is, all))

  ends-joined : (rs : List LockRange) → AllEnd rs → AllEnd (joined rs)
  ends-joined [] all = tt
  ends-joined (r ∷ rs) all = ends-joins r (joined rs) all.0 (ends-joined rs all.1)

  pub ends-set : (rs : List LockRange) (first last : ℕ) (asked : Option Bool) → last ≤ most → AllByRecursion (λ r. r.last ≤ most) rs → AllByRecursion (λ r. r.last ≤ most) (set rs first last asked)
  ends-set rs first last asked is all =
      ends-joined (below first rs ++ asked_range first last asked ++ above last rs)
      (ends-append (below first rs ++ asked_range first last asked) (above last rs)
      (ends-append (below first rs) (asked_range first last asked) (each-below first rs all) (ends-asked first last asked is))
      (each-above last rs all))
