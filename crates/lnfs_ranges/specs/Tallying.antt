-- What a tally tells of a list.
use Rattle.std.specs.Prelude.{◌≡◌, List, [], ◌∷◌, ◌++◌, length, Option, Some, None}
use Rattle.lnfs_ranges.specs.declared.range.LockRange.{LockRange}
use Rattle.lnfs_ranges.specs.declared.tally.Tally.{Tally}

abbrev pub EndsIn : Option LockRange → List LockRange → Type 0
EndsIn None xs = xs ≡ []
EndsIn (Some p) xs = (front : List LockRange) × (xs ≡ front ++ p ∷ [])

pub record Tells (t : Tally) (xs : List LockRange) : Type 0 where
  pub long : t.len ≡ length xs
  pub end : EndsIn t.end xs
