-- The rows of guest lines.
use Rattle.std.proofs.Common.{◌≡◌, ◌<◌, List, [], ◌∷◌, length, map, refl, arith}
use Rattle.lnfs_policy.specs.declared.rows.Guest.{Guest}
use Rattle.lnfs_policy.specs.Policy.{Policy}
use Rattle.lnfs_traffic.specs.Generated.{row, row_of, rows_of, rows}

none_of : (p : Policy) (guests : List Guest) → length guests ≡ 0 → rows_of p guests ≡ row p 0 0 ∷ []
none_of p [] e = refl
none_of p (g ∷ guests) e = absurd (omega (arith, e))

some_of : (p : Policy) (guests : List Guest) → 0 < length guests → rows_of p guests ≡ map (row_of p) guests
some_of p [] e = absurd (omega (arith, e))
some_of p (g ∷ guests) e = refl

pub rows_none : (p : Policy) → length p.guests ≡ 0 → rows p ≡ row p 0 0 ∷ []
unfolding rows
rows_none p e = none_of p p.guests e

pub rows_some : (p : Policy) → 0 < length p.guests → rows p ≡ map (row_of p) p.guests
unfolding rows
rows_some p e = some_of p p.guests e
