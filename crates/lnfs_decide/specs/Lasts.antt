-- What a list of last numbers is that were given.
use Rattle.std.specs.Prelude.{◌<◌, ℕ, List}
use Rattle.std.specs.List.{AllByRecursion}
use Rattle.lnfs_world.specs.World.{Id}

-- of known levels, and from 1
abbrev pub IsOfLevels : (levels : ℕ) → List Id → Type 0
IsOfLevels levels lasts = AllByRecursion (λ i. (i.level < levels) × (0 < i.number)) lasts
