-- Last numbers by level: one for each level, from level 0 on, where a level that gave none has 0; and, as a world has them,
-- of those levels alone that gave one.
use Rattle.std.specs.Prelude.{ℕ, zero, suc, List, [], ◌∷◌}
use Rattle.lnfs_world.specs.World.{Id, last_of}

-- those of the levels from one on
abbrev pub given_from : (level : ℕ) → List ℕ → List Id
given_from level [] = []
given_from level (zero ∷ ns) = given_from (suc level) ns
given_from level (suc n ∷ ns) = record { level = level; number = suc n } ∷ given_from (suc level) ns

abbrev pub given_of : List ℕ → List Id
given_of ns = given_from 0 ns

-- so many levels' from one on
abbrev pub each_from : (level levels : ℕ) → List Id → List ℕ
each_from level zero lasts = []
each_from level (suc levels) lasts = last_of level lasts ∷ each_from (suc level) levels lasts

abbrev pub each_of : (levels : ℕ) → List Id → List ℕ
each_of levels lasts = each_from 0 levels lasts
