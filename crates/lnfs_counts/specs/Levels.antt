-- What is kept of the levels, read by a level.
use Rattle.std.specs.Prelude.{ℕ, ◌==◌, cond, List, [], ◌∷◌, Option, Some, None}
use Rattle.std.specs.Ordering.{nat_cmp}
use Rattle.std.specs.BTreeMap.{BTreeMap, get}
use Rattle.lnfs_world.specs.World.{Id}

-- a number of what is kept of a level, 0 where nothing is
abbrev pub told_in : {V : Type 0} → (V → ℕ) → Option V → ℕ
told_in f None = 0
told_in f (Some x) = f x

abbrev pub told_at : {V : Type 0} → (V → ℕ) → BTreeMap ℕ V → ℕ → ℕ
told_at f levels level = told_in f (get nat_cmp levels level)

-- the last numbers of the levels that were given one
abbrev pub lasts_by : {V : Type 0} → (last : V → ℕ) → List (ℕ × V) → List Id
lasts_by last [] = []
lasts_by last (e ∷ es) = cond (last e.1 == 0) (lasts_by last es) (record { level = e.0; number = last e.1 } ∷ lasts_by last es)
