-- What the counters of levels tell.
use Rattle.std.specs.Prelude.{◌≡◌, ◌<◌, ◌≤◌, ◌^◌, ℕ, List}
use Rattle.std.specs.BTreeMap.{BTreeMap}
use Rattle.lnfs_world.specs.World.{Id}
use Rattle.lnfs_world.specs.declared.numbers.TheConstants.{LAST_NUMBER}
use Rattle.lnfs_counts.specs.declared.counters.Counter.{Counter}
use Rattle.lnfs_counts.specs.Levels.{told_at, lasts_by}

abbrev pub Counters : Type 0
Counters = BTreeMap ℕ Counter

-- the last number that a level was given
abbrev pub last_at : Counters → ℕ → ℕ
last_at counters level = told_at (λ x. x.last) counters level

-- how many rows it has
abbrev pub count_at : Counters → ℕ → ℕ
count_at counters level = told_at (λ x. x.count) counters level

-- the last numbers of the levels that were given one
abbrev pub lasts_of : List (ℕ × Counter) → List Id
lasts_of es = lasts_by (λ x. x.last) es

-- two states of the levels that tell the same
pub record TellSame (a b : Counters) : Type 0 where
  pub last : (level : ℕ) → last_at b level ≡ last_at a level
  pub count : (level : ℕ) → count_at b level ≡ count_at a level
  pub lasts : lasts_of b.entries ≡ lasts_of a.entries

-- a last number that a counter can have, of a level that can have one
pub record FitsCounter (i : Id) : Type 0 where
  pub level : i.level < 2 ^ 32
  pub number : i.number ≤ LAST_NUMBER
