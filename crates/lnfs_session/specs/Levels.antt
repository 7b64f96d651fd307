-- What is kept of the levels, read by a level and an owner.
use Rattle.std.specs.Prelude.{◌≡◌, ℕ, ◌-◌, Bool, true, false, List, Option, Some, None}
use Rattle.std.specs.Ordering.{nat_cmp}
use Rattle.std.specs.Cmp.Lexicographic.{slice_cmp}
use Rattle.std.specs.BTreeMap.{BTreeMap, get, get_by}
use Rattle.lnfs_world.specs.World.{Id, last_of}
use Rattle.lnfs_counts.specs.Levels.{told_at, lasts_by}
use Rattle.lnfs_session.specs.declared.levels.OwnerNumbers.{OwnerNumbers}
use Rattle.lnfs_session.specs.declared.levels.LevelRecords.{LevelRecords}

abbrev pub Levels : Type 0
Levels = BTreeMap ℕ LevelRecords

abbrev pub no_numbers : OwnerNumbers
no_numbers = record { pending = None; confirmed = None }

abbrev pub or_none : Option OwnerNumbers → OwnerNumbers
or_none None = no_numbers
or_none (Some numbers) = numbers

-- ---- in a level

-- the place that is made for an owner's numbers
abbrev pub place_of : LevelRecords → List ℕ → Option OwnerNumbers
place_of x owner = get_by (λ k. slice_cmp nat_cmp owner k.items) x.owners

abbrev pub numbers_of : LevelRecords → List ℕ → OwnerNumbers
numbers_of x owner = or_none (place_of x owner)

-- two states of a level that tell the same
pub record TellSame (a b : LevelRecords) : Type 0 where
  pub last : b.last ≡ a.last
  pub records : b.records ≡ a.records
  pub numbers : (owner : List ℕ) → numbers_of b owner ≡ numbers_of a owner

-- ---- among all levels

abbrev pub place_in : Option LevelRecords → List ℕ → Option OwnerNumbers
place_in None owner = None
place_in (Some x) owner = place_of x owner

abbrev pub last_at : Levels → ℕ → ℕ
last_at levels level = told_at (λ x. x.last) levels level

abbrev pub records_at : Levels → ℕ → ℕ
records_at levels level = told_at (λ x. x.records) levels level

abbrev pub place_at : Levels → ℕ → List ℕ → Option OwnerNumbers
place_at levels level owner = place_in (get nat_cmp levels level) owner

abbrev pub numbers_at : Levels → ℕ → List ℕ → OwnerNumbers
numbers_at levels level owner = or_none (place_at levels level owner)

-- the number of an owner's confirmed record, or of its pending one
abbrev pub number_by : Bool → OwnerNumbers → Option ℕ
number_by true numbers = numbers.confirmed
number_by false numbers = numbers.pending

-- an owner's numbers where its confirmed record has a number, or its pending one
abbrev pub put_number : Bool → ℕ → OwnerNumbers → OwnerNumbers
put_number true number numbers = record numbers { confirmed = Some number }
put_number false number numbers = record numbers { pending = Some number }

-- an owner's numbers without the one or the other
abbrev pub cleared : Bool → OwnerNumbers → OwnerNumbers
cleared true numbers = record numbers { confirmed = None }
cleared false numbers = record numbers { pending = None }

-- how many records there are without one that may be there
abbrev pub without : ℕ → Option ℕ → ℕ
without records None = records
without records (Some number) = records - 1

abbrev pub others_in : Levels → ℕ → List ℕ → ℕ
others_in levels level owner = without (records_at levels level) (numbers_at levels level owner).pending

-- the last numbers of the levels that were given one
abbrev pub lasts_of : List (ℕ × LevelRecords) → List Id
lasts_of es = lasts_by (λ x. x.last) es

-- two states of the levels that tell the same
pub record AllTellSame (a b : Levels) : Type 0 where
  pub last : (level : ℕ) → last_at b level ≡ last_at a level
  pub records : (level : ℕ) → records_at b level ≡ records_at a level
  pub numbers : (level : ℕ) (owner : List ℕ) → numbers_at b level owner ≡ numbers_at a level owner
  pub lasts : lasts_of b.entries ≡ lasts_of a.entries

-- No level has a record. The last numbers are those that were given.
pub record HaveNone (a : Levels) : Type 0 where
  pub lasting : (level : ℕ) → last_of level (lasts_of a.entries) ≡ last_at a level
  pub records : (level : ℕ) → records_at a level ≡ 0
  pub numbers : (level : ℕ) (owner : List ℕ) → numbers_at a level owner ≡ no_numbers
