-- Client records with what is kept to find them: of each level the last number and how many records it has,
-- and of each of its owners the numbers of its records.
use Rattle.std.specs.Prelude.{◌≡◌, ◌≤◌, ◌+◌, ◌==◌, ℕ, Bool, true, false, cond, ◌&&◌, List, Option, Some, None}
use Rattle.std.specs.Str.{bytes_eq}
use Rattle.lnfs_world.specs.World.{Id, Client, client_at}
use Rattle.lnfs_world.specs.Facts.{same_flag}
use Rattle.lnfs_counts.specs.Counted.{IsCounted}
use Rattle.lnfs_session.specs.declared.levels.OwnerNumbers.{OwnerNumbers}
use Rattle.lnfs_session.specs.Levels.{Levels, number_by, put_number, last_at, records_at, numbers_at, lasts_of}

abbrev pub own_id : Client → Id
own_id c = c.id

-- whether there is a record of an owner, confirmed or pending
abbrev pub is_record_of : List ℕ → Bool → Option Client → Bool
is_record_of owner confirmed None = false
is_record_of owner confirmed (Some c) = bytes_eq c.owner owner && same_flag c.confirmed confirmed

pub record IsIndexed (rows : List Client) (lasts : List Id) (last records : ℕ → ℕ) (numbers : ℕ → List ℕ → OwnerNumbers) : Type 0 where
  pub counted : IsCounted own_id rows lasts last records
  -- a record is its owner's confirmed one, or its pending one
  pub filed : (i : Id) (c : Client) → client_at rows i ≡ Some c → number_by c.confirmed (numbers i.level c.owner) ≡ Some i.number
  -- and an owner's numbers are those of such records
  pub there : (level : ℕ) (owner : List ℕ) (confirmed : Bool) (number : ℕ) → number_by confirmed (numbers level owner) ≡ Some number → is_record_of owner confirmed (client_at rows (record { level = level; number = number })) ≡ true
  -- there are no more records than numbers that were given
  pub few : (level : ℕ) → records level ≤ last level

-- client records with what is kept of the levels
abbrev pub AreFiled : List Client → Levels → Type 0
AreFiled rows levels = IsIndexed rows (lasts_of levels.entries) (last_at levels) (records_at levels) (numbers_at levels)

-- One more record of a level is counted, and found by its owner. Its number was given before.
pub record FilesOne (row : Client) (a b : Levels) : Type 0 where
  pub last : (level : ℕ) → last_at b level ≡ last_at a level
  pub records : (level : ℕ) → records_at b level ≡ cond (row.id.level == level) (records_at a row.id.level + 1) (records_at a level)
  pub numbers : (level : ℕ) (owner : List ℕ) → numbers_at b level owner ≡ cond (row.id.level == level && bytes_eq row.owner owner) (put_number row.confirmed row.id.number (numbers_at a row.id.level row.owner)) (numbers_at a level owner)
  pub lasts : lasts_of b.entries ≡ lasts_of a.entries
