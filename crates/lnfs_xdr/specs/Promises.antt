-- What reading one item promises, beside the functions that say what it gives.
use Rattle.std.specs.Prelude.{◌≡◌, ◌↔◌, ◌⊎◌, ℕ, ◌+◌, ◌<◌, ◌≤◌, List, ◌++◌, length, take, Err, Ok}
use Rattle.std.specs.Int.{w32, from_be_bytes}
use Rattle.lnfs_xdr.specs.declared.error.XdrError.TheVariants.{Short, BadBool, TooLong}
use Rattle.lnfs_xdr.specs.Format.{Format, Spells, padding}
use Rattle.lnfs_xdr.specs.Reading.{Item}

-- An item is read exactly where one of its spellings stands at the front.
abbrev pub Accepts : {A : Type 0} → Format ⊥ A → (List ℕ → Item A) → List ℕ → Type 0
Accepts {A} f item bytes = (x : A) (rest : List ℕ) → (item bytes ≡ Ok (x, rest)) ↔ ((front : List ℕ) × Spells f x front × (bytes ≡ front ++ rest))

-- An item is refused for each cause exactly where that holds.
pub record Refused {A : Type 0} (item : Item A) (short bad_bool too_long : Type 0) : Type 0 where
  pub as_short : (item ≡ Err Short) ↔ short
  pub as_bad_bool : (item ≡ Err BadBool) ↔ bad_bool
  pub as_too_long : (item ≡ Err TooLong) ↔ too_long

-- the first word, where there are 4 bytes
abbrev pub first_word : List ℕ → ℕ
first_word bytes = from_be_bytes w32 (take 4 bytes)

-- the length word isn't there, or it is within its limit and the bytes are not there
abbrev pub LacksBytes : ℕ → List ℕ → Type 0
LacksBytes max bytes = (length bytes < 4) ⊎ ((first_word bytes ≤ max) × (length bytes < 4 + first_word bytes + padding (first_word bytes)))
