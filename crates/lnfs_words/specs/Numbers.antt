-- The numbers that words spell.
use Rattle.std.specs.Prelude.{◌==◌, ◌&&◌, ◌-◌, ◌^◌, ℕ, Bool, false, not, if◌then◌else◌, nat_le, List, [], ◌∷◌, Option, Some, None}
use Rattle.std.specs.Char.{is_ascii_digit}
use Rattle.std.specs.List.{list_all}
use Rattle.std.specs.Str.Parse.{digits_value}
use Rattle.lnfs_words.specs.Words.{is_empty}

-- a zero before other digits
abbrev pub is_padded : List ℕ → Bool
is_padded [] = false
is_padded (b ∷ digits) = b == 48 && not (is_empty digits)

-- decimal digits, without leading zeros
abbrev pub is_plain : List ℕ → Bool
is_plain word = not (is_empty word) && not (is_padded word) && list_all is_ascii_digit word

-- the number that a word spells, where it does and the number is at most the given one
abbrev pub number_up_to : (most : ℕ) → List ℕ → Option ℕ
number_up_to most word = if is_plain word && nat_le (digits_value 10 word) most then Some (digits_value 10 word) else None

-- of 32 bits
abbrev pub number : List ℕ → Option ℕ
number = number_up_to (2 ^ 32 - 1)
