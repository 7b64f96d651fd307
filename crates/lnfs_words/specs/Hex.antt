-- The bytes that words spell in hex.
use Rattle.std.specs.Prelude.{ℕ, ◌&&◌, Bool, if◌then◌else◌, nat_lt, nat_le, List, Option, Some, None, Result, Ok, Err}
use Rattle.std.specs.List.{list_all}
use Rattle.hex.specs.Hex.{decode_of, decode_sized}
use Rattle.hex.specs.declared.error.FromHexError.{FromHexError}

abbrev pub decoded : Result (List ℕ) FromHexError → Option (List ℕ)
decoded (Ok bytes) = Some bytes
decoded (Err error) = None

-- the bytes that a word spells in hex of either case, where it does
abbrev pub hex_of : List ℕ → Option (List ℕ)
hex_of word = decoded (decode_of word)

abbrev pub is_lower_digit : ℕ → Bool
is_lower_digit b = if nat_lt b 58 then nat_le 48 b else nat_le 97 b && nat_le b 102

-- in hex of lower case
unfoldable pub lower_hex_of : List ℕ → Option (List ℕ)
lower_hex_of word = if list_all is_lower_digit word then hex_of word else None

-- so many bytes
unfoldable pub lower_hex_sized : (count : ℕ) → List ℕ → Option (List ℕ)
lower_hex_sized count word = if list_all is_lower_digit word then decoded (decode_sized word count) else None
