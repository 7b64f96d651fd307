-- The one spelling of an item whose pad bytes are zero (RFC 4506 section 3).
use Rattle.std.specs.Prelude.{ℕ, Bool, true, false, List, [], ◌∷◌, ◌++◌, length, take}
use Rattle.std.specs.Int.{w32, w64, to_be_bytes}
use Rattle.lnfs_xdr.specs.Format.{padding, number_of}

unfoldable pub word : ℕ → List ℕ
word n = to_be_bytes w32 n

unfoldable pub long : ℕ → List ℕ
long n = to_be_bytes w64 n

-- a single byte: no item of XDR
unfoldable pub byte : ℕ → List ℕ
byte n = n ∷ []

unfoldable pub flag : Bool → List ℕ
flag b = to_be_bytes w32 (number_of b)

abbrev pub zeros : List ℕ
zeros = 0 ∷ 0 ∷ 0 ∷ []

unfoldable pub padded : List ℕ → List ℕ
padded v = v ++ take (padding (length v)) zeros

unfoldable pub opaque : List ℕ → List ℕ
opaque v = word (length v) ++ padded v

-- a list of texts, each behind the word for TRUE
abbrev pub linked : {A : Type 0} → (A → List ℕ) → List A → List ℕ
linked text [] = flag false
linked text (x ∷ xs) = flag true ++ text x ++ linked text xs
