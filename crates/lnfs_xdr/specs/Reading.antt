-- Reading from left to right: the value and what is left, or why not.
use Rattle.std.specs.Prelude.{ℕ, zero, suc, ◌+◌, Bool, true, false, List, [], ◌∷◌, length, take, drop, Result, Ok, Err, nat_lt, ◌==◌, if◌then◌else◌}
use Rattle.std.specs.Int.{Width, w32, w64, byte_len, from_be_bytes}
use Rattle.lnfs_xdr.specs.declared.error.XdrError.{XdrError}
use Rattle.lnfs_xdr.specs.declared.error.XdrError.TheVariants.{Short, BadBool, TooLong}
use Rattle.lnfs_xdr.specs.Format.{Format, Word, Long, Boolean, Count, Among, LongAmong, Byte, Opaque, OpaqueOf, Fixed, Raw, Outside, Done, If, Then, Linked, padding}

abbrev pub after : {D A B : Type 0} → Result (A × List ℕ) D → (A → List ℕ → Result (B × List ℕ) D) → Result (B × List ℕ) D
after (Ok x) k = k x.0 x.1
after (Err e) k = Err e

-- ---- one item

abbrev pub Item : Type 0 → Type 0
Item A = Result (A × List ℕ) XdrError

abbrev pub number_at : Width → List ℕ → Item ℕ
number_at w bytes = if nat_lt (length bytes) (byte_len w) then Err Short else Ok (from_be_bytes w (take (byte_len w) bytes), drop (byte_len w) bytes)

abbrev pub boolean_at : List ℕ → Item Bool
boolean_at bytes = after (number_at w32 bytes) (λ n rest. if n == 0 then Ok (false, rest) else if n == 1 then Ok (true, rest) else Err BadBool)

abbrev pub count_at : ℕ → List ℕ → Item ℕ
count_at max bytes = after (number_at w32 bytes) (λ n rest. if nat_lt max n then Err TooLong else Ok (n, rest))

-- a number that passes a test
abbrev pub passing_at : Width → (ℕ → Bool) → List ℕ → Item ℕ
passing_at w test bytes = after (number_at w bytes) (λ n rest. if test n then Ok (n, rest) else Err BadBool)

abbrev pub among_at : (ℕ → Bool) → List ℕ → Item ℕ
among_at test bytes = passing_at w32 test bytes

abbrev pub long_among_at : (ℕ → Bool) → List ℕ → Item ℕ
long_among_at test bytes = passing_at w64 test bytes

abbrev pub byte_at : (ℕ → Bool) → List ℕ → Item ℕ
byte_at test [] = Err Short
byte_at test (b ∷ rest) = if test b then Ok (b, rest) else Err BadBool

-- n bytes and what fills up their last word
abbrev pub padded_at : ℕ → List ℕ → Item (List ℕ)
padded_at n bytes = if nat_lt (length bytes) (n + padding n) then Err Short else Ok (take n bytes, drop (padding n) (drop n bytes))

abbrev pub raw_at : ℕ → List ℕ → Item (List ℕ)
raw_at n bytes = if nat_lt (length bytes) n then Err Short else Ok (take n bytes, drop n bytes)

abbrev pub opaque_at : ℕ → List ℕ → Item (List ℕ)
opaque_at max bytes = after (count_at max bytes) (λ n rest. padded_at n rest)

abbrev pub opaque_of_at : (ℕ → Bool) → List ℕ → Item (List ℕ)
opaque_of_at test bytes = after (among_at test bytes) (λ n rest. padded_at n rest)

-- ---- a format

-- What is left begins with no such item; or the format leaves it unread.
pub data Stop (E : Type 0) : Type 0 where
  Fault : XdrError → List ℕ → Stop E
  Leaves : E → Stop E

abbrev pub Read : Type 0 → Type 0 → Type 0
Read E A = Result (A × List ℕ) (Stop E)

-- an item that isn't there is a fault where it would begin
abbrev pub here : {E A : Type 0} → List ℕ → Item A → Read E A
here bytes (Ok x) = Ok x
here bytes (Err c) = Err (Fault c bytes)

-- an element behind TRUE and those after it, or none behind FALSE
abbrev pub element : {E A : Type 0} → (List ℕ → Read E A) → (List ℕ → Read E (List A)) → Bool → List ℕ → Read E (List A)
element first later true bytes = after (first bytes) (λ x rest. after (later rest) (λ xs end. Ok (x ∷ xs, end)))
element first later false bytes = Ok ([], bytes)

-- Up to FALSE. Of so many bytes there are fewer elements than bytes.
abbrev pub linked_at : {E A : Type 0} → ℕ → (List ℕ → Read E A) → List ℕ → Read E (List A)
linked_at zero first bytes = Err (Fault Short bytes)
linked_at (suc n) first bytes = after (here bytes (boolean_at bytes)) (element first (linked_at n first))

abbrev pub read : {E A : Type 0} → Format E A → List ℕ → Read E A
read Word bytes = here bytes (number_at w32 bytes)
read Long bytes = here bytes (number_at w64 bytes)
read Boolean bytes = here bytes (boolean_at bytes)
read (Count max) bytes = here bytes (count_at max bytes)
read (Among test) bytes = here bytes (among_at test bytes)
read (LongAmong test) bytes = here bytes (long_among_at test bytes)
read (Byte test) bytes = here bytes (byte_at test bytes)
read (Opaque max) bytes = here bytes (opaque_at max bytes)
read (OpaqueOf test) bytes = here bytes (opaque_of_at test bytes)
read (Fixed n) bytes = here bytes (padded_at n bytes)
read (Raw n) bytes = here bytes (raw_at n bytes)
read (Outside e) bytes = Err (Leaves e)
read (Done x) bytes = Ok (x, bytes)
read (If b f g) bytes = if b then read f bytes else read g bytes
read (Then f k) bytes = after (read f bytes) (λ a rest. read (k a) rest)
read (Linked f) bytes = linked_at (length bytes) (read f) bytes
