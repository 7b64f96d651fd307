-- A label's body, laid out as the fields of RFC 5570 section 5.1: the DOI in 4 bytes,
-- the number of 32-bit words of the bitmap in one, the sensitivity in one, and the bitmap.
use Rattle.std.specs.Prelude.{ℕ, zero, suc, ◌+◌, ◌-◌, ◌*◌, ◌==◌, ◌&&◌, ◌||◌, Bool, List, [], ◌∷◌, ◌++◌, length, slice_index, drop, nat_le, nat_lt, Option, Some, None, if◌then◌else◌}
use Rattle.std.specs.List.{flat_map}
use Rattle.std.specs.Int.{to_be_bytes, from_be_bytes, w32}
use Rattle.lnfs_calipso.specs.Label.{Label}
use Rattle.lnfs_calipso.specs.Bitmap.{members, words, bitmap_of}

-- the body of a label, without a zero word at its end
unfoldable pub body_of : Label → List ℕ
body_of label =
    to_be_bytes w32 label.doi ++ words label.comps ∷ label.sens ∷ flat_map (to_be_bytes w32) (bitmap_of label.comps)

-- the number of words that some bytes announce
abbrev pub announced : List ℕ → ℕ
announced bytes = slice_index bytes 4

-- the first n words of some bytes
unfoldable pub words_in : ℕ → List ℕ → List ℕ
words_in zero bytes = []
words_in (suc n) bytes = from_be_bytes w32 bytes ∷ words_in n (drop 4 bytes)

-- the last word of some bytes
abbrev pub last_word : List ℕ → ℕ
last_word bytes = from_be_bytes w32 (drop (length bytes - 4) bytes)

-- At most 60 words are announced, they are there, the last of them isn't zero, and nothing follows.
abbrev pub is_body : List ℕ → Bool
is_body bytes =
    nat_le 6 (length bytes) && nat_le (announced bytes) 60 && length bytes == 6 + 4 * announced bytes
    && (announced bytes == 0 || nat_lt 0 (last_word bytes))

-- the label whose body some bytes are; its DOI is the number in the first four
unfoldable pub label_of_body : List ℕ → Option Label
label_of_body bytes =
    if is_body bytes
    then Some (record { doi = from_be_bytes w32 bytes; sens = slice_index bytes 5; comps = members (words_in (announced bytes) (drop 6 bytes)) })
    else None
