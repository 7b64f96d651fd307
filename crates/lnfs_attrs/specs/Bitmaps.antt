-- Sets of attributes (bitmap4, RFC 8881 section 3.2): bit n of word k is attribute 32 k + n.
use Rattle.std.specs.Prelude.{◌≡◌, ℕ, zero, suc, ◌/◌, ◌%◌, ◌^◌, ◌<◌, Bool, List, [], ◌∷◌, ◌++◌, length, All, slice_index, ◌==◌, if◌then◌else◌}
use Rattle.std.specs.List.{flat_map}
use Rattle.lnfs_xdr.specs.Format.{Word, Count, Done, ◌>>=◌, times}
use Rattle.lnfs_xdr.specs.Canon.{word}
use Rattle.lnfs_attrs.specs.Parsing.{Args}
use Rattle.lnfs_attrs.specs.declared.bitmap.Bitmap.{Bitmap}

-- so many words: those that are given, then zeros
unfoldable pub filled : ℕ → List ℕ → List ℕ
filled zero words = []
filled (suc n) [] = 0 ∷ filled n []
filled (suc n) (x ∷ xs) = x ∷ filled n xs

abbrev pub before : ℕ → List ℕ → List ℕ
before x [] = if x == 0 then [] else x ∷ []
before x (y ∷ ys) = x ∷ y ∷ ys

-- the words without the zeros at the end
unfoldable pub trimmed : List ℕ → List ℕ
trimmed [] = []
trimmed (x ∷ xs) = before x (trimmed xs)

abbrev pub bit : ℕ → ℕ → Bool
bit n i = n / 2 ^ i % 2 == 1

abbrev pub has_attr : Bitmap → ℕ → Bool
has_attr b n = bit (slice_index b.words (n / 32)) (n % 32)

-- three words, and zeros behind them
abbrev pub wide : List ℕ → Bitmap
wide words = record { words = slice_index words 0 ∷ slice_index words 1 ∷ slice_index words 2 ∷ 0 ∷ 0 ∷ 0 ∷ 0 ∷ 0 ∷ [] }

-- none
abbrev pub no_attributes : Bitmap
no_attributes = record { words = 0 ∷ 0 ∷ 0 ∷ 0 ∷ 0 ∷ 0 ∷ 0 ∷ 0 ∷ [] }

-- ---- bytes

unfoldable pub so_many_words : ℕ → Args Bitmap
so_many_words n = do
  words ← times n Word
  Done (record { words = filled 8 words })

-- At most 8 words. Zero words at the end are the same bitmap as none.
unfoldable pub bitmap : Args Bitmap
bitmap = do
  n ← Count 8
  so_many_words n

abbrev pub words_text : List ℕ → List ℕ
words_text words = word (length words) ++ flat_map word words

-- the spelling without a zero word at its end
unfoldable pub bitmap_text : Bitmap → List ℕ
bitmap_text b = words_text (trimmed b.words)

abbrev pub IsWord : ℕ → Type 0
IsWord n = n < 2 ^ 32

abbrev pub BitmapFits : Bitmap → Type 0
BitmapFits b = (length b.words ≡ 8) × All IsWord b.words
