-- The bitmap of a label's compartments, in 32-bit words (RFC 5570 section 5.1).
use Rattle.std.specs.Prelude.{◌≡◌, ◌==◌, ◌<◌, ◌≤◌, ◌+◌, ◌-◌, ◌*◌, ◌/◌, ◌%◌, ◌^◌, ℕ, zero, suc, Bool, List, [], ◌∷◌, length, map, max, slice_index, if◌then◌else◌}
use Rattle.std.specs.List.{range_with_len}
use Rattle.std.specs.Int.{bit_at}
use Rattle.lnfs_calipso.specs.Label.{has_comp, compartments}

-- compartment c is bit c mod 32 of word c div 32, counted from the highest bit
abbrev pub is_marked : List ℕ → ℕ → Bool
is_marked bitmap c = bit_at (slice_index bitmap (c / 32)) (31 - c % 32) == 1

-- the compartments that a bitmap marks
abbrev pub members : List ℕ → List ℕ
members bitmap = compartments (is_marked bitmap)

-- the number of n binary digits, the highest first, of which each is 1 where its place passes a test
unfoldable pub binary : ℕ → (ℕ → Bool) → ℕ
binary zero test = 0
binary (suc n) test = 2 * binary n test + (if test n then 1 else 0)

-- word k of the bitmap of some compartments
unfoldable pub word_at : List ℕ → ℕ → ℕ
word_at comps k = binary 32 (λ i. has_comp comps (32 * k + i))

-- how many words of the bitmap reach up to the highest compartment
abbrev pub words : List ℕ → ℕ
words [] = 0
words (c ∷ comps) = max (c / 32 + 1) (words comps)

-- the bitmap of some compartments, up to the word of the highest
unfoldable pub bitmap_of : List ℕ → List ℕ
bitmap_of comps = map (word_at comps) (range_with_len 0 (words comps))

-- A bitmap has at most 60 words of 32 bits, and its last word isn't zero.
pub record IsBitmap (bitmap : List ℕ) : Type 0 where
  pub few : length bitmap ≤ 60
  pub fits : (k : ℕ) → slice_index bitmap k < 2 ^ 32
  pub used : (n : ℕ) → length bitmap ≡ n + 1 → 0 < slice_index bitmap n
