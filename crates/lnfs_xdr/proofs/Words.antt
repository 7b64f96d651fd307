-- The words of a byte order crate are those of the formats, and the first byte of a slice is that of its list.
use Rattle.std.proofs.Common.{◌≡◌, ℕ, ◌<◌, Bool, List, [], ◌∷◌, length, slice_index, drop, cond, Ok, Err, refl, arith}
use Rattle.std.specs.Int.{w32, w64, from_be_bytes, to_be_bytes}
use Rattle.lnfs_xdr.specs.declared.error.XdrError.TheVariants.{Short, BadBool}
use Rattle.lnfs_xdr.specs.Reading.{byte_at}
use Rattle.byteorder.specs.Endian.{big_number, big_bytes}

pub number_32 : (bytes : List ℕ) → big_number 4 bytes ≡ from_be_bytes w32 bytes
number_32 bytes = omega arith

pub number_64 : (bytes : List ℕ) → big_number 8 bytes ≡ from_be_bytes w64 bytes
number_64 bytes = omega arith

pub bytes_32 : (n : ℕ) → big_bytes 4 n ≡ to_be_bytes w32 n
bytes_32 n = refl

pub bytes_64 : (n : ℕ) → big_bytes 8 n ≡ to_be_bytes w64 n
bytes_64 n = refl

pub byte_none : (test : ℕ → Bool) (bytes : List ℕ) → length bytes ≡ 0 → byte_at test bytes ≡ Err Short
byte_none test [] e = refl
byte_none test (b ∷ bytes) e = absurd (omega (arith, e))

pub byte_some : (test : ℕ → Bool) (bytes : List ℕ) → 0 < length bytes → byte_at test bytes ≡ cond (test (slice_index bytes 0)) (Ok (slice_index bytes 0, drop 1 bytes)) (Err BadBool)
byte_some test [] lt = absurd (omega arith)
byte_some test (b ∷ bytes) lt = refl
