-- How many bytes the canonical spelling of an item has.
use Rattle.std.proofs.Common.{◌≡◌, ℕ, ◌+◌, ◌*◌, Bool, List, [], ◌∷◌, length, take, refl, ap, length-append, arith}
use Rattle.std.specs.List.{flat_map}
use Rattle.std.proofs.lemmas.List.{length-take}
use Rattle.std.proofs.lemmas.List.Concat.{flat_map-cons}
use Rattle.lnfs_xdr.specs.Format.{padding}
use Rattle.lnfs_xdr.specs.Canon.{word, long, byte, flag, padded, opaque, zeros}

pub length-word : (n : ℕ) → length (word n) ≡ 4
unfolding word
length-word n = refl

pub length-long : (n : ℕ) → length (long n) ≡ 8
unfolding long
length-long n = refl

pub length-byte : (n : ℕ) → length (byte n) ≡ 1
unfolding byte
length-byte n = refl

pub length-flag : (b : Bool) → length (flag b) ≡ 4
unfolding flag
length-flag b = refl

pub length-padded : (v : List ℕ) → length (padded v) ≡ length v + padding (length v)
unfolding padded
length-padded v = omega (arith, length-append v (take (padding (length v)) zeros), length-take (padding (length v)) zeros)

pub length-opaque : (v : List ℕ) → length (opaque v) ≡ 4 + (length v + padding (length v))
unfolding opaque
length-opaque v = omega (arith, length-append (word (length v)) (padded v), length-word (length v), length-padded v)

pub length-words : (ns : List ℕ) → length (flat_map word ns) ≡ 4 * length ns
length-words [] = refl
length-words (n ∷ ns) = omega (arith, ap length (flat_map-cons word n ns), length-append (word n) (flat_map word ns), length-word n, length-words ns)
