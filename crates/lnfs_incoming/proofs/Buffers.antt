-- Bytes that are read behind others.
use Rattle.std.proofs.Common.{◌≡◌, ℕ, ◌+◌, ◌-◌, ◌≤◌, List, ◌++◌, length, take, drop, sym, ap, ◌∙◌, arith}
use Rattle.std.proofs.Math.Seq.{take-add, take-append_seam}
use Rattle.std.proofs.lemmas.List.{length-drop, length-take-le}

-- the buffer is what was handed out and filled
pub whole : (filled items : List ℕ) (len : ℕ) → length filled ≡ len → take len (filled ++ drop (length filled) items) ≡ filled
whole filled items len is = ap (λ n. take n (filled ++ drop (length filled) items)) (sym is) ∙ take-append_seam filled (drop (length filled) items)

-- what came stands behind what was there
pub grown : (before filled items : List ℕ) (len end count : ℕ) → length filled ≡ len → take end filled ≡ before
    → take (end + count) (take len (filled ++ drop (length filled) items)) ≡ before ++ take count (drop end filled)
grown before filled items len end count is kept =
    ap (take (end + count)) (whole filled items len is) ∙ take-add end count filled ∙ ap (λ l. l ++ take count (drop end filled)) kept

-- and is as long as it was said
pub came : (filled : List ℕ) (end count : ℕ) → end + count ≤ length filled → length (take count (drop end filled)) ≡ count
came filled end count within =
    let rest : length (drop end filled) ≡ length filled - end = length-drop end filled in
    length-take-le count (drop end filled) (omega (arith, rest, within))
