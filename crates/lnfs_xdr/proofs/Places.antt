-- A part that is written over places of a list.
use borrow.Rule.Slice.PartMut.{put_mid}
use Rattle.std.proofs.Common.{◌≡◌, ◌+◌, ◌≤◌, ℕ, List, ◌++◌, length, take, ap, ◌∙◌, refl, arith, length-append}
use Rattle.std.proofs.lemmas.List.{length-take-le, take-append-le}
use Rattle.std.proofs.lemmas.Slice.{take-put_mid}
use Rattle.std.proofs.Math.Seq.{take-append-add, take-append_seam}

-- a part that fills the rest of the places as far as it goes
behind : (front part rest post : List ℕ) → take (length front + length part) (front ++ ((part ++ rest) ++ post)) ≡ front ++ part
behind front part rest post =
    take-append-add front ((part ++ rest) ++ post) (length part)
    ∙ ap (λ (ys : List ℕ). front ++ ys) (take-append-le (length part) (part ++ rest) post (omega (arith, length-append part rest)) ∙ take-append_seam part rest)

pub placed_before : (at k n : ℕ) (xs part rest : List ℕ) → at ≤ length xs → length part ≡ n → take (at + n) (put_mid at k xs (part ++ rest)) ≡ take at xs ++ part
placed_before at k n xs part rest le many =
    let places : at + n ≡ length (take at xs) + length part = omega (arith, many, length-take-le at xs le) in
    ap (λ (m : ℕ). take m (put_mid at k xs (part ++ rest))) places ∙ behind (take at xs) part rest _

pub placed : (at k : ℕ) (xs part : List ℕ) → at ≤ length xs → take (at + length part) (put_mid at k xs part) ≡ take at xs ++ part
placed at k xs part le = take-put_mid at k xs part (at + length part) refl le
