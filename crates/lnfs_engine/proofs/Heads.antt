-- Words that are written into the head of a COMPOUND's result.
use Rattle.std.proofs.Common.{◌≡◌, ◌+◌, ◌-◌, ℕ, List, ◌++◌, length, take, drop, sym, ap, ◌∙◌, append_assoc, length-append, arith}
use Rattle.std.proofs.Math.Seq.{take-append_seam, drop-append_seam}
use Rattle.lnfs_xdr.specs.Canon.{word, opaque}
use Rattle.lnfs_xdr.proofs.Sizes.{length-word}
use Rattle.lnfs_results.specs.Texts.{head_text}

-- a word in the place of another
set_at : (a w b v : List ℕ) (n : ℕ) → length a ≡ n → length w ≡ 4 → take n (a ++ w ++ b) ++ v ++ drop (n + 4) (a ++ w ++ b) ≡ a ++ v ++ b
set_at a w b v n is four =
    let before : take n (a ++ w ++ b) ≡ a = ap (λ k. take k (a ++ w ++ b)) (sym is) ∙ ap (take (length a)) (append_assoc a w b) ∙ take-append_seam a (w ++ b) in
    let end : n + 4 ≡ length (a ++ w) = omega (arith, is, four, length-append a w) in
    let behind : drop (n + 4) (a ++ w ++ b) ≡ b = ap (λ k. drop k (a ++ w ++ b)) end ∙ drop-append_seam (a ++ w) b in
    λ i. before i ++ v ++ behind i

pub completed : (old first second before tag results : List ℕ) (begin end status count : ℕ) → old ≡ before ++ head_text 0 tag 0 ++ results → length before ≡ begin → length (before ++ head_text 0 tag 0) ≡ end →
    first ≡ take begin old ++ word status ++ drop (begin + 4) old → second ≡ take (end - 4) first ++ word count ++ drop (end - 4 + 4) first → second ≡ before ++ head_text status tag count ++ results
completed old first second before tag results begin end status count was starts ends one two =
    let whole : old ≡ before ++ word 0 ++ (opaque tag ++ (word 0 ++ results)) = was ∙ simp append_assoc in
    let now : first ≡ before ++ word status ++ (opaque tag ++ (word 0 ++ results)) = one ∙ ap (λ xs. take begin xs ++ word status ++ drop (begin + 4) xs) whole ∙ set_at before (word 0) _ (word status) begin starts (length-word 0) in
    let again : first ≡ before ++ (word status ++ opaque tag) ++ word 0 ++ results = now ∙ simp append_assoc in
    let at : length (before ++ (word status ++ opaque tag)) ≡ end - 4 = omega (arith, ends, simp (length-append, length-word) at (sym ends), length-append before (word status ++ opaque tag), length-append (word status) (opaque tag), length-word status) in
    two ∙ ap (λ xs. take (end - 4) xs ++ word count ++ drop (end - 4 + 4) xs) again ∙ set_at (before ++ (word status ++ opaque tag)) (word 0) results (word count) (end - 4) at (length-word 0) ∙ simp append_assoc
