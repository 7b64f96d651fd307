-- Reading so many of a format, as a loop does.
use Rattle.std.proofs.Common.{◌≡◌, ℕ, suc, ◌-◌, ◌+◌, ◌<◌, List, [], ◌∷◌, ◌++◌, Ok, Err, refl, sym, ap, ◌∙◌, append_assoc, arith}
use Rattle.lnfs_xdr.specs.Format.{Format, Done, ◌>>=◌, times}
use Rattle.lnfs_xdr.specs.Reading.{Stop, Read, after, read}

-- what was read before, and what is still read
abbrev pub grown : {E A : Type 0} → List A → Read E (List A) → Read E (List A)
grown front r = after r (λ xs rest. Ok (front ++ xs, rest))

pub none_before : {E A : Type 0} (r : Read E (List A)) → grown [] r ≡ r
none_before (Ok p) = refl
none_before (Err s) = refl

pub regroup : {E A : Type 0} (front : List A) (x : A) (r : Read E (List A)) → grown front (after r (λ xs rest. Ok (x ∷ xs, rest))) ≡ grown (front ++ x ∷ []) r
regroup front x (Ok p) = ap (λ (xs : List _). Ok (xs, p.1)) (sym (append_assoc front (x ∷ []) p.0))
regroup front x (Err s) = refl

pub goes_on : {E A : Type 0} (f : Format E A) (front : List A) (count i : ℕ) (bytes : List ℕ) (x : A) (rest : List ℕ) (total : Read E (List A)) → i < count → read f bytes ≡ Ok (x, rest)
    → grown front (read (times (count - i) f) bytes) ≡ total → grown (front ++ x ∷ []) (read (times (count - (i + 1)) f) rest) ≡ total
goes_on f front count i bytes x rest total lt first so_far =
    let k : count - i ≡ suc (count - (i + 1)) = omega arith in
    let one : read (times (count - i) f) bytes ≡ after (read (times (count - (i + 1)) f) rest) (λ xs r. Ok (x ∷ xs, r)) =
    ap (λ (n : ℕ). read (times n f) bytes) k ∙ ap (λ r. after r (λ a s. read (times (count - (i + 1)) f >>= λ xs. Done (a ∷ xs)) s)) first in
    sym (ap (grown front) one ∙ regroup front x (read (times (count - (i + 1)) f) rest)) ∙ so_far

pub stops : {E A : Type 0} (f : Format E A) (front : List A) (count i : ℕ) (bytes : List ℕ) (s : Stop E) (total : Read E (List A)) → i < count → read f bytes ≡ Err s
    → grown front (read (times (count - i) f) bytes) ≡ total → total ≡ Err s
stops f front count i bytes s total lt first so_far =
    let k : count - i ≡ suc (count - (i + 1)) = omega arith in
    let one : read (times (count - i) f) bytes ≡ Err s =
    ap (λ (n : ℕ). read (times n f) bytes) k ∙ ap (λ r. after r (λ a t. read (times (count - (i + 1)) f >>= λ xs. Done (a ∷ xs)) t)) first in
    sym so_far ∙ ap (grown front) one
