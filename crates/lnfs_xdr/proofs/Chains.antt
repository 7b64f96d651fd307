-- A list that goes on by a word: its laws from those of its elements.
use Rattle.std.proofs.Common.{◌≡◌, ℕ, zero, suc, ◌<◌, Bool, true, false, List, [], ◌∷◌, ◌++◌, length, Ok, refl, ap, subst, ◌∙◌, append_assoc, length-append, arith}
use Rattle.std.specs.Int.{w32, to_be_bytes}
use Rattle.lnfs_xdr.specs.Format.{Format, Chains, Spells, number_of}
use Rattle.lnfs_xdr.specs.Reading.{after, boolean_at, element, here, linked_at, read}
use Rattle.lnfs_xdr.proofs.Fields.{IsBytes, Found, Takes, Takes-then, after_ok, boolean_again, boolean_takes, here_ok}

-- the word for TRUE and that for FALSE
abbrev pub on : List ℕ
on = to_be_bytes w32 1

abbrev pub off : List ℕ
off = to_be_bytes w32 0

-- ---- what is read is spelled at the front

abbrev pub Finds : {E A : Type 0} → Format E A → Type 0
Finds {A} f = (bytes : List ℕ) (x : A × List ℕ) → IsBytes bytes → read f bytes ≡ Ok x → Found f bytes x.0 x.1

pub record IsChain {E A : Type 0} (f : Format E A) (bytes : List ℕ) (xs : List A) (rest : List ℕ) : Type 0 where
  pub front : List ℕ
  pub chains : Chains (Spells f) xs front
  pub takes : Takes bytes (front ++ off) rest

pub word_takes : {E : Type 0} (bytes : List ℕ) (y : Bool × List ℕ) → IsBytes bytes → here {E = E} bytes (boolean_at bytes) ≡ Ok y → Takes bytes (to_be_bytes w32 (number_of y.0)) y.1
word_takes {E} bytes y fits e =
    let t = boolean_takes {E = E} bytes y fits (here_ok {E = E} bytes (boolean_at bytes) y e) in
    subst (λ (b : List ℕ). Takes bytes b y.1) t.spelled t.takes

-- an element behind TRUE, and the chain behind it
longer : {E A : Type 0} (f : Format E A) (bytes rest left : List ℕ) (x : A) (xs : List A) (end : List ℕ) → Takes bytes on rest → Found f rest x left → IsChain f left xs end → IsChain f bytes (x ∷ xs) end
longer f bytes rest left x xs end word first later =
    let all : Takes bytes (on ++ (first.front ++ (later.front ++ off))) end = Takes-then bytes on rest (first.front ++ (later.front ++ off)) end word (Takes-then rest first.front left (later.front ++ off) end first.takes later.takes) in
    let group : on ++ (first.front ++ (later.front ++ off)) ≡ (on ++ (first.front ++ later.front)) ++ off = simp append_assoc refl in
    record {
      front = on ++ (first.front ++ later.front);
      chains = (first.front, later.front, first.spelled, later.chains, refl);
      takes = subst (λ (b : List ℕ). Takes bytes b end) group all;
    }

element_chain : {E A : Type 0} (f : Format E A) (finds : Finds f) (n : ℕ) (later : (bytes : List ℕ) (x : List A × List ℕ) → IsBytes bytes → linked_at n (read f) bytes ≡ Ok x → IsChain f bytes x.0 x.1)
    (bytes : List ℕ) (more : Bool) (rest : List ℕ) (x : List A × List ℕ) → Takes bytes (to_be_bytes w32 (number_of more)) rest → element (read f) (linked_at n (read f)) more rest ≡ Ok x → IsChain f bytes x.0 x.1
element_chain f finds n later bytes false rest x word e =
    let same : ([], rest) ≡ x = cc in
    subst (λ (p : List _ × List ℕ). IsChain f bytes p.0 p.1) same (record { front = []; chains = refl; takes = word })
element_chain f finds n later bytes true rest x word e =
    let a = after_ok (read f rest) (λ y left. after (linked_at n (read f) left) (λ ys end. Ok (y ∷ ys, end))) x e in
    let first = finds rest a.0 word.rest_fits a.1 in
    let b = after_ok (linked_at n (read f) a.0.1) (λ ys end. Ok (a.0.0 ∷ ys, end)) x a.2 in
    let chain = later a.0.1 b.0 first.takes.rest_fits b.1 in
    let same : (a.0.0 ∷ b.0.0, b.0.1) ≡ x = let last = b.2 in cc in
    subst (λ (p : List _ × List ℕ). IsChain f bytes p.0 p.1) same (longer f bytes rest a.0.1 a.0.0 b.0.0 b.0.1 word first chain)

pub chain_found : {E A : Type 0} (f : Format E A) (finds : Finds f) (n : ℕ) (bytes : List ℕ) (x : List A × List ℕ) → IsBytes bytes → linked_at n (read f) bytes ≡ Ok x → IsChain f bytes x.0 x.1
chain_found f finds zero bytes x fits e = absurd cc
chain_found f finds (suc n) bytes x fits e =
    let a = after_ok (here bytes (boolean_at bytes)) (element (read f) (linked_at n (read f))) x e in
    element_chain f finds n (chain_found f finds n) bytes a.0.0 a.0.1 x (word_takes bytes a.0 fits a.1) a.2

-- ---- what is spelled at the front is read

abbrev pub Reads : {E A : Type 0} → Format E A → Type 0
Reads {A} f = (x : A) (front rest : List ℕ) → Spells f x front → read f (front ++ rest) ≡ Ok (x, rest)

pub on_again : {E : Type 0} (rest : List ℕ) → here {E = E} (on ++ rest) (boolean_at (on ++ rest)) ≡ Ok (true, rest)
on_again rest = ap (here (on ++ rest)) (boolean_again true rest)

off_again : {E : Type 0} (rest : List ℕ) → here {E = E} (off ++ rest) (boolean_at (off ++ rest)) ≡ Ok (false, rest)
off_again rest = ap (here (off ++ rest)) (boolean_again false rest)

-- after TRUE and an element
pub step_again : {E A : Type 0} (f : Format E A) (reads : Reads f) (n : ℕ) (x : A) (front back : List ℕ) → Spells f x front → linked_at (suc n) (read f) (on ++ (front ++ back)) ≡ after (linked_at n (read f) back) (λ xs end. Ok (x ∷ xs, end))
step_again f reads n x front back s =
    ap (λ r. after r (element (read f) (linked_at n (read f)))) (on_again (front ++ back))
    ∙ ap (λ r. after r (λ y left. after (linked_at n (read f) left) (λ ys end. Ok (y ∷ ys, end)))) (reads x front back s)

pub regrouped : (a b c rest : List ℕ) → c ≡ on ++ (a ++ b) → c ++ rest ≡ on ++ (a ++ (b ++ rest))
regrouped a b c rest e = ap (λ (t : List ℕ). t ++ rest) e ∙ append_assoc on (a ++ b) rest ∙ ap (λ (t : List ℕ). on ++ t) (append_assoc a b rest)

shorter : (a b c : List ℕ) → c ≡ on ++ (a ++ b) → length b < length c
shorter a b c e = omega (arith, ap length e, length-append on (a ++ b), length-append a b)

pub chain_again : {E A : Type 0} (f : Format E A) (reads : Reads f) (n : ℕ) (xs : List A) (front rest : List ℕ) → Chains (Spells f) xs front → length front < n → linked_at n (read f) (front ++ (off ++ rest)) ≡ Ok (xs, rest)
chain_again f reads zero xs front rest c lt = absurd (omega arith)
chain_again f reads (suc n) [] front rest c lt =
    ap (λ (b : List ℕ). linked_at (suc n) (read f) (b ++ (off ++ rest))) c ∙ ap (λ r. after r (element (read f) (linked_at n (read f)))) (off_again rest)
chain_again f reads (suc n) (x ∷ xs) front rest c lt =
    let later = chain_again f reads n xs c.1 rest c.3 (omega (arith, shorter c.0 c.1 front c.4, lt)) in
    ap (linked_at (suc n) (read f)) (regrouped c.0 c.1 front (off ++ rest) c.4) ∙ step_again f reads n x c.0 (c.1 ++ (off ++ rest)) c.2 ∙ ap (λ r. after r (λ ys end. Ok (x ∷ ys, end))) later
