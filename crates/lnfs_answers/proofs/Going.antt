-- A format that goes on: the items before a fault are continued.
use Rattle.std.proofs.Common.{◌≡◌, ℕ, true, false, List, [], ◌∷◌, ◌++◌, length, replicate, refl, sym, ◌∙◌, ap, append_assoc, arith, inl, inr}
use Rattle.std.specs.Int.{w32, w64, to_be_bytes}
use Rattle.std.proofs.lemmas.List.{append-nil, length-replicate}
use Rattle.lnfs_xdr.specs.Format.{Format, Word, Long, Boolean, Count, Among, LongAmong, Byte, Opaque, OpaqueOf, Fixed, Raw, Outside, Done, If, Then, Linked, Spells, Stuck, Chains, padding}
use Rattle.lnfs_answers.specs.Continued.{GoesOn}

-- a value of a format, and how it is spelled
abbrev pub Some : {E A : Type 0} → Format E A → Type 0
Some {E} {A} f = (x : A) × (bytes : List ℕ) × Spells f x bytes

pub some : {E A : Type 0} (f : Format E A) → GoesOn f → Some f
some Word g = (0, to_be_bytes w32 0, (omega arith, refl))
some Long g = (0, to_be_bytes w64 0, (omega arith, refl))
some Boolean g = (false, to_be_bytes w32 0, refl)
some (Count max) g = (0, to_be_bytes w32 0, (omega arith, omega arith, refl))
some (Among test) g = (g.0, to_be_bytes w32 g.0, (g.1, g.2, refl))
some (LongAmong test) g = (g.0, to_be_bytes w64 g.0, (g.1, g.2, refl))
some (Byte test) g = (g.0, g.0 ∷ [], (g.1, g.2, refl))
some (Opaque max) g = ([], to_be_bytes w32 0 ++ ([] ++ []), (omega arith, omega arith, [], refl, refl))
some (OpaqueOf test) g =
    let v : List ℕ = replicate g.0 0 in
    let size : length v ≡ g.0 = length-replicate g.0 0 in
    let pad : List ℕ = replicate (padding (length v)) 0 in
    (v, to_be_bytes w32 (length v) ++ (v ++ pad), (ap test size ∙ g.1, omega (arith, size, g.2), pad, length-replicate (padding (length v)) 0, refl))
some (Fixed n) g = (replicate n 0, replicate n 0 ++ replicate (padding n) 0, (length-replicate n 0, replicate (padding n) 0, length-replicate (padding n) 0, refl))
some (Raw n) g = (replicate n 0, replicate n 0, (length-replicate n 0, refl))
some (Outside e) g = absurd g
some (Done x) g = (x, [], (refl, refl))
some (If true f h) g = some f g
some (If false f h) g = some h g
some (Then f k) g =
    let a = some f g.0 in
    let b = some (k a.0) (g.1 a.0 a.1 a.2) in
    (b.0, a.1 ++ b.1, (a.0, a.1, b.1, a.2, b.2, refl))
some (Linked f) g = ([], [] ++ to_be_bytes w32 0, ([], refl, refl))

-- the bytes before stuck, and a value that they go on to
abbrev pub Continued : {E A : Type 0} → Format E A → List ℕ → List ℕ → Type 0
Continued {E} {A} f bytes stuck = (front : List ℕ) × (bytes ≡ front ++ stuck) × (x : A) × (more : List ℕ) × Spells f x (front ++ more)

at_once : {E A : Type 0} (f : Format E A) → GoesOn f → (bytes stuck : List ℕ) → bytes ≡ stuck → Continued f bytes stuck
at_once f g bytes stuck e = let s = some f g in ([], e, s.0, s.1, s.2)

chain_push : {A : Type 0} (S : A → List ℕ → Type 0) (xs : List A) (x : A) (front piece : List ℕ) → Chains S xs front → S x piece → Chains S (xs ++ x ∷ []) (front ++ (to_be_bytes w32 1 ++ piece))
chain_push S [] x front piece c s =
    (piece, [], s, refl, ap (λ (l : List ℕ). l ++ (to_be_bytes w32 1 ++ piece)) c ∙ ap (λ (l : List ℕ). to_be_bytes w32 1 ++ l) (sym (append-nil piece)))
chain_push S (y ∷ xs) x front piece c s =
    let on : List ℕ = to_be_bytes w32 1 in
    let rest = chain_push S xs x c.1 piece c.3 s in
    let parts : front ++ (on ++ piece) ≡ on ++ (c.0 ++ (c.1 ++ (on ++ piece))) =
    ap (λ (l : List ℕ). l ++ (on ++ piece)) c.4 ∙ append_assoc on (c.0 ++ c.1) (on ++ piece) ∙ ap (λ (l : List ℕ). on ++ l) (append_assoc c.0 c.1 (on ++ piece)) in
    (c.0, c.1 ++ (on ++ piece), c.2, rest, parts)

pub continued : {E A : Type 0} (f : Format E A) → GoesOn f → (bytes stuck : List ℕ) → Stuck f bytes stuck → Continued f bytes stuck
continued {E} Word g bytes stuck s = at_once {E = E} Word g bytes stuck s.1
continued {E} Long g bytes stuck s = at_once {E = E} Long g bytes stuck s.1
continued {E} Boolean g bytes stuck s = at_once {E = E} Boolean g bytes stuck s.1
continued {E} (Count max) g bytes stuck s = at_once {E = E} (Count max) g bytes stuck s.1
continued {E} (Among test) g bytes stuck s = at_once {E = E} (Among test) g bytes stuck s.1
continued {E} (LongAmong test) g bytes stuck s = at_once {E = E} (LongAmong test) g bytes stuck s.1
continued {E} (Byte test) g bytes stuck s = at_once {E = E} (Byte test) g bytes stuck s.1
continued {E} (Opaque max) g bytes stuck s = at_once {E = E} (Opaque max) g bytes stuck s.1
continued {E} (OpaqueOf test) g bytes stuck s = at_once {E = E} (OpaqueOf test) g bytes stuck s.1
continued {E} (Fixed n) g bytes stuck s = at_once {E = E} (Fixed n) g bytes stuck s.1
continued {E} (Raw n) g bytes stuck s = at_once {E = E} (Raw n) g bytes stuck s.1
continued (Outside e) g bytes stuck s = absurd s
continued (Done x) g bytes stuck s = absurd s
continued (If true f h) g bytes stuck s = continued f g bytes stuck s
continued (If false f h) g bytes stuck s = continued h g bytes stuck s
continued (Then f k) g bytes stuck s =
    elim s [
      | inl here ↦
          let a = continued f g.0 bytes stuck here in
          let b = some (k a.2) (g.1 a.2 (a.0 ++ a.3) a.4) in
          (a.0, a.1, b.0, a.3 ++ b.1, (a.2, a.0 ++ a.3, b.1, a.4, b.2, sym (append_assoc a.0 a.3 b.1)))
      | inr later ↦
          let b = continued (k later.0) (g.1 later.0 later.1 later.3) later.2 stuck later.5 in
          let parts : bytes ≡ (later.1 ++ b.0) ++ stuck = later.4 ∙ ap (λ (l : List ℕ). later.1 ++ l) b.1 ∙ sym (append_assoc later.1 b.0 stuck) in
          (later.1 ++ b.0, parts, b.2, b.3, (later.0, later.1, b.0 ++ b.3, later.3, b.4, append_assoc later.1 b.0 b.3))
    ]
continued (Linked f) g bytes stuck s =
    let on : List ℕ = to_be_bytes w32 1 in
    let off : List ℕ = to_be_bytes w32 0 in
    elim s.5 [
      | inl word ↦ (s.1, s.4 ∙ ap (λ (l : List ℕ). s.1 ++ l) word.1, s.0, off, (s.1, s.3, refl))
      | inr inside ↦
          let b = continued f g inside.0 stuck inside.2 in
          let front : List ℕ = s.1 ++ (on ++ b.0) in
          let behind : s.2 ≡ (on ++ b.0) ++ stuck = inside.1 ∙ ap (λ (l : List ℕ). on ++ l) b.1 ∙ sym (append_assoc on b.0 stuck) in
          let parts : bytes ≡ front ++ stuck = s.4 ∙ ap (λ (l : List ℕ). s.1 ++ l) behind ∙ sym (append_assoc s.1 (on ++ b.0) stuck) in
          let chain = chain_push (Spells f) s.0 b.2 s.1 (b.0 ++ b.3) s.3 b.4 in
          let whole : front ++ (b.3 ++ off) ≡ (s.1 ++ (on ++ (b.0 ++ b.3))) ++ off = simp append_assoc in
          (front, parts, s.0 ++ b.2 ∷ [], b.3 ++ off, (s.1 ++ (on ++ (b.0 ++ b.3)), chain, whole))
    ]
