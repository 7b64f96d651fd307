-- A list that goes on by a word, one element after the other, as a loop reads and writes it.
use Rattle.std.proofs.Common.{◌≡◌, ℕ, zero, suc, ◌+◌, ◌<◌, ◌≤◌, Bool, true, false, cond, ltb, eqb, List, [], ◌∷◌, ◌++◌, length, take, drop, Result, Ok, Err, refl, sym, ap, subst, ◌∙◌, append_assoc, length-drop, arith, inl, inr}
use Rattle.std.specs.List.{flat_map, AllByRecursion}
use Rattle.std.specs.Int.{Width, w32, w64, byte_len, from_be_bytes}
use Rattle.std.proofs.lemmas.Bool.{ltb-false}
use Rattle.std.proofs.lemmas.List.{append-nil}
use Rattle.std.proofs.lemmas.List.Concat.{flat_map-cons}
use Rattle.lnfs_xdr.specs.declared.error.XdrError.TheVariants.{Short, BadBool, TooLong}
use Rattle.lnfs_xdr.specs.Format.{Format, Word, Long, Boolean, Count, Among, LongAmong, Byte, Opaque, OpaqueOf, Fixed, Raw, Outside, Done, If, Then, Linked, padding}
use Rattle.lnfs_xdr.specs.Canon.{flag, linked}
use Rattle.lnfs_xdr.specs.Reading.{Stop, Fault, Read, after, element, here, linked_at, number_at, boolean_at, count_at, passing_at, among_at, byte_at, long_among_at, padded_at, opaque_at, opaque_of_at, raw_at, read}
use Rattle.lnfs_xdr.proofs.Fields.{no_bytes, after_ok, chosen, guard_ok, here_ok}
use Rattle.lnfs_xdr.proofs.Loops.{grown, regroup}
use Rattle.lnfs_xdr.proofs.Spelled.{Spelled}

-- ---- what is left is no longer than what there was

abbrev Left : List ℕ → {A : Type 0} → A × List ℕ → Type 0
Left bytes x = length x.1 ≤ length bytes

left_by : {A : Type 0} (bytes rest : List ℕ) (v : A) (x : A × List ℕ) → (v, rest) ≡ x → length rest ≤ length bytes → Left bytes x
left_by bytes rest v x e le = subst (Left bytes) e le

number_left : (w : Width) (bytes : List ℕ) (x : ℕ × List ℕ) → number_at w bytes ≡ Ok x → length x.1 + byte_len w ≡ length bytes
number_left w bytes x e =
    let g = guard_ok (ltb (length bytes) (byte_len w)) Short (from_be_bytes w (take (byte_len w) bytes), drop (byte_len w) bytes) x e in
    let long : byte_len w ≤ length bytes = ltb-false _ _ g.0 in
    let rest : drop (byte_len w) bytes ≡ x.1 = ap (λ (p : ℕ × List ℕ). p.1) g.1 in
    omega (arith, long, ap length rest, length-drop (byte_len w) bytes)

boolean_left : (bytes : List ℕ) (x : Bool × List ℕ) → boolean_at bytes ≡ Ok x → length x.1 + 4 ≡ length bytes
boolean_left bytes x e =
    let a = after_ok (number_at w32 bytes) (λ n rest. cond (eqb n 0) (Ok (false, rest)) (cond (eqb n 1) (Ok (true, rest)) (Err BadBool))) x e in
    let n = number_left w32 bytes a.0 a.1 in
    elim (chosen (eqb a.0.0 0) (Ok (false, a.0.1)) (cond (eqb a.0.0 1) (Ok (true, a.0.1)) (Err BadBool)) (Ok x) a.2) [
      | inl off ↦ let same : (false, a.0.1) ≡ x = (let is = off.1 in cc) in omega (arith, n, ap (λ (p : Bool × List ℕ). length p.1) same)
      | inr other ↦ elim (chosen (eqb a.0.0 1) (Ok (true, a.0.1)) (Err BadBool) (Ok x) other.1) [
        | inl on ↦ let same : (true, a.0.1) ≡ x = (let is = on.1 in cc) in omega (arith, n, ap (λ (p : Bool × List ℕ). length p.1) same)
        | inr bad ↦ absurd (let is = bad.1 in cc)
      ]
    ]

count_left : (max : ℕ) (bytes : List ℕ) (x : ℕ × List ℕ) → count_at max bytes ≡ Ok x → Left bytes x
count_left max bytes x e =
    let a = after_ok (number_at w32 bytes) (λ n rest. cond (ltb max n) (Err TooLong) (Ok (n, rest))) x e in
    let g = guard_ok (ltb max a.0.0) TooLong a.0 x a.2 in
    left_by bytes a.0.1 a.0.0 x g.1 (omega (arith, number_left w32 bytes a.0 a.1))

passing_left : (w : Width) (test : ℕ → Bool) (bytes : List ℕ) (x : ℕ × List ℕ) → passing_at w test bytes ≡ Ok x → Left bytes x
passing_left w test bytes x e =
    let a = after_ok (number_at w bytes) (λ n rest. cond (test n) (Ok (n, rest)) (Err BadBool)) x e in
    elim (chosen (test a.0.0) (Ok a.0) (Err BadBool) (Ok x) a.2) [
      | inl on ↦ left_by bytes a.0.1 a.0.0 x (let is = on.1 in cc) (omega (arith, number_left w bytes a.0 a.1))
      | inr off ↦ absurd (let is = off.1 in cc)
    ]

byte_left : (test : ℕ → Bool) (bytes : List ℕ) (x : ℕ × List ℕ) → byte_at test bytes ≡ Ok x → Left bytes x
byte_left test [] x e = absurd cc
byte_left test (b ∷ rest) x e =
    elim (chosen (test b) (Ok (b, rest)) (Err BadBool) (Ok x) e) [
      | inl on ↦ left_by (b ∷ rest) rest b x (let is = on.1 in cc) (omega arith)
      | inr off ↦ absurd (let is = off.1 in cc)
    ]

padded_left : (n : ℕ) (bytes : List ℕ) (x : List ℕ × List ℕ) → padded_at n bytes ≡ Ok x → Left bytes x
padded_left n bytes x e =
    let g = guard_ok (ltb (length bytes) (n + padding n)) Short (take n bytes, drop (padding n) (drop n bytes)) x e in
    left_by bytes (drop (padding n) (drop n bytes)) (take n bytes) x g.1 (omega (arith, length-drop (padding n) (drop n bytes), length-drop n bytes))

raw_left : (n : ℕ) (bytes : List ℕ) (x : List ℕ × List ℕ) → raw_at n bytes ≡ Ok x → Left bytes x
raw_left n bytes x e =
    let g = guard_ok (ltb (length bytes) n) Short (take n bytes, drop n bytes) x e in
    left_by bytes (drop n bytes) (take n bytes) x g.1 (omega (arith, length-drop n bytes))

opaque_left : (max : ℕ) (bytes : List ℕ) (x : List ℕ × List ℕ) → opaque_at max bytes ≡ Ok x → Left bytes x
opaque_left max bytes x e =
    let a = after_ok (count_at max bytes) (λ n rest. padded_at n rest) x e in
    omega (arith, count_left max bytes a.0 a.1, padded_left a.0.0 a.0.1 x a.2)

opaque_of_left : (test : ℕ → Bool) (bytes : List ℕ) (x : List ℕ × List ℕ) → opaque_of_at test bytes ≡ Ok x → Left bytes x
opaque_of_left test bytes x e =
    let a = after_ok (among_at test bytes) (λ n rest. padded_at n rest) x e in
    omega (arith, passing_left w32 test bytes a.0 a.1, padded_left a.0.0 a.0.1 x a.2)

abbrev pub Shrinks : {E A : Type 0} → (List ℕ → Read E A) → Type 0
Shrinks {A = A} r = (bytes : List ℕ) (x : A × List ℕ) → r bytes ≡ Ok x → Left bytes x

element_left : {E A : Type 0} (first : List ℕ → Read E A) (later : List ℕ → Read E (List A)) (more : Bool) → Shrinks first → Shrinks later → Shrinks (element first later more)
element_left first later false shrinks ends bytes x e = left_by bytes bytes [] x (cc) (omega arith)
element_left first later true shrinks ends bytes x e =
    let a = after_ok (first bytes) (λ y left. after (later left) (λ ys end. Ok (y ∷ ys, end))) x e in
    let b = after_ok (later a.0.1) (λ ys end. Ok (a.0.0 ∷ ys, end)) x a.2 in
    left_by bytes b.0.1 (a.0.0 ∷ b.0.0) x (let is = b.2 in cc) (omega (arith, shrinks bytes a.0 a.1, ends a.0.1 b.0 b.1))

linked_left : {E A : Type 0} (first : List ℕ → Read E A) (n : ℕ) → Shrinks first → Shrinks (linked_at n first)
linked_left first zero shrinks bytes x e = absurd cc
linked_left {E} first (suc n) shrinks bytes x e =
    let a = after_ok (here bytes (boolean_at bytes)) (element first (linked_at n first)) x e in
    let word = boolean_left bytes a.0 (here_ok {E = E} bytes (boolean_at bytes) a.0 a.1) in
    omega (arith, word, element_left first (linked_at n first) a.0.0 shrinks (linked_left first n shrinks) a.0.1 x a.2)

pub read_left : {E A : Type 0} (f : Format E A) (bytes : List ℕ) (x : A × List ℕ) → read f bytes ≡ Ok x → length x.1 ≤ length bytes
read_left Word bytes x e = omega (arith, number_left w32 bytes x (here_ok bytes (number_at w32 bytes) x e))
read_left Long bytes x e = omega (arith, number_left w64 bytes x (here_ok bytes (number_at w64 bytes) x e))
read_left Boolean bytes x e = omega (arith, boolean_left bytes x (here_ok bytes (boolean_at bytes) x e))
read_left (Count max) bytes x e = count_left max bytes x (here_ok bytes (count_at max bytes) x e)
read_left (Among test) bytes x e = passing_left w32 test bytes x (here_ok bytes (among_at test bytes) x e)
read_left (LongAmong test) bytes x e = passing_left w64 test bytes x (here_ok bytes (long_among_at test bytes) x e)
read_left (Byte test) bytes x e = byte_left test bytes x (here_ok bytes (byte_at test bytes) x e)
read_left (Opaque max) bytes x e = opaque_left max bytes x (here_ok bytes (opaque_at max bytes) x e)
read_left (OpaqueOf test) bytes x e = opaque_of_left test bytes x (here_ok bytes (opaque_of_at test bytes) x e)
read_left (Fixed n) bytes x e = padded_left n bytes x (here_ok bytes (padded_at n bytes) x e)
read_left (Raw n) bytes x e = raw_left n bytes x (here_ok bytes (raw_at n bytes) x e)
read_left (Outside status) bytes x e = absurd cc
read_left (Done y) bytes x e = left_by bytes bytes y x (cc) (omega arith)
read_left (If true f g) bytes x e = read_left f bytes x e
read_left (If false f g) bytes x e = read_left g bytes x e
read_left (Then f k) bytes x e =
    let a = after_ok (read f bytes) (λ a rest. read (k a) rest) x e in
    omega (arith, read_left f bytes a.0 a.1, read_left (k a.0.0) a.0.1 x a.2)
read_left (Linked f) bytes x e = linked_left (read f) (length bytes) (read_left f) bytes x e

-- ---- one element after the other

none_left : {E A : Type 0} (first : List ℕ → Read E A) (n : ℕ) (bytes : List ℕ) → bytes ≡ [] → linked_at n first bytes ≡ Err (Fault Short bytes)
none_left first zero bytes e = refl
none_left first (suc n) bytes e = rw e refl

after_same : {D A B : Type 0} (r : Result (A × List ℕ) D) (k l : A → List ℕ → Result (B × List ℕ) D) → ((x : A × List ℕ) → r ≡ Ok x → k x.0 x.1 ≡ l x.0 x.1) → after r k ≡ after r l
after_same (Ok x) k l same = same x refl
after_same (Err d) k l same = refl

element_same : {E A : Type 0} (first : List ℕ → Read E A) (shrinks : Shrinks first) (l m : List ℕ → Read E (List A)) (more : Bool) (rest : List ℕ) → ((bytes : List ℕ) → length bytes ≤ length rest → l bytes ≡ m bytes) → element first l more rest ≡ element first m more rest
element_same first shrinks l m false rest same = refl
element_same first shrinks l m true rest same =
    after_same (first rest) (λ y left. after (l left) (λ ys end. Ok (y ∷ ys, end))) (λ y left. after (m left) (λ ys end. Ok (y ∷ ys, end))) (λ x e. ap (λ r. after r (λ ys end. Ok (x.0 ∷ ys, end))) (same x.1 (shrinks rest x e)))

-- behind the word
word_same : {E A : Type 0} (first : List ℕ → Read E A) (shrinks : Shrinks first) (l m : List ℕ → Read E (List A)) (bytes : List ℕ) → ((left : List ℕ) → length left + 4 ≤ length bytes → l left ≡ m left)
    → after (here bytes (boolean_at bytes)) (element first l) ≡ after (here bytes (boolean_at bytes)) (element first m)
word_same {E} first shrinks l m bytes same =
    after_same (here {E = E} bytes (boolean_at bytes)) (element first l) (element first m) (
    λ y e. let word = boolean_left bytes y (here_ok {E = E} bytes (boolean_at bytes) y e) in
    element_same first shrinks l m y.0 y.1 (λ left le. same left (omega arith)))

-- any number of steps serves that is not below the number of bytes
enough : {E A : Type 0} (first : List ℕ → Read E A) (shrinks : Shrinks first) (n m : ℕ) (bytes : List ℕ) → length bytes ≤ n → length bytes ≤ m → linked_at n first bytes ≡ linked_at m first bytes
enough first shrinks zero m bytes le lf = none_left first zero bytes (no_bytes bytes le) ∙ sym (none_left first m bytes (no_bytes bytes le))
enough first shrinks (suc n) zero bytes le lf = none_left first (suc n) bytes (no_bytes bytes lf) ∙ sym (none_left first zero bytes (no_bytes bytes lf))
enough first shrinks (suc n) (suc m) bytes le lf = word_same first shrinks (linked_at n first) (linked_at m first) bytes (λ left short. enough first shrinks n m left (omega (arith, short, le)) (omega (arith, short, lf)))

-- the word, and where it is TRUE an element and the list behind it
pub linked_unfolds : {E A : Type 0} (f : Format E A) (bytes : List ℕ) → read (Linked f) bytes ≡ after (here bytes (boolean_at bytes)) (element (read f) (read (Linked f)))
linked_unfolds f bytes =
    enough (read f) (read_left f) (length bytes) (suc (length bytes)) bytes (omega arith) (omega arith)
    ∙ word_same (read f) (read_left f) (linked_at (length bytes) (read f)) (read (Linked f)) bytes (λ left short. enough (read f) (read_left f) (length bytes) (length left) left (omega (arith, short)) (omega arith))

-- ---- as a loop reads it

-- the word for TRUE and an element
pub linked_goes_on : {E A : Type 0} (f : Format E A) (front : List A) (bytes mid : List ℕ) (x : A) (rest : List ℕ) (total : Read E (List A)) → read {E = E} Boolean bytes ≡ Ok (true, mid) → read f mid ≡ Ok (x, rest)
    → grown front (read (Linked f) bytes) ≡ total → grown (front ++ x ∷ []) (read (Linked f) rest) ≡ total
linked_goes_on f front bytes mid x rest total first second so_far =
    let one : read (Linked f) bytes ≡ after (read (Linked f) rest) (λ xs r. Ok (x ∷ xs, r)) =
    linked_unfolds f bytes ∙ ap (λ r. after r (element (read f) (read (Linked f)))) first ∙ ap (λ r. after r (λ y left. after (read (Linked f) left) (λ ys end. Ok (y ∷ ys, end)))) second in
    sym (ap (grown front) one ∙ regroup front x (read (Linked f) rest)) ∙ so_far

-- the word for FALSE
pub linked_ends : {E A : Type 0} (f : Format E A) (front : List A) (bytes mid : List ℕ) (total : Read E (List A)) → read {E = E} Boolean bytes ≡ Ok (false, mid)
    → grown front (read (Linked f) bytes) ≡ total → total ≡ Ok (front, mid)
linked_ends f front bytes mid total first so_far =
    let one : read (Linked f) bytes ≡ Ok ([], mid) = linked_unfolds f bytes ∙ ap (λ r. after r (element (read f) (read (Linked f)))) first in
    sym so_far ∙ ap (grown front) one ∙ ap (λ (xs : List _). Ok (xs, mid)) (append-nil front)

-- no word
pub word_stops : {E A : Type 0} (f : Format E A) (front : List A) (bytes : List ℕ) (s : Stop E) (total : Read E (List A)) → read {E = E} Boolean bytes ≡ Err s
    → grown front (read (Linked f) bytes) ≡ total → total ≡ Err s
word_stops f front bytes s total first so_far =
    let one : read (Linked f) bytes ≡ Err s = linked_unfolds f bytes ∙ ap (λ r. after r (element (read f) (read (Linked f)))) first in
    sym so_far ∙ ap (grown front) one

-- the word for TRUE and no element
pub element_stops : {E A : Type 0} (f : Format E A) (front : List A) (bytes mid : List ℕ) (s : Stop E) (total : Read E (List A)) → read {E = E} Boolean bytes ≡ Ok (true, mid) → read f mid ≡ Err s
    → grown front (read (Linked f) bytes) ≡ total → total ≡ Err s
element_stops f front bytes mid s total first second so_far =
    let one : read (Linked f) bytes ≡ Err s =
    linked_unfolds f bytes ∙ ap (λ r. after r (element (read f) (read (Linked f)))) first ∙ ap (λ r. after r (λ y left. after (read (Linked f) left) (λ ys end. Ok (y ∷ ys, end)))) second in
    sym so_far ∙ ap (grown front) one

-- so few bytes are left after a word and an element that the loop ends
pub linked_shrinks : {E A : Type 0} (f : Format E A) (bytes mid rest : List ℕ) (more : Bool) (x : A) → read {E = E} Boolean bytes ≡ Ok (more, mid) → read f mid ≡ Ok (x, rest) → length rest < length bytes
linked_shrinks {E} f bytes mid rest more x first second = omega (arith, boolean_left bytes (more, mid) (here_ok {E = E} bytes (boolean_at bytes) (more, mid) first), read_left f mid (x, rest) second)

-- ---- its text

pub linked_spelled : {E A : Type 0} (f : Format E A) (text : A → List ℕ) (xs : List A) → AllByRecursion (λ x. Spelled f x (text x)) xs → Spelled (Linked f) xs (linked text xs)
unfolding flag
linked_spelled f text [] all = record { is = ([], refl, refl) }
linked_spelled f text (x ∷ xs) all =
    let later = (linked_spelled f text xs all.1).is in
    record { is = (flag true ++ (text x ++ later.0), (text x, later.0, all.0.is, later.1, refl), ap (λ (b : List ℕ). flag true ++ text x ++ b) later.2 ∙ simp append_assoc refl) }

-- as a loop writes it
pub linked-as-map : {A : Type 0} (text : A → List ℕ) (xs : List A) → linked text xs ≡ flat_map (λ x. flag true ++ text x) xs ++ flag false
linked-as-map text [] = refl
linked-as-map text (x ∷ xs) =
    ap (λ (b : List ℕ). flag true ++ text x ++ b) (linked-as-map text xs)
    ∙ sym (append_assoc (flag true ++ text x) (flat_map (λ y. flag true ++ text y) xs) (flag false))
    ∙ ap (λ (b : List ℕ). b ++ flag false) (sym (flat_map-cons (λ y. flag true ++ text y) x xs))
