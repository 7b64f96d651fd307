-- Where reading a list that goes on by a word stops, and that it never runs out of elements before the bytes do.
use Rattle.std.proofs.Common.{◌≡◌, ℕ, zero, suc, ◌+◌, ◌-◌, ◌≤◌, Bool, true, false, List, [], ◌∷◌, ◌++◌, length, Ok, Err, refl, sym, ap, ◌∙◌, length-append, arith, inl, inr}
use Rattle.std.specs.Int.{w32, to_be_bytes}
use Rattle.lnfs_xdr.specs.declared.error.XdrError.{XdrError}
use Rattle.lnfs_xdr.specs.declared.error.XdrError.TheVariants.{Short}
use Rattle.lnfs_xdr.specs.Format.{Format, Boolean, Chains, Leaving, Linked, NoneAt, Spells, Stuck, number_of}
use Rattle.lnfs_xdr.specs.Reading.{Stop, Fault, Leaves, Read, after, boolean_at, element, here, linked_at, read}
use Rattle.lnfs_xdr.proofs.Fields.{no_bytes, IsBytes, Found, Takes, after_err, boolean_again, whole}
use Rattle.lnfs_xdr.proofs.Chains.{on, Finds, Reads, word_takes, on_again, regrouped, step_again}

-- ---- a fault is the first word or element that isn't there

abbrev pub Sticks : {E A : Type 0} → Format E A → Type 0
Sticks f = (bytes : List ℕ) (c : XdrError) (stuck : List ℕ) → IsBytes bytes → read f bytes ≡ Err (Fault c stuck) → Stuck f bytes stuck

-- where no boolean is read, none is there
no_boolean : {E : Type 0} (bytes : List ℕ) (d : Stop E) → here bytes (boolean_at bytes) ≡ Err d → NoneAt {E = E} Boolean bytes
no_boolean {E} bytes d e = λ b front rest s parts.
    let ok : here {E = E} bytes (boolean_at bytes) ≡ Ok (b, rest) = ap (λ (t : List ℕ). here t (boolean_at t)) (parts ∙ ap (λ (t : List ℕ). t ++ rest) s) ∙ ap (here (to_be_bytes w32 (number_of b) ++ rest)) (boolean_again b rest) in
    absurd cc

-- the first word isn't there
word_stuck : {E A : Type 0} (f : Format E A) (bytes : List ℕ) (c : XdrError) (stuck : List ℕ) → here {E = E} bytes (boolean_at bytes) ≡ Err (Fault c stuck) → Stuck (Linked f) bytes stuck
word_stuck {E} f bytes c stuck e =
    let same : bytes ≡ stuck = elim (whole {E = E} bytes (boolean_at bytes)) [ inl w ↦ absurd (let ok = w.1 in cc) | inr w ↦ (let bad = w.1 in cc) ] in
    ([], [], bytes, refl, refl, inl (no_boolean bytes (Fault c stuck) e, same))

-- the first element isn't
first_stuck : {E A : Type 0} (f : Format E A) (bytes rest stuck : List ℕ) → bytes ≡ on ++ rest → Stuck f rest stuck → Stuck (Linked f) bytes stuck
first_stuck f bytes rest stuck parts s = ([], [], bytes, refl, refl, inr (rest, parts, s))

-- something of the chain behind it isn't
later_stuck : {E A : Type 0} (f : Format E A) (bytes rest left stuck : List ℕ) (x : A) → bytes ≡ on ++ rest → Found f rest x left → Stuck (Linked f) left stuck → Stuck (Linked f) bytes stuck
later_stuck f bytes rest left stuck x word first s =
    let behind : rest ≡ first.front ++ (s.1 ++ s.2) = first.takes.parts ∙ ap (λ (t : List ℕ). first.front ++ t) s.4 in
    let parts : bytes ≡ (on ++ (first.front ++ s.1)) ++ s.2 = word ∙ ap (λ (t : List ℕ). on ++ t) behind ∙ sym (regrouped first.front s.1 (on ++ (first.front ++ s.1)) s.2 refl) in
    (x ∷ s.0, on ++ (first.front ++ s.1), s.2, (first.front, s.1, first.spelled, s.3, refl), parts, s.5)

takes_short : (bytes front rest : List ℕ) → bytes ≡ front ++ rest → length front + length rest ≡ length bytes
takes_short bytes front rest e = omega (arith, ap length e, length-append front rest)

element_stuck : {E A : Type 0} (f : Format E A) (finds : Finds f) (sticks : Sticks f) (n : ℕ)
    (later : (bytes : List ℕ) (c : XdrError) (stuck : List ℕ) → IsBytes bytes → length bytes ≤ n → linked_at n (read f) bytes ≡ Err (Fault c stuck) → Stuck (Linked f) bytes stuck)
    (bytes : List ℕ) (more : Bool) (rest : List ℕ) (c : XdrError) (stuck : List ℕ) → Takes bytes (to_be_bytes w32 (number_of more)) rest → length bytes ≤ suc n → element (read f) (linked_at n (read f)) more rest ≡ Err (Fault c stuck) → Stuck (Linked f) bytes stuck
element_stuck f finds sticks n later bytes false rest c stuck word le e = absurd cc
element_stuck f finds sticks n later bytes true rest c stuck word le e =
    elim (after_err (read f rest) (λ y left. after (linked_at n (read f) left) (λ ys end. Ok (y ∷ ys, end))) (Fault c stuck) e) [
      | inl here ↦ first_stuck f bytes rest stuck word.parts (sticks rest c stuck word.rest_fits here)
      | inr a ↦
          let first = finds rest a.0 word.rest_fits a.1 in
          let short : length a.0.1 ≤ n = omega (arith, le, takes_short bytes on rest word.parts, takes_short rest first.front a.0.1 first.takes.parts) in
          elim (after_err (linked_at n (read f) a.0.1) (λ ys end. Ok (a.0.0 ∷ ys, end)) (Fault c stuck) a.2) [
            | inl there ↦ later_stuck f bytes rest a.0.1 stuck a.0.0 word.parts first (later a.0.1 c stuck first.takes.rest_fits short there)
            | inr b ↦ absurd (let never = b.2 in cc)
          ]
    ]

pub chain_stuck : {E A : Type 0} (f : Format E A) (finds : Finds f) (sticks : Sticks f) (n : ℕ) (bytes : List ℕ) (c : XdrError) (stuck : List ℕ) → IsBytes bytes → length bytes ≤ n → linked_at n (read f) bytes ≡ Err (Fault c stuck) → Stuck (Linked f) bytes stuck
chain_stuck {E} f finds sticks zero bytes c stuck fits le e =
    let none = no_bytes bytes le in
    let end : here {E = E} bytes (boolean_at bytes) ≡ Err (Fault Short bytes) = rw none refl in
    word_stuck f bytes c stuck (end ∙ let same = e in cc)
chain_stuck f finds sticks (suc n) bytes c stuck fits le e =
    elim (after_err (here bytes (boolean_at bytes)) (element (read f) (linked_at n (read f))) (Fault c stuck) e) [
      | inl none ↦ word_stuck f bytes c stuck none
      | inr a ↦ element_stuck f finds sticks n (chain_stuck f finds sticks n) bytes a.0.0 a.0.1 c stuck (word_takes bytes a.0 fits a.1) le a.2
    ]

-- ---- and the first that isn't there is a fault; the same of what is left unread

-- With as many steps as bytes the first step is taken, or there is no word.
unfolds : {E A : Type 0} (first : List ℕ → Read E A) (n : ℕ) (bytes : List ℕ) → length bytes ≤ n → linked_at n first bytes ≡ after (here bytes (boolean_at bytes)) (element first (linked_at (n - 1) first))
unfolds first zero bytes le = rw (no_bytes bytes le) refl
unfolds first (suc n) bytes le = let k : suc n - 1 ≡ n = omega arith in rw k refl

-- what stops the chain behind elements stops the whole of it
chain_stops : {E A : Type 0} (f : Format E A) (reads : Reads f) (xs : List A) (n : ℕ) (front back : List ℕ) (d : Stop E) → Chains (Spells f) xs front → length (front ++ back) ≤ n
    → ((m : ℕ) → length back ≤ m → linked_at m (read f) back ≡ Err d) → linked_at n (read f) (front ++ back) ≡ Err d
chain_stops f reads [] n front back d c le stops = ap (λ (b : List ℕ). linked_at n (read f) (b ++ back)) c ∙ stops n (omega (arith, le, length-append front back))
chain_stops f reads (x ∷ xs) zero front back d c le stops = absurd (omega (arith, le, length-append front back, ap length c.4, length-append on (c.0 ++ c.1)))
chain_stops f reads (x ∷ xs) (suc n) front back d c le stops =
    let short : length (c.1 ++ back) ≤ n = omega (arith, le, length-append front back, length-append c.1 back, ap length c.4, length-append on (c.0 ++ c.1), length-append c.0 c.1) in
    let later = chain_stops f reads xs n c.1 back d c.3 short stops in
    ap (linked_at (suc n) (read f)) (regrouped c.0 c.1 front back c.4) ∙ step_again f reads n x c.0 (c.1 ++ back) c.2 ∙ ap (λ r. after r (λ ys end. Ok (x ∷ ys, end))) later

pub word_stops : {E A : Type 0} (first : List ℕ → Read E A) (back : List ℕ) (d : Stop E) → here back (boolean_at back) ≡ Err d → (m : ℕ) → length back ≤ m → linked_at m first back ≡ Err d
word_stops first back d e m le = unfolds first m back le ∙ ap (λ r. after r (element first (linked_at (m - 1) first))) e

pub element_stops : {E A : Type 0} (first : List ℕ → Read E A) (back rest : List ℕ) (d : Stop E) → back ≡ on ++ rest → first rest ≡ Err d → (m : ℕ) → length back ≤ m → linked_at m first back ≡ Err d
element_stops first back rest d parts e m le =
    let word = ap (λ (t : List ℕ). here t (boolean_at t)) parts ∙ on_again rest in
    unfolds first m back le ∙ ap (λ r. after r (element first (linked_at (m - 1) first))) word ∙ ap (λ r. after r (λ y left. after (linked_at (m - 1) first left) (λ ys end. Ok (y ∷ ys, end)))) e

pub linked_stops : {E A : Type 0} (f : Format E A) (reads : Reads f) (xs : List A) (front back bytes : List ℕ) (d : Stop E) → Chains (Spells f) xs front → bytes ≡ front ++ back
    → ((m : ℕ) → length back ≤ m → linked_at m (read f) back ≡ Err d) → read (Linked f) bytes ≡ Err d
linked_stops f reads xs front back bytes d c parts stops = ap (read (Linked f)) parts ∙ chain_stops f reads xs (length (front ++ back)) front back d c (omega arith) stops

-- ---- what is left unread stands behind elements and TRUE

abbrev pub LeavesSo : {E A : Type 0} → Format E A → Type 0
LeavesSo {E} f = (bytes : List ℕ) (status : E) → IsBytes bytes → read f bytes ≡ Err (Leaves status) → Leaving f bytes status

later_leaves : {E A : Type 0} (f : Format E A) (bytes rest left : List ℕ) (x : A) (status : E) → bytes ≡ on ++ rest → Found f rest x left → Leaving (Linked f) left status → Leaving (Linked f) bytes status
later_leaves f bytes rest left x status word first s =
    let behind : rest ≡ first.front ++ (s.1 ++ (on ++ s.2)) = first.takes.parts ∙ ap (λ (t : List ℕ). first.front ++ t) s.4 in
    let parts : bytes ≡ (on ++ (first.front ++ s.1)) ++ (on ++ s.2) = word ∙ ap (λ (t : List ℕ). on ++ t) behind ∙ sym (regrouped first.front s.1 (on ++ (first.front ++ s.1)) (on ++ s.2) refl) in
    (x ∷ s.0, on ++ (first.front ++ s.1), s.2, (first.front, s.1, first.spelled, s.3, refl), parts, s.5)

element_leaves : {E A : Type 0} (f : Format E A) (finds : Finds f) (leaves : LeavesSo f) (n : ℕ)
    (later : (bytes : List ℕ) (status : E) → IsBytes bytes → linked_at n (read f) bytes ≡ Err (Leaves status) → Leaving (Linked f) bytes status)
    (bytes : List ℕ) (more : Bool) (rest : List ℕ) (status : E) → Takes bytes (to_be_bytes w32 (number_of more)) rest → element (read f) (linked_at n (read f)) more rest ≡ Err (Leaves status) → Leaving (Linked f) bytes status
element_leaves f finds leaves n later bytes false rest status word e = absurd cc
element_leaves f finds leaves n later bytes true rest status word e =
    elim (after_err (read f rest) (λ y left. after (linked_at n (read f) left) (λ ys end. Ok (y ∷ ys, end))) (Leaves status) e) [
      | inl here ↦ ([], [], rest, refl, word.parts, leaves rest status word.rest_fits here)
      | inr a ↦
          let first = finds rest a.0 word.rest_fits a.1 in
          elim (after_err (linked_at n (read f) a.0.1) (λ ys end. Ok (a.0.0 ∷ ys, end)) (Leaves status) a.2) [
            | inl there ↦ later_leaves f bytes rest a.0.1 a.0.0 status word.parts first (later a.0.1 status first.takes.rest_fits there)
            | inr b ↦ absurd (let never = b.2 in cc)
          ]
    ]

word_stays : {E : Type 0} (bytes : List ℕ) (status : E) → here {E = E} bytes (boolean_at bytes) ≡ Err (Leaves status) → ⊥
word_stays {E} bytes status e = elim (whole {E = E} bytes (boolean_at bytes)) [ inl w ↦ (let ok = w.1 in absurd cc) | inr w ↦ (let bad = w.1 in absurd cc) ]

pub chain_leaves : {E A : Type 0} (f : Format E A) (finds : Finds f) (leaves : LeavesSo f) (n : ℕ) (bytes : List ℕ) (status : E) → IsBytes bytes → linked_at n (read f) bytes ≡ Err (Leaves status) → Leaving (Linked f) bytes status
chain_leaves f finds leaves zero bytes status fits e = absurd cc
chain_leaves f finds leaves (suc n) bytes status fits e =
    elim (after_err (here bytes (boolean_at bytes)) (element (read f) (linked_at n (read f))) (Leaves status) e) [
      | inl none ↦ absurd (word_stays bytes status none)
      | inr a ↦ element_leaves f finds leaves n (chain_leaves f finds leaves n) bytes a.0.0 a.0.1 status (word_takes bytes a.0 fits a.1) a.2
    ]
