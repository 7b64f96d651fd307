-- The laws, once for all formats.
use Rattle.std.proofs.Common.{◌≡◌, ◌⊎◌, ℕ, ◌<◌, ◌^◌, true, false, List, [], ◌++◌, length, Ok, Err, refl, sym, ap, subst, ◌∙◌, append_assoc, length-append, arith, inl, inr}
use Rattle.std.specs.Int.{w32, w64, to_be_bytes}
use Rattle.lnfs_xdr.specs.declared.error.XdrError.{XdrError}
use Rattle.lnfs_xdr.specs.Format.{Format, Word, Long, Boolean, Count, Among, LongAmong, Byte, Opaque, OpaqueOf, Fixed, Outside, Done, If, Then, Linked, Spells, NoneAt, Stuck, Leaving, Raw}
use Rattle.lnfs_xdr.specs.Reading.{Stop, Fault, Leaves, Read, here, after, number_at, boolean_at, count_at, among_at, long_among_at, byte_at, padded_at, opaque_at, opaque_of_at, read, raw_at}
use Rattle.lnfs_xdr.proofs.Fields.{IsBytes, IsBytes-back, after_err, after_ok, Takes-then, Found, Whole, wide64, number_takes, number_again, word_takes, word_again, boolean_takes, boolean_again, count_takes, count_again, among_takes, among_again, long_among_takes, long_among_again, byte_takes, byte_again, fixed_takes, padded_again, opaque_takes, opaque_again, opaque_of_takes, opaque_of_again, here_ok, whole, raw_takes, raw_again}
use Rattle.lnfs_xdr.proofs.Chains.{on, off, chain_found, chain_again}
use Rattle.lnfs_xdr.proofs.ChainStops.{chain_stuck, chain_leaves, linked_stops, word_stops, element_stops}

-- what is read is spelled at the front
pub found : {E A : Type 0} (f : Format E A) (bytes : List ℕ) (x : A × List ℕ) → IsBytes bytes → read f bytes ≡ Ok x → Found f bytes x.0 x.1
found {E} Word bytes x fits e = let t = word_takes bytes x fits (here_ok bytes (number_at w32 bytes) x e) in record { front = to_be_bytes w32 x.0; spelled = (t.1, refl); takes = t.0 }
found {E} Long bytes x fits e = let t = number_takes w64 (2 ^ 64) wide64 bytes x.0 x.1 fits (here_ok bytes (number_at w64 bytes) x e) in record { front = to_be_bytes w64 x.0; spelled = (t.1, refl); takes = t.0 }
found {E} Boolean bytes x fits e = boolean_takes bytes x fits (here_ok bytes (boolean_at bytes) x e)
found {E} (Count max) bytes x fits e = count_takes max bytes x fits (here_ok bytes (count_at max bytes) x e)
found {E} (Among test) bytes x fits e = among_takes test bytes x fits (here_ok bytes (among_at test bytes) x e)
found {E} (LongAmong test) bytes x fits e = long_among_takes test bytes x fits (here_ok bytes (long_among_at test bytes) x e)
found {E} (Byte test) bytes x fits e = byte_takes test bytes x fits (here_ok bytes (byte_at test bytes) x e)
found {E} (Opaque max) bytes x fits e = opaque_takes max bytes x fits (here_ok bytes (opaque_at max bytes) x e)
found {E} (OpaqueOf test) bytes x fits e = opaque_of_takes test bytes x fits (here_ok bytes (opaque_of_at test bytes) x e)
found {E} (Fixed n) bytes x fits e = fixed_takes n bytes x fits (here_ok bytes (padded_at n bytes) x e)
found {E} (Raw n) bytes x fits e = raw_takes n bytes x fits (here_ok bytes (raw_at n bytes) x e)
found {E} (Outside status) bytes x fits e = absurd cc
found {E} (Done y) bytes x fits e =
    let same : (y, bytes) ≡ x = cc in
    subst (λ (p : _ × List ℕ). Found {E = E} (Done y) bytes p.0 p.1) same (record { front = []; spelled = (refl, refl); takes = record { parts = refl; rest_fits = fits } })
found {E} (If true f g) bytes x fits e = let t = found f bytes x fits e in record { front = t.front; spelled = t.spelled; takes = t.takes }
found {E} (If false f g) bytes x fits e = let t = found g bytes x fits e in record { front = t.front; spelled = t.spelled; takes = t.takes }
found {E} (Then f k) bytes x fits e =
    let a = after_ok (read f bytes) (λ a rest. read (k a) rest) x e in
    let first = found f bytes a.0 fits a.1 in
    let second = found (k a.0.0) a.0.1 x first.takes.rest_fits a.2 in
    record {
      front = first.front ++ second.front;
      spelled = (a.0.0, first.front, second.front, first.spelled, second.spelled, refl);
      takes = Takes-then bytes first.front a.0.1 second.front x.1 first.takes second.takes;
    }
found {E} (Linked f) bytes x fits e =
    let t = chain_found f (found f) (length bytes) bytes x fits e in
    record { front = t.front ++ off; spelled = (t.front, t.chains, refl); takes = t.takes }

-- what is spelled at the front is read
pub again : {E A : Type 0} (f : Format E A) (x : A) (front rest : List ℕ) → Spells f x front → read f (front ++ rest) ≡ Ok (x, rest)
again Word x front rest s = ap (here (front ++ rest)) (ap (λ (b : List ℕ). number_at w32 (b ++ rest)) s.1 ∙ word_again x rest s.0)
again Long x front rest s = ap (here (front ++ rest)) (ap (λ (b : List ℕ). number_at w64 (b ++ rest)) s.1 ∙ number_again w64 (2 ^ 64) wide64 x rest s.0)
again Boolean x front rest s = ap (here (front ++ rest)) (ap (λ (b : List ℕ). boolean_at (b ++ rest)) s ∙ boolean_again x rest)
again (Count max) x front rest s = ap (here (front ++ rest)) (ap (λ (b : List ℕ). count_at max (b ++ rest)) s.2 ∙ count_again max x rest s.0 s.1)
again (Among test) x front rest s = ap (here (front ++ rest)) (ap (λ (b : List ℕ). among_at test (b ++ rest)) s.2 ∙ among_again test x rest s.0 s.1)
again (LongAmong test) x front rest s = ap (here (front ++ rest)) (ap (λ (b : List ℕ). long_among_at test (b ++ rest)) s.2 ∙ long_among_again test x rest s.0 s.1)
again (Byte test) x front rest s = ap (here (front ++ rest)) (ap (λ (b : List ℕ). byte_at test (b ++ rest)) s.2 ∙ byte_again test x rest s.0)
again (Opaque max) x front rest s = ap (here (front ++ rest)) (ap (λ (b : List ℕ). opaque_at max (b ++ rest)) s.4 ∙ opaque_again max x s.2 rest s.0 s.1 s.3)
again (OpaqueOf test) x front rest s = ap (here (front ++ rest)) (ap (λ (b : List ℕ). opaque_of_at test (b ++ rest)) s.4 ∙ opaque_of_again test x s.2 rest s.0 s.1 s.3)
again (Fixed n) x front rest s = ap (here (front ++ rest)) (ap (λ (b : List ℕ). padded_at n (b ++ rest)) s.3 ∙ padded_again n x s.1 rest s.0 s.2)
again (Raw n) x front rest s = ap (here (front ++ rest)) (ap (λ (b : List ℕ). raw_at n (b ++ rest)) s.1 ∙ raw_again n x rest s.0)
again (Outside status) x front rest s = absurd s
again (Done y) x front rest s = ap (λ (b : List ℕ). read (Done y) (b ++ rest)) s.1 ∙ ap (λ z. Ok (z, rest)) s.0
again (If true f g) x front rest s = again f x front rest s
again (If false f g) x front rest s = again g x front rest s
again (Then f k) x front rest s =
    let group : front ++ rest ≡ s.1 ++ (s.2 ++ rest) = ap (λ (b : List ℕ). b ++ rest) s.5 ∙ append_assoc s.1 s.2 rest in
    let first : read f (front ++ rest) ≡ Ok (s.0, s.2 ++ rest) = ap (read f) group ∙ again f s.0 s.1 (s.2 ++ rest) s.3 in
    ap (λ r. after r (λ a rest. read (k a) rest)) first ∙ again (k s.0) x s.2 rest s.4
again (Linked f) xs front rest s =
    let group : front ++ rest ≡ s.0 ++ (off ++ rest) = ap (λ (b : List ℕ). b ++ rest) s.2 ∙ append_assoc s.0 off rest in
    let enough : length s.0 < length (s.0 ++ (off ++ rest)) = omega (arith, length-append s.0 (off ++ rest), length-append off rest) in
    ap (read (Linked f)) group ∙ chain_again f (again f) (length (s.0 ++ (off ++ rest))) xs s.0 rest s.1 enough

-- ---- where reading stops

-- nothing of this format stands where reading it stops
pub none_at : {E A : Type 0} (f : Format E A) (bytes : List ℕ) (d : Stop E) → read f bytes ≡ Err d → NoneAt f bytes
none_at f bytes d e = λ x front rest s parts. let ok : read f bytes ≡ Ok (x, rest) = ap (read f) parts ∙ again f x front rest s in absurd cc

outcome : {E A : Type 0} (r : Read E A) → ((x : A × List ℕ) × (r ≡ Ok x)) ⊎ ((d : Stop E) × (r ≡ Err d))
outcome (Ok x) = inl (x, refl)
outcome (Err d) = inr (d, refl)

-- and where nothing of it stands, reading stops
pub stops_at : {E A : Type 0} (f : Format E A) (bytes : List ℕ) → IsBytes bytes → NoneAt f bytes → (d : Stop E) × (read f bytes ≡ Err d)
stops_at f bytes fits none =
    elim (outcome (read f bytes)) [
      | inl x ↦ let t = found f bytes x.0 fits x.1 in absurd (none x.0.0 t.front x.0.1 t.spelled t.takes.parts)
      | inr d ↦ d
    ]

-- an item that is read is there
some_at : {E A : Type 0} (f : Format E A) (bytes : List ℕ) (x : A × List ℕ) → IsBytes bytes → read f bytes ≡ Ok x → NoneAt f bytes → ⊥
some_at f bytes x fits e none = let t = found f bytes x fits e in none x.0 t.front x.1 t.spelled t.takes.parts

-- of an item: where it stops, nothing is there, and it stops at its beginning
item_stuck : {E A : Type 0} (f : Format E A) (bytes : List ℕ) (c : XdrError) (stuck : List ℕ) → Whole (read f bytes) bytes → read f bytes ≡ Err (Fault c stuck) → NoneAt f bytes × (bytes ≡ stuck)
item_stuck f bytes c stuck (inl w) e = absurd (let ok = w.1 in cc)
item_stuck f bytes c stuck (inr w) e = (none_at f bytes (Fault c stuck) e, let bad = w.1 in cc)

item_stays : {E A : Type 0} (f : Format E A) (bytes : List ℕ) (status : E) → Whole (read f bytes) bytes → read f bytes ≡ Err (Leaves status) → ⊥
item_stays f bytes status (inl w) e = let ok = w.1 in absurd cc
item_stays f bytes status (inr w) e = let bad = w.1 in absurd cc

item_faults : {E A : Type 0} (f : Format E A) (bytes stuck : List ℕ) → IsBytes bytes → Whole (read f bytes) bytes → NoneAt f bytes × (bytes ≡ stuck) → (c : XdrError) × (read f bytes ≡ Err (Fault c stuck))
item_faults f bytes stuck fits (inl w) s = absurd (some_at f bytes w.0 fits w.1 s.0)
item_faults f bytes stuck fits (inr w) s = (w.0, w.1 ∙ ap (λ (b : List ℕ). Err (Fault w.0 b)) s.1)

-- a fault is the first item that isn't there
pub stuck_at : {E A : Type 0} (f : Format E A) (bytes : List ℕ) (c : XdrError) (stuck : List ℕ) → IsBytes bytes → read f bytes ≡ Err (Fault c stuck) → Stuck f bytes stuck
stuck_at Word bytes c stuck fits e = item_stuck Word bytes c stuck (whole bytes (number_at w32 bytes)) e
stuck_at Long bytes c stuck fits e = item_stuck Long bytes c stuck (whole bytes (number_at w64 bytes)) e
stuck_at Boolean bytes c stuck fits e = item_stuck Boolean bytes c stuck (whole bytes (boolean_at bytes)) e
stuck_at (Count max) bytes c stuck fits e = item_stuck (Count max) bytes c stuck (whole bytes (count_at max bytes)) e
stuck_at (Among test) bytes c stuck fits e = item_stuck (Among test) bytes c stuck (whole bytes (among_at test bytes)) e
stuck_at (LongAmong test) bytes c stuck fits e = item_stuck (LongAmong test) bytes c stuck (whole bytes (long_among_at test bytes)) e
stuck_at (Byte test) bytes c stuck fits e = item_stuck (Byte test) bytes c stuck (whole bytes (byte_at test bytes)) e
stuck_at (Opaque max) bytes c stuck fits e = item_stuck (Opaque max) bytes c stuck (whole bytes (opaque_at max bytes)) e
stuck_at (OpaqueOf test) bytes c stuck fits e = item_stuck (OpaqueOf test) bytes c stuck (whole bytes (opaque_of_at test bytes)) e
stuck_at (Fixed n) bytes c stuck fits e = item_stuck (Fixed n) bytes c stuck (whole bytes (padded_at n bytes)) e
stuck_at (Raw n) bytes c stuck fits e = item_stuck (Raw n) bytes c stuck (whole bytes (raw_at n bytes)) e
stuck_at (Outside status) bytes c stuck fits e = absurd cc
stuck_at (Done y) bytes c stuck fits e = absurd cc
stuck_at (If true f g) bytes c stuck fits e = stuck_at f bytes c stuck fits e
stuck_at (If false f g) bytes c stuck fits e = stuck_at g bytes c stuck fits e
stuck_at (Then f k) bytes c stuck fits e =
    elim (after_err (read f bytes) (λ a rest. read (k a) rest) (Fault c stuck) e) [
      | inl here ↦ inl (stuck_at f bytes c stuck fits here)
      | inr later ↦ let t = found f bytes later.0 fits later.1 in
          inr (later.0.0, t.front, later.0.1, t.spelled, t.takes.parts, stuck_at (k later.0.0) later.0.1 c stuck t.takes.rest_fits later.2)
    ]
stuck_at (Linked f) bytes c stuck fits e = chain_stuck f (found f) (stuck_at f) (length bytes) bytes c stuck fits (omega arith) e

-- and the first item that isn't there is a fault
pub faults_at : {E A : Type 0} (f : Format E A) (bytes stuck : List ℕ) → IsBytes bytes → Stuck f bytes stuck → (c : XdrError) × (read f bytes ≡ Err (Fault c stuck))
faults_at Word bytes stuck fits s = item_faults Word bytes stuck fits (whole bytes (number_at w32 bytes)) s
faults_at Long bytes stuck fits s = item_faults Long bytes stuck fits (whole bytes (number_at w64 bytes)) s
faults_at Boolean bytes stuck fits s = item_faults Boolean bytes stuck fits (whole bytes (boolean_at bytes)) s
faults_at (Count max) bytes stuck fits s = item_faults (Count max) bytes stuck fits (whole bytes (count_at max bytes)) s
faults_at (Among test) bytes stuck fits s = item_faults (Among test) bytes stuck fits (whole bytes (among_at test bytes)) s
faults_at (LongAmong test) bytes stuck fits s = item_faults (LongAmong test) bytes stuck fits (whole bytes (long_among_at test bytes)) s
faults_at (Byte test) bytes stuck fits s = item_faults (Byte test) bytes stuck fits (whole bytes (byte_at test bytes)) s
faults_at (Opaque max) bytes stuck fits s = item_faults (Opaque max) bytes stuck fits (whole bytes (opaque_at max bytes)) s
faults_at (OpaqueOf test) bytes stuck fits s = item_faults (OpaqueOf test) bytes stuck fits (whole bytes (opaque_of_at test bytes)) s
faults_at (Fixed n) bytes stuck fits s = item_faults (Fixed n) bytes stuck fits (whole bytes (padded_at n bytes)) s
faults_at (Raw n) bytes stuck fits s = item_faults (Raw n) bytes stuck fits (whole bytes (raw_at n bytes)) s
faults_at (Outside status) bytes stuck fits s = absurd s
faults_at (Done y) bytes stuck fits s = absurd s
faults_at (If true f g) bytes stuck fits s = faults_at f bytes stuck fits s
faults_at (If false f g) bytes stuck fits s = faults_at g bytes stuck fits s
faults_at (Then f k) bytes stuck fits s =
    elim s [
      | inl here ↦ let t = faults_at f bytes stuck fits here in (t.0, ap (λ r. after r (λ a rest. read (k a) rest)) t.1)
      | inr later ↦
          let first : read f bytes ≡ Ok (later.0, later.2) = ap (read f) later.4 ∙ again f later.0 later.1 later.2 later.3 in
          let rest_fits : IsBytes later.2 = IsBytes-back later.1 later.2 bytes later.4 fits in
          let t = faults_at (k later.0) later.2 stuck rest_fits later.5 in
          (t.0, ap (λ r. after r (λ a rest. read (k a) rest)) first ∙ t.1)
    ]
faults_at {E} (Linked f) bytes stuck fits s =
    let back_fits : IsBytes s.2 = IsBytes-back s.1 s.2 bytes s.4 fits in
    elim s.5 [
      | inl none ↦
          let t = item_faults {E = E} Boolean s.2 stuck back_fits (whole s.2 (boolean_at s.2)) none in
          (t.0, linked_stops f (again f) s.0 s.1 s.2 bytes (Fault t.0 stuck) s.3 s.4 (word_stops (read f) s.2 (Fault t.0 stuck) t.1))
      | inr more ↦
          let t = faults_at f more.0 stuck (IsBytes-back on more.0 s.2 more.1 back_fits) more.2 in
          (t.0, linked_stops f (again f) s.0 s.1 s.2 bytes (Fault t.0 stuck) s.3 s.4 (element_stops (read f) s.2 more.0 (Fault t.0 stuck) more.1 t.1))
    ]

-- the same of what is left unread
pub leaves_at : {E A : Type 0} (f : Format E A) (bytes : List ℕ) (status : E) → IsBytes bytes → read f bytes ≡ Err (Leaves status) → Leaving f bytes status
leaves_at Word bytes status fits e = item_stays Word bytes status (whole bytes (number_at w32 bytes)) e
leaves_at Long bytes status fits e = item_stays Long bytes status (whole bytes (number_at w64 bytes)) e
leaves_at Boolean bytes status fits e = item_stays Boolean bytes status (whole bytes (boolean_at bytes)) e
leaves_at (Count max) bytes status fits e = item_stays (Count max) bytes status (whole bytes (count_at max bytes)) e
leaves_at (Among test) bytes status fits e = item_stays (Among test) bytes status (whole bytes (among_at test bytes)) e
leaves_at (LongAmong test) bytes status fits e = item_stays (LongAmong test) bytes status (whole bytes (long_among_at test bytes)) e
leaves_at (Byte test) bytes status fits e = item_stays (Byte test) bytes status (whole bytes (byte_at test bytes)) e
leaves_at (Opaque max) bytes status fits e = item_stays (Opaque max) bytes status (whole bytes (opaque_at max bytes)) e
leaves_at (OpaqueOf test) bytes status fits e = item_stays (OpaqueOf test) bytes status (whole bytes (opaque_of_at test bytes)) e
leaves_at (Fixed n) bytes status fits e = item_stays (Fixed n) bytes status (whole bytes (padded_at n bytes)) e
leaves_at (Raw n) bytes status fits e = item_stays (Raw n) bytes status (whole bytes (raw_at n bytes)) e
leaves_at (Outside s) bytes status fits e = cc
leaves_at (Done y) bytes status fits e = absurd cc
leaves_at (If true f g) bytes status fits e = leaves_at f bytes status fits e
leaves_at (If false f g) bytes status fits e = leaves_at g bytes status fits e
leaves_at (Then f k) bytes status fits e =
    elim (after_err (read f bytes) (λ a rest. read (k a) rest) (Leaves status) e) [
      | inl here ↦ inl (leaves_at f bytes status fits here)
      | inr later ↦ let t = found f bytes later.0 fits later.1 in
          inr (later.0.0, t.front, later.0.1, t.spelled, t.takes.parts, leaves_at (k later.0.0) later.0.1 status t.takes.rest_fits later.2)
    ]
leaves_at (Linked f) bytes status fits e = chain_leaves f (found f) (leaves_at f) (length bytes) bytes status fits e

pub left_at : {E A : Type 0} (f : Format E A) (bytes : List ℕ) (status : E) → IsBytes bytes → Leaving f bytes status → read f bytes ≡ Err (Leaves status)
left_at {E} Word bytes status fits s = absurd s
left_at {E} Long bytes status fits s = absurd s
left_at {E} Boolean bytes status fits s = absurd s
left_at {E} (Count max) bytes status fits s = absurd s
left_at {E} (Among test) bytes status fits s = absurd s
left_at {E} (LongAmong test) bytes status fits s = absurd s
left_at {E} (Byte test) bytes status fits s = absurd s
left_at {E} (Opaque max) bytes status fits s = absurd s
left_at {E} (OpaqueOf test) bytes status fits s = absurd s
left_at {E} (Fixed n) bytes status fits s = absurd s
left_at {E} (Raw n) bytes status fits s = absurd s
left_at {E} (Outside s) bytes status fits e = ap (λ (n : E). Err (Leaves n)) e
left_at {E} (Done y) bytes status fits s = absurd s
left_at {E} (If true f g) bytes status fits s = left_at f bytes status fits s
left_at {E} (If false f g) bytes status fits s = left_at g bytes status fits s
left_at {E} (Then f k) bytes status fits s =
    elim s [
      | inl here ↦ ap (λ r. after r (λ a rest. read (k a) rest)) (left_at f bytes status fits here)
      | inr later ↦
          let first : read f bytes ≡ Ok (later.0, later.2) = ap (read f) later.4 ∙ again f later.0 later.1 later.2 later.3 in
          let rest_fits : IsBytes later.2 = IsBytes-back later.1 later.2 bytes later.4 fits in
          ap (λ r. after r (λ a rest. read (k a) rest)) first ∙ left_at (k later.0) later.2 status rest_fits later.5
    ]
left_at {E} (Linked f) bytes status fits s =
    let back_fits : IsBytes (on ++ s.2) = IsBytes-back s.1 (on ++ s.2) bytes s.4 fits in
    let there = left_at f s.2 status (IsBytes-back on s.2 (on ++ s.2) refl back_fits) s.5 in
    linked_stops f (again f) s.0 s.1 (on ++ s.2) bytes (Leaves status) s.3 s.4 (element_stops (read f) (on ++ s.2) s.2 (Leaves status) refl there)

-- no spelling begins another
pub one_spelling : {E A : Type 0} (f : Format E A) (x y : A) (a b c d : List ℕ) → Spells f x a → Spells f y b → a ++ c ≡ b ++ d → (x ≡ y) × (c ≡ d)
one_spelling f x y a b c d s t e =
    let both : Ok (x, c) ≡ Ok (y, d) = sym (again f x a c s) ∙ ap (read f) e ∙ again f y b d t in
    let pair : (x, c) ≡ (y, d) = cc in
    (ap (λ (p : _ × List ℕ). p.0) pair, ap (λ (p : _ × List ℕ). p.1) pair)

-- ---- bytes that come later

-- a value that is read stays the same, whatever comes behind
pub read_longer : {E A : Type 0} (f : Format E A) (bytes more : List ℕ) (x : A) (rest : List ℕ) → IsBytes bytes → read f bytes ≡ Ok (x, rest) → read f (bytes ++ more) ≡ Ok (x, rest ++ more)
read_longer f bytes more x rest fits e =
    let t = found f bytes (x, rest) fits e in
    ap (read f) (ap (λ (b : List ℕ). b ++ more) t.takes.parts ∙ append_assoc t.front rest more) ∙ again f x t.front (rest ++ more) t.spelled

-- and so does what is left unread
pub leaving_longer : {E A : Type 0} (f : Format E A) (bytes more : List ℕ) (e : E) → Leaving f bytes e → Leaving f (bytes ++ more) e
leaving_longer (Outside x) bytes more e s = s
leaving_longer (If true f g) bytes more e s = leaving_longer f bytes more e s
leaving_longer (If false f g) bytes more e s = leaving_longer g bytes more e s
leaving_longer (Then f k) bytes more e s =
    elim s [
      | inl here ↦ inl (leaving_longer f bytes more e here)
      | inr later ↦ inr (later.0, later.1, later.2 ++ more, later.3, ap (λ (b : List ℕ). b ++ more) later.4 ∙ append_assoc later.1 later.2 more, leaving_longer (k later.0) later.2 more e later.5)
    ]
leaving_longer (Linked f) bytes more e s =
    let parts : bytes ++ more ≡ s.1 ++ (on ++ (s.2 ++ more)) = ap (λ (b : List ℕ). b ++ more) s.4 ∙ append_assoc s.1 (on ++ s.2) more ∙ ap (λ (b : List ℕ). s.1 ++ b) (append_assoc on s.2 more) in
    (s.0, s.1, s.2 ++ more, s.3, parts, leaving_longer f s.2 more e s.5)
leaving_longer _ bytes more e s = absurd s
