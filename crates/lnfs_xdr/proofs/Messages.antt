-- The laws of all messages.
use Rattle.std.proofs.Common.{◌≡◌, ◌≢◌, ◌⊎◌, ℕ, ◌≤◌, Bool, true, false, cond, eqb, List, [], ◌∷◌, ◌++◌, length, take, drop, Result, Ok, Err, refl, sym, ap, ◌∙◌, arith, inl, inr}
use Rattle.std.specs.Prelude.{nat_le}
use Rattle.std.specs.Int.{w32, to_be_bytes}
use Rattle.std.proofs.lemmas.List.{take_at, drop_at, take-append-drop, length-take, length-append}
use Rattle.std.proofs.lemmas.Bool.Decides.{nat_tests}
use Rattle.lnfs_xdr.specs.declared.error.XdrError.{XdrError}
use Rattle.lnfs_xdr.specs.Format.{Format, Word, Long, Boolean, Count, Among, LongAmong, Byte, Opaque, OpaqueOf, Fixed, Raw, Outside, Done, If, Then, Linked, Stuck}
use Rattle.lnfs_xdr.specs.Reading.{Fault, Leaves, Read, read}
use Rattle.lnfs_xdr.specs.Message.{Message, Closed, Unread, Next, Measured, Tells, NoneMeasured, Refuses, decided, cut_at, parse}
use Rattle.lnfs_xdr.proofs.Fields.{IsBytes, IsBytes-back, IsBytes-drop}
use Rattle.lnfs_xdr.proofs.Laws.{found, again, stuck_at, faults_at, leaves_at, left_at}

abbrev Passed : {E A B : Type 0} → Read E A → (A → List ℕ → Result B (List ℕ)) → (E → B) → B → Type 0
Passed {E} {A} r k g x = ((a : A × List ℕ) × (r ≡ Ok a) × (k a.0 a.1 ≡ Ok x)) ⊎ ((e : E) × (r ≡ Err (Leaves e)) × (g e ≡ x))

passed : {E A B : Type 0} (r : Read E A) (k : A → List ℕ → Result B (List ℕ)) (g : E → B) (x : B) → decided r k g ≡ Ok x → Passed r k g x
passed (Ok a) k g x e = inl (a, refl, e)
passed (Err (Fault c stuck)) k g x e = absurd cc
passed (Err (Leaves l)) k g x e = inr (l, refl, cc)

abbrev Failed : {E A B : Type 0} → Read E A → (A → List ℕ → Result B (List ℕ)) → List ℕ → Type 0
Failed {E} {A} r k stuck = ((c : XdrError) × (r ≡ Err (Fault c stuck))) ⊎ ((a : A × List ℕ) × (r ≡ Ok a) × (k a.0 a.1 ≡ Err stuck))

failed : {E A B : Type 0} (r : Read E A) (k : A → List ℕ → Result B (List ℕ)) (g : E → B) (stuck : List ℕ) → decided r k g ≡ Err stuck → Failed r k stuck
failed (Ok a) k g stuck e = inr (a, refl, e)
failed (Err (Fault c s)) k g stuck e = inl (c, let same : s ≡ stuck = cc in ap (λ (b : List ℕ). Err (Fault c b)) same)
failed (Err (Leaves l)) k g stuck e = absurd cc

some_is_long : (b : ℕ) (bytes : List ℕ) → eqb (length (b ∷ bytes)) 0 ≡ false
some_is_long b bytes = grind (arith, nat_tests)

closed_ok : {B : Type 0} (bytes : List ℕ) (y x : B) → parse (Closed y) bytes ≡ Ok x → (y ≡ x) × (bytes ≡ [])
closed_ok [] y x e = (cc, refl)
closed_ok (b ∷ bytes) y x e = absurd (let f = rw (some_is_long b bytes) at e in cc)

closed_err : {B : Type 0} (bytes : List ℕ) (y : B) (stuck : List ℕ) → parse (Closed y) bytes ≡ Err stuck → (bytes ≢ []) × (bytes ≡ stuck)
closed_err [] y stuck e = absurd cc
closed_err (b ∷ bytes) y stuck e = (λ n. absurd cc, let f = rw (some_is_long b bytes) at e in cc)

-- ---- a measured item

-- it is there
abbrev IsCut : {B : Type 0} → Result ℕ XdrError → List ℕ → (List ℕ → List ℕ → Result B (List ℕ)) → Result B (List ℕ) → Type 0
IsCut r bytes k y = (n : ℕ) × (r ≡ Ok n) × (n ≤ length bytes) × (k (take n bytes) (drop n bytes) ≡ y)

-- or it isn't
abbrev IsUncut : Result ℕ XdrError → List ℕ → Type 0
IsUncut r bytes = (n : ℕ) → r ≡ Ok n → n ≤ length bytes → ⊥

within : (n m : ℕ) → nat_le n m ≡ true → n ≤ m
within n m e = grind (arith, nat_tests)

beyond : (n m : ℕ) → nat_le n m ≡ false → n ≤ m → ⊥
beyond n m e le = grind (arith, nat_tests)

is_within : (n m : ℕ) → n ≤ m → nat_le n m ≡ true
is_within n m le = grind (arith, nat_tests)

cut_cases : {B : Type 0} (r : Result ℕ XdrError) (bytes : List ℕ) (k : List ℕ → List ℕ → Result B (List ℕ)) (y : Result B (List ℕ)) → cut_at r bytes k ≡ y → IsCut r bytes k y ⊎ (IsUncut r bytes × (y ≡ Err bytes))
cut_cases (Err c) bytes k y e = inr (λ n f le. absurd cc, sym e)
cut_cases (Ok n) bytes k y e = by_test (nat_le n (length bytes)) refl e
  where
    by_test : (b : Bool) → nat_le n (length bytes) ≡ b → cond b (k (take n bytes) (drop n bytes)) (Err bytes) ≡ y → IsCut (Ok n) bytes k y ⊎ (IsUncut (Ok n) bytes × (y ≡ Err bytes))
    by_test true t f = inl (n, refl, within n (length bytes) t, f)
    by_test false t f = inr (λ m g le. let same : n ≡ m = cc in beyond n (length bytes) t (omega (arith, same)), sym f)

-- an item that is there is cut off
cut_there : {B : Type 0} (front back : List ℕ) (k : List ℕ → List ℕ → Result B (List ℕ)) → cut_at (Ok (length front)) (front ++ back) k ≡ k front back
cut_there front back k =
    let fits : nat_le (length front) (length (front ++ back)) ≡ true = is_within _ _ (omega (arith, length-append front back)) in
    rw (fits, take_at front back (length front) refl, drop_at front back (length front) refl) refl

cut_here : {B : Type 0} (measure : List ℕ → Result ℕ XdrError) (bytes front back : List ℕ) (k : List ℕ → List ℕ → Result B (List ℕ)) → bytes ≡ front ++ back → measure bytes ≡ Ok (length front) → cut_at (measure bytes) bytes k ≡ k front back
cut_here measure bytes front back k parts size =
    ap (λ r. cut_at r bytes k) size ∙ ap (λ (b : List ℕ). cut_at (Ok (length front)) b k) parts ∙ cut_there front back k

-- an item that isn't there is none of any parts
none_cut : (measure : List ℕ → Result ℕ XdrError) (bytes : List ℕ) → IsUncut (measure bytes) bytes → NoneMeasured measure bytes
none_cut measure bytes none = λ front back parts size. none (length front) size (omega (arith, ap length parts, length-append front back))

uncut : {B : Type 0} (measure : List ℕ → Result ℕ XdrError) (bytes : List ℕ) (k : List ℕ → List ℕ → Result B (List ℕ)) → NoneMeasured measure bytes → cut_at (measure bytes) bytes k ≡ Err bytes
uncut measure bytes k none =
    elim (cut_cases (measure bytes) bytes k (cut_at (measure bytes) bytes k) refl) [
      | inl c ↦ absurd (none (take c.0 bytes) (drop c.0 bytes) (sym (take-append-drop c.0 bytes)) (c.1 ∙ ap (λ (n : ℕ). Ok n) (omega (arith, c.2, length-take c.0 bytes))))
      | inr c ↦ c.1
    ]

-- what is parsed is told
pub tells : {B : Type 0} (m : Message B) (bytes : List ℕ) (x : B) → IsBytes bytes → parse m bytes ≡ Ok x → Tells m x bytes
tells (Closed y) bytes x fits e = closed_ok bytes y x e
tells (Unread y) bytes x fits e = cc
tells (Next f k g) bytes x fits e =
    elim (passed (read f bytes) (λ a rest. parse (k a) rest) g x e) [
      | inl p ↦ let t = found f bytes p.0 fits p.1 in
          inl (p.0.0, t.front, p.0.1, t.spelled, t.takes.parts, tells (k p.0.0) p.0.1 x t.takes.rest_fits p.2)
      | inr p ↦ inr (p.0, leaves_at f bytes p.0 fits p.1, p.2)
    ]
tells (Measured measure k) bytes x fits e =
    elim (cut_cases (measure bytes) bytes (λ front back. parse (k front) back) (Ok x) e) [
      | inl c ↦ (take c.0 bytes, drop c.0 bytes, sym (take-append-drop c.0 bytes), c.1 ∙ ap (λ (n : ℕ). Ok n) (omega (arith, c.2, length-take c.0 bytes)), tells (k (take c.0 bytes)) (drop c.0 bytes) x (IsBytes-drop c.0 bytes fits) c.3)
      | inr c ↦ absurd (let bad = c.1 in cc)
    ]

-- what is told is parsed
pub told : {B : Type 0} (m : Message B) (bytes : List ℕ) (x : B) → IsBytes bytes → Tells m x bytes → parse m bytes ≡ Ok x
told (Closed y) bytes x fits t = ap (parse (Closed y)) t.1 ∙ ap (λ z. Ok z) t.0
told (Unread y) bytes x fits t = ap (λ z. Ok z) t
told (Next f k g) bytes x fits t =
    elim t [
      | inl p ↦
          let first : read f bytes ≡ Ok (p.0, p.2) = ap (read f) p.4 ∙ again f p.0 p.1 p.2 p.3 in
          ap (λ r. decided r (λ a rest. parse (k a) rest) g) first ∙ told (k p.0) p.2 x (IsBytes-back p.1 p.2 bytes p.4 fits) p.5
      | inr p ↦ ap (λ r. decided r (λ a rest. parse (k a) rest) g) (left_at f bytes p.0 fits p.1) ∙ ap (λ z. Ok z) p.2
    ]
told (Measured measure k) bytes x fits t =
    cut_here measure bytes t.0 t.1 (λ front back. parse (k front) back) t.2 t.3 ∙ told (k t.0) t.1 x (IsBytes-back t.0 t.1 bytes t.2 fits) t.4

-- a fault is the first item that isn't there
pub refuses : {B : Type 0} (m : Message B) (bytes stuck : List ℕ) → IsBytes bytes → parse m bytes ≡ Err stuck → Refuses m bytes stuck
refuses (Closed y) bytes stuck fits e = closed_err bytes y stuck e
refuses (Unread y) bytes stuck fits e = absurd cc
refuses (Next f k g) bytes stuck fits e =
    elim (failed (read f bytes) (λ a rest. parse (k a) rest) g stuck e) [
      | inl p ↦ inl (stuck_at f bytes p.0 stuck fits p.1)
      | inr p ↦ let t = found f bytes p.0 fits p.1 in
          inr (p.0.0, t.front, p.0.1, t.spelled, t.takes.parts, refuses (k p.0.0) p.0.1 stuck t.takes.rest_fits p.2)
    ]
refuses (Measured measure k) bytes stuck fits e =
    elim (cut_cases (measure bytes) bytes (λ front back. parse (k front) back) (Err stuck) e) [
      | inl c ↦ inr (take c.0 bytes, drop c.0 bytes, sym (take-append-drop c.0 bytes), c.1 ∙ ap (λ (n : ℕ). Ok n) (omega (arith, c.2, length-take c.0 bytes)), refuses (k (take c.0 bytes)) (drop c.0 bytes) stuck (IsBytes-drop c.0 bytes fits) c.3)
      | inr c ↦ inl (none_cut measure bytes c.0, let same = c.1 in cc)
    ]

closed_refused : {B : Type 0} (bytes : List ℕ) (y : B) (stuck : List ℕ) → bytes ≢ [] → bytes ≡ stuck → parse (Closed y) bytes ≡ Err stuck
closed_refused [] y stuck some e = absurd (some refl)
closed_refused (b ∷ bytes) y stuck some e = rw (some_is_long b bytes) (ap (λ (z : List ℕ). Err z) e)

-- and the first item that isn't there is a fault
pub refused : {B : Type 0} (m : Message B) (bytes stuck : List ℕ) → IsBytes bytes → Refuses m bytes stuck → parse m bytes ≡ Err stuck
refused (Closed y) bytes stuck fits t = closed_refused bytes y stuck t.0 t.1
refused (Unread y) bytes stuck fits t = absurd t
refused (Next f k g) bytes stuck fits t =
    elim t [
      | inl p ↦ let s = faults_at f bytes stuck fits p in ap (λ r. decided r (λ a rest. parse (k a) rest) g) s.1
      | inr p ↦
          let first : read f bytes ≡ Ok (p.0, p.2) = ap (read f) p.4 ∙ again f p.0 p.1 p.2 p.3 in
          ap (λ r. decided r (λ a rest. parse (k a) rest) g) first ∙ refused (k p.0) p.2 stuck (IsBytes-back p.1 p.2 bytes p.4 fits) p.5
    ]
refused (Measured measure k) bytes stuck fits t =
    elim t [
      | inl p ↦ uncut measure bytes (λ front back. parse (k front) back) p.0 ∙ ap (λ (b : List ℕ). Err b) p.1
      | inr p ↦ cut_here measure bytes p.0 p.1 (λ front back. parse (k front) back) p.2 p.3 ∙ refused (k p.0) p.1 stuck (IsBytes-back p.0 p.1 bytes p.2 fits) p.4
    ]

-- ---- what is left where no item is stands at the end

tail_short : (front back bytes : List ℕ) (n : ℕ) → bytes ≡ front ++ back → n ≤ length back → n ≤ length bytes
tail_short front back bytes n parts le = omega (arith, le, ap length parts, length-append front back)

stuck_short : {E A : Type 0} (f : Format E A) (bytes stuck : List ℕ) → Stuck f bytes stuck → length stuck ≤ length bytes
stuck_short Word bytes stuck s = omega (arith, ap length s.1)
stuck_short Long bytes stuck s = omega (arith, ap length s.1)
stuck_short Boolean bytes stuck s = omega (arith, ap length s.1)
stuck_short (Count max) bytes stuck s = omega (arith, ap length s.1)
stuck_short (Among test) bytes stuck s = omega (arith, ap length s.1)
stuck_short (LongAmong test) bytes stuck s = omega (arith, ap length s.1)
stuck_short (Byte test) bytes stuck s = omega (arith, ap length s.1)
stuck_short (Opaque max) bytes stuck s = omega (arith, ap length s.1)
stuck_short (OpaqueOf test) bytes stuck s = omega (arith, ap length s.1)
stuck_short (Fixed n) bytes stuck s = omega (arith, ap length s.1)
stuck_short (Raw n) bytes stuck s = omega (arith, ap length s.1)
stuck_short (Outside e) bytes stuck s = absurd s
stuck_short (Done y) bytes stuck s = absurd s
stuck_short (If true f g) bytes stuck s = stuck_short f bytes stuck s
stuck_short (If false f g) bytes stuck s = stuck_short g bytes stuck s
stuck_short (Then f k) bytes stuck s =
    elim s [
      | inl here ↦ stuck_short f bytes stuck here
      | inr later ↦ tail_short later.1 later.2 bytes (length stuck) later.4 (stuck_short (k later.0) later.2 stuck later.5)
    ]
stuck_short (Linked f) bytes stuck s =
    tail_short s.1 s.2 bytes (length stuck) s.4 (
    elim s.5 [
      | inl word ↦ omega (arith, ap length word.1)
      | inr more ↦ tail_short (to_be_bytes w32 1) more.0 s.2 (length stuck) more.1 (stuck_short f more.0 stuck more.2)
    ])

pub refused_short : {B : Type 0} (m : Message B) (bytes stuck : List ℕ) → Refuses m bytes stuck → length stuck ≤ length bytes
refused_short (Closed y) bytes stuck t = omega (arith, ap length t.1)
refused_short (Unread y) bytes stuck t = absurd t
refused_short (Next f k g) bytes stuck t =
    elim t [
      | inl p ↦ stuck_short f bytes stuck p
      | inr p ↦ tail_short p.1 p.2 bytes (length stuck) p.4 (refused_short (k p.0) p.2 stuck p.5)
    ]
refused_short (Measured measure k) bytes stuck t =
    elim t [
      | inl p ↦ omega (arith, ap length p.1)
      | inr p ↦ tail_short p.0 p.1 bytes (length stuck) p.2 (refused_short (k p.0) p.1 stuck p.4)
    ]
