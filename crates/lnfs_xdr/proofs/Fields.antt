-- Each item: what is read is spelled so, what is spelled so is read, and a fault is a lack of any spelling.
use Rattle.std.proofs.Common.{◌≡◌, ◌⊎◌, ℕ, ◌+◌, ◌^◌, ◌<◌, ◌≤◌, Bool, true, false, cond, ltb, eqb, List, [], ◌∷◌, ◌++◌, length, get_or, take, drop, Result, Ok, Err, refl, sym, ap, subst, ◌∙◌, append_assoc, arith, inl, inr}
use Rattle.std.specs.Int.{Width, w32, w64, byte_len, from_be_bytes, to_be_bytes}
use Rattle.std.proofs.lemmas.Bool.{cases_lt, ltb-false, le-ltb, eqb-true}
use Rattle.std.proofs.lemmas.List.{take_at, drop_at, take-append-drop, length-append, length-take, length-drop, get_or-drop, get_or-take, get_or_past}
use Rattle.std.proofs.lemmas.Nat.{be_bytes_4, be_bytes_8, from_be_bytes-to_be_bytes_4, from_be_bytes-to_be_bytes_8}
use Rattle.lnfs_xdr.specs.declared.error.XdrError.{XdrError}
use Rattle.lnfs_xdr.specs.declared.error.XdrError.TheVariants.{Short, BadBool, TooLong}
use Rattle.lnfs_xdr.specs.Format.{Format, Boolean, Count, Among, LongAmong, Byte, Opaque, OpaqueOf, Fixed, padding, number_of, Spells, Raw}
use Rattle.lnfs_xdr.specs.Reading.{Item, Fault, Read, here, after, number_at, boolean_at, count_at, passing_at, among_at, long_among_at, byte_at, padded_at, opaque_at, opaque_of_at, raw_at}

abbrev pub IsBytes : List ℕ → Type 0
IsBytes bytes = (i : ℕ) → get_or bytes i 0 < 256

pub IsBytes-drop : (n : ℕ) (bytes : List ℕ) → IsBytes bytes → IsBytes (drop n bytes)
IsBytes-drop n bytes h i = rw get_or-drop (h (n + i))

pub IsBytes-take : (n : ℕ) (bytes : List ℕ) → IsBytes bytes → IsBytes (take n bytes)
IsBytes-take n bytes h i =
    elim (cases_lt i n) [
      | inl lt ↦ rw (get_or-take n bytes i 0 lt) (h i)
      | inr le ↦ rw (get_or_past (take n bytes) i 0 (omega (arith, length-take n bytes))) (omega arith)
    ]

pub IsBytes-back : (front rest bytes : List ℕ) → bytes ≡ front ++ rest → IsBytes bytes → IsBytes rest
IsBytes-back front rest bytes e h = rw (← drop_at front rest (length front) refl, ← e) (IsBytes-drop (length front) bytes h)

pub no_bytes : (bytes : List ℕ) → length bytes ≤ 0 → bytes ≡ []
no_bytes [] le = refl
no_bytes (b ∷ bytes) le = absurd (omega arith)

-- the value of a step that did not stop
pub after_ok : {D A B : Type 0} (r : Result (A × List ℕ) D) (k : A → List ℕ → Result (B × List ℕ) D) (y : B × List ℕ) → after r k ≡ Ok y → (x : A × List ℕ) × (r ≡ Ok x) × (k x.0 x.1 ≡ Ok y)
after_ok (Ok x) k y e = (x, refl, e)
after_ok (Err d) k y e = absurd cc

-- which step of two stopped
pub after_err : {D A B : Type 0} (r : Result (A × List ℕ) D) (k : A → List ℕ → Result (B × List ℕ) D) (d : D) → after r k ≡ Err d → (r ≡ Err d) ⊎ (x : A × List ℕ) × (r ≡ Ok x) × (k x.0 x.1 ≡ Err d)
after_err (Ok x) k d e = inr (x, refl, e)
after_err (Err c) k d e = inl cc

-- which way a test went
pub chosen : {A : Type 0} (b : Bool) (x y z : A) → cond b x y ≡ z → ((b ≡ true) × (x ≡ z)) ⊎ ((b ≡ false) × (y ≡ z))
chosen true x y z e = inl (refl, e)
chosen false x y z e = inr (refl, e)

-- a test that did not stop
pub guard_ok : {D A : Type 0} (b : Bool) (d : D) (x y : A) → cond b (Err d) (Ok x) ≡ Ok y → (b ≡ false) × (x ≡ y)
guard_ok true d x y e = absurd cc
guard_ok false d x y e = (refl, cc)

-- what a reader took from the front
pub record Takes (bytes text rest : List ℕ) : Type 0 where
  pub parts : bytes ≡ text ++ rest
  pub rest_fits : IsBytes rest

pub Takes-then : (a x b y c : List ℕ) → Takes a x b → Takes b y c → Takes a (x ++ y) c
Takes-then a x b y c p q = record { parts = p.parts ∙ ap (λ (t : List ℕ). x ++ t) q.parts ∙ sym (append_assoc x y c); rest_fits = q.rest_fits }

-- ---- numbers

pub record IsWide (w : Width) (limit : ℕ) : Type 0 where
  pub len : (n : ℕ) → length (to_be_bytes w n) ≡ byte_len w
  pub back : (bytes : List ℕ) → length bytes ≡ byte_len w → IsBytes bytes → to_be_bytes w (from_be_bytes w bytes) ≡ bytes
  pub again : (n : ℕ) → n < limit → from_be_bytes w (to_be_bytes w n) ≡ n
  pub below : (bytes : List ℕ) → IsBytes bytes → from_be_bytes w bytes < limit

pub wide32 : IsWide w32 (2 ^ 32)
wide32 = record {
  len = λ n. refl;
  back = λ bytes len fits. be_bytes_4 bytes _ len fits refl;
  again = λ n lt. from_be_bytes-to_be_bytes_4 n lt;
  below = λ bytes fits. omega (arith, fits 0, fits 1, fits 2, fits 3);
}

pub wide64 : IsWide w64 (2 ^ 64)
wide64 = record {
  len = λ n. refl;
  back = λ bytes len fits. be_bytes_8 bytes _ len fits refl;
  again = λ n lt. from_be_bytes-to_be_bytes_8 n lt;
  below = λ bytes fits. omega (arith, fits 0, fits 1, fits 2, fits 3, fits 4, fits 5, fits 6, fits 7);
}

pub number_takes : (w : Width) (limit : ℕ) (wide : IsWide w limit) (bytes : List ℕ) (n : ℕ) (rest : List ℕ) → IsBytes bytes → number_at w bytes ≡ Ok (n, rest) → Takes bytes (to_be_bytes w n) rest × (n < limit)
number_takes w limit wide bytes n rest fits e =
    let g = guard_ok (ltb (length bytes) (byte_len w)) Short (from_be_bytes w (take (byte_len w) bytes), drop (byte_len w) bytes) (n, rest) e in
    let long : byte_len w ≤ length bytes = ltb-false _ _ g.0 in
    let n-is : from_be_bytes w (take (byte_len w) bytes) ≡ n = ap (λ (p : ℕ × List ℕ). p.0) g.1 in
    let rest-is : drop (byte_len w) bytes ≡ rest = ap (λ (p : ℕ × List ℕ). p.1) g.1 in
    let front : to_be_bytes w n ≡ take (byte_len w) bytes = rw (← n-is) (wide.back (take (byte_len w) bytes) (omega (arith, length-take (byte_len w) bytes)) (IsBytes-take (byte_len w) bytes fits)) in
    (record { parts = rw (front, ← rest-is) (sym (take-append-drop (byte_len w) bytes)); rest_fits = rw (← rest-is) (IsBytes-drop (byte_len w) bytes fits) }, rw (← n-is) (wide.below (take (byte_len w) bytes) (IsBytes-take (byte_len w) bytes fits)))

pub number_again : (w : Width) (limit : ℕ) (wide : IsWide w limit) (n : ℕ) (rest : List ℕ) → n < limit → number_at w (to_be_bytes w n ++ rest) ≡ Ok (n, rest)
number_again w limit wide n rest lt =
    let len = wide.len n in
    let long : ltb (length (to_be_bytes w n ++ rest)) (byte_len w) ≡ false = le-ltb _ _ (omega (arith, length-append (to_be_bytes w n) rest)) in
    rw (long, take_at (to_be_bytes w n) rest (byte_len w) len, drop_at (to_be_bytes w n) rest (byte_len w) len, wide.again n lt) refl

-- ---- n bytes and their pad

pub padded_takes : (n : ℕ) (bytes v rest : List ℕ) → IsBytes bytes → padded_at n bytes ≡ Ok (v, rest) → (length v ≡ n) × (pad : List ℕ) × (length pad ≡ padding n) × Takes bytes (v ++ pad) rest
padded_takes n bytes v rest fits e =
    let pad : List ℕ = take (padding n) (drop n bytes) in
    let back : List ℕ = drop (padding n) (drop n bytes) in
    let g = guard_ok (ltb (length bytes) (n + padding n)) Short (take n bytes, back) (v, rest) e in
    let long : n + padding n ≤ length bytes = ltb-false _ _ g.0 in
    let parts : bytes ≡ (take n bytes ++ pad) ++ back = rw (append_assoc, take-append-drop (padding n) (drop n bytes), take-append-drop n bytes) refl in
    let len : length (take n bytes) ≡ n = omega (arith, length-take n bytes) in
    let pad_len : length pad ≡ padding n = omega (arith, length-take (padding n) (drop n bytes), length-drop n bytes) in
    let takes : Takes bytes (take n bytes ++ pad) back = record { parts = parts; rest_fits = IsBytes-drop (padding n) (drop n bytes) (IsBytes-drop n bytes fits) } in
    subst (λ (p : List ℕ × List ℕ). (length p.0 ≡ n) × (pad : List ℕ) × (length pad ≡ padding n) × Takes bytes (p.0 ++ pad) p.1) g.1 (len, pad, pad_len, takes)

pub padded_again : (n : ℕ) (v pad rest : List ℕ) → length v ≡ n → length pad ≡ padding n → padded_at n ((v ++ pad) ++ rest) ≡ Ok (v, rest)
padded_again n v pad rest e f =
    let long : ltb (length ((v ++ pad) ++ rest)) (n + padding n) ≡ false = le-ltb _ _ (omega (arith, length-append (v ++ pad) rest, length-append v pad)) in
    let group : (v ++ pad) ++ rest ≡ v ++ (pad ++ rest) = append_assoc v pad rest in
    let front : take n ((v ++ pad) ++ rest) ≡ v = rw group (take_at v (pad ++ rest) n e) in
    let mid : drop n ((v ++ pad) ++ rest) ≡ pad ++ rest = rw group (drop_at v (pad ++ rest) n e) in
    rw (long, front, mid, drop_at pad rest (padding n) f) refl

-- ---- laws of the items

pub word_takes : (bytes : List ℕ) (x : ℕ × List ℕ) → IsBytes bytes → number_at w32 bytes ≡ Ok x → Takes bytes (to_be_bytes w32 x.0) x.1 × (x.0 < 2 ^ 32)
word_takes bytes x fits e = number_takes w32 (2 ^ 32) wide32 bytes x.0 x.1 fits e

pub word_again : (n : ℕ) (rest : List ℕ) → n < 2 ^ 32 → number_at w32 (to_be_bytes w32 n ++ rest) ≡ Ok (n, rest)
word_again n rest lt = number_again w32 (2 ^ 32) wide32 n rest lt

-- the value is spelled at the front
pub record Found {E A : Type 0} (f : Format E A) (bytes : List ℕ) (x : A) (rest : List ℕ) : Type 0 where
  pub front : List ℕ
  pub spelled : Spells f x front
  pub takes : Takes bytes front rest

pub count_takes : {E : Type 0} (max : ℕ) (bytes : List ℕ) (x : ℕ × List ℕ) → IsBytes bytes → count_at max bytes ≡ Ok x → Found {E = E} (Count max) bytes x.0 x.1
count_takes {E} max bytes x fits e =
    let a = after_ok (number_at w32 bytes) (λ n rest. cond (ltb max n) (Err TooLong) (Ok (n, rest))) x e in
    let g = guard_ok (ltb max a.0.0) TooLong a.0 x a.2 in
    let t = word_takes bytes a.0 fits a.1 in
    subst (λ (p : ℕ × List ℕ). Found {E = E} (Count max) bytes p.0 p.1) g.1 (record { front = to_be_bytes w32 a.0.0; spelled = (ltb-false _ _ g.0, t.1, refl); takes = t.0 })

-- a number that is read passes the test
passing_takes : (w : Width) (limit : ℕ) (wide : IsWide w limit) (test : ℕ → Bool) (bytes : List ℕ) (x : ℕ × List ℕ) → IsBytes bytes → passing_at w test bytes ≡ Ok x → (test x.0 ≡ true) × (x.0 < limit) × Takes bytes (to_be_bytes w x.0) x.1
passing_takes w limit wide test bytes x fits e =
    let a = after_ok (number_at w bytes) (λ n rest. cond (test n) (Ok (n, rest)) (Err BadBool)) x e in
    let t = number_takes w limit wide bytes a.0.0 a.0.1 fits a.1 in
    elim (chosen (test a.0.0) (Ok a.0) (Err BadBool) (Ok x) a.2) [
      | inl on ↦
          let same : a.0 ≡ x = let e = on.1 in cc in
          subst (λ (p : ℕ × List ℕ). (test p.0 ≡ true) × (p.0 < limit) × Takes bytes (to_be_bytes w p.0) p.1) same (on.0, t.1, t.0)
      | inr off ↦ absurd (let e = off.1 in cc)
    ]

passing_again : (w : Width) (limit : ℕ) (wide : IsWide w limit) (test : ℕ → Bool) (n : ℕ) (rest : List ℕ) → test n ≡ true → n < limit → passing_at w test (to_be_bytes w n ++ rest) ≡ Ok (n, rest)
passing_again w limit wide test n rest passes lt = rw (number_again w limit wide n rest lt, passes) refl

pub among_takes : {E : Type 0} (test : ℕ → Bool) (bytes : List ℕ) (x : ℕ × List ℕ) → IsBytes bytes → among_at test bytes ≡ Ok x → Found {E = E} (Among test) bytes x.0 x.1
among_takes test bytes x fits e = let t = passing_takes w32 (2 ^ 32) wide32 test bytes x fits e in record { front = to_be_bytes w32 x.0; spelled = (t.0, t.1, refl); takes = t.2 }

pub among_again : (test : ℕ → Bool) (n : ℕ) (rest : List ℕ) → test n ≡ true → n < 2 ^ 32 → among_at test (to_be_bytes w32 n ++ rest) ≡ Ok (n, rest)
among_again test n rest passes lt = passing_again w32 (2 ^ 32) wide32 test n rest passes lt

pub long_among_takes : {E : Type 0} (test : ℕ → Bool) (bytes : List ℕ) (x : ℕ × List ℕ) → IsBytes bytes → long_among_at test bytes ≡ Ok x → Found {E = E} (LongAmong test) bytes x.0 x.1
long_among_takes test bytes x fits e = let t = passing_takes w64 (2 ^ 64) wide64 test bytes x fits e in record { front = to_be_bytes w64 x.0; spelled = (t.0, t.1, refl); takes = t.2 }

pub long_among_again : (test : ℕ → Bool) (n : ℕ) (rest : List ℕ) → test n ≡ true → n < 2 ^ 64 → long_among_at test (to_be_bytes w64 n ++ rest) ≡ Ok (n, rest)
long_among_again test n rest passes lt = passing_again w64 (2 ^ 64) wide64 test n rest passes lt

pub byte_takes : {E : Type 0} (test : ℕ → Bool) (bytes : List ℕ) (x : ℕ × List ℕ) → IsBytes bytes → byte_at test bytes ≡ Ok x → Found {E = E} (Byte test) bytes x.0 x.1
byte_takes test [] x fits e = absurd cc
byte_takes {E} test (b ∷ rest) x fits e =
    elim (chosen (test b) (Ok (b, rest)) (Err BadBool) (Ok x) e) [
      | inl on ↦
          let same : (b, rest) ≡ x = let e = on.1 in cc in
          subst (λ (p : ℕ × List ℕ). Found {E = E} (Byte test) (b ∷ rest) p.0 p.1) same (record { front = b ∷ []; spelled = (on.0, fits 0, refl); takes = record { parts = refl; rest_fits = IsBytes-back (b ∷ []) rest (b ∷ rest) refl fits } })
      | inr off ↦ absurd (let e = off.1 in cc)
    ]

pub byte_again : (test : ℕ → Bool) (n : ℕ) (rest : List ℕ) → test n ≡ true → byte_at test ((n ∷ []) ++ rest) ≡ Ok (n, rest)
byte_again test n rest passes = rw passes refl

pub count_again : (max n : ℕ) (rest : List ℕ) → n ≤ max → n < 2 ^ 32 → count_at max (to_be_bytes w32 n ++ rest) ≡ Ok (n, rest)
count_again max n rest le lt =
    let not_above : ltb max n ≡ false = le-ltb _ _ le in
    rw (word_again n rest lt, not_above) refl

boolean_is : {E : Type 0} (bytes : List ℕ) (n m : ℕ) (b : Bool) (rest : List ℕ) (x : Bool × List ℕ) → n ≡ m → (b, rest) ≡ x → number_of b ≡ m → Takes bytes (to_be_bytes w32 n) rest → Found {E = E} Boolean bytes x.0 x.1
boolean_is {E} bytes n m b rest x e f g t =
    let same : number_of b ≡ n = g ∙ sym e in
    subst (λ (p : Bool × List ℕ). Found {E = E} Boolean bytes p.0 p.1) f (record { front = to_be_bytes w32 n; spelled = ap (to_be_bytes w32) (sym same); takes = t })

pub boolean_takes : {E : Type 0} (bytes : List ℕ) (x : Bool × List ℕ) → IsBytes bytes → boolean_at bytes ≡ Ok x → Found {E = E} Boolean bytes x.0 x.1
boolean_takes bytes x fits e =
    let k : ℕ → List ℕ → Item Bool = λ n rest. cond (eqb n 0) (Ok (false, rest)) (cond (eqb n 1) (Ok (true, rest)) (Err BadBool)) in
    let a = after_ok (number_at w32 bytes) k x e in
    let t = word_takes bytes a.0 fits a.1 in
    elim (chosen (eqb a.0.0 0) (Ok (false, a.0.1)) (cond (eqb a.0.0 1) (Ok (true, a.0.1)) (Err BadBool)) (Ok x) a.2) [
      | inl off ↦ boolean_is bytes a.0.0 0 false a.0.1 x (eqb-true _ _ off.0) (cc) refl t.0
      | inr other ↦ elim (chosen (eqb a.0.0 1) (Ok (true, a.0.1)) (Err BadBool) (Ok x) other.1) [
        | inl on ↦ boolean_is bytes a.0.0 1 true a.0.1 x (eqb-true _ _ on.0) (cc) refl t.0
        | inr bad ↦ absurd cc
      ]
    ]

pub boolean_again : (b : Bool) (rest : List ℕ) → boolean_at (to_be_bytes w32 (number_of b) ++ rest) ≡ Ok (b, rest)
boolean_again true rest = rw (word_again 1 rest (omega arith)) refl
boolean_again false rest = rw (word_again 0 rest (omega arith)) refl

pub fixed_takes : {E : Type 0} (n : ℕ) (bytes : List ℕ) (x : List ℕ × List ℕ) → IsBytes bytes → padded_at n bytes ≡ Ok x → Found {E = E} (Fixed n) bytes x.0 x.1
fixed_takes n bytes x fits e =
    let t = padded_takes n bytes x.0 x.1 fits e in
    record { front = x.0 ++ t.1; spelled = (t.0, t.1, t.2, refl); takes = t.3 }

pub raw_takes : {E : Type 0} (n : ℕ) (bytes : List ℕ) (x : List ℕ × List ℕ) → IsBytes bytes → raw_at n bytes ≡ Ok x → Found {E = E} (Raw n) bytes x.0 x.1
raw_takes {E} n bytes x fits e =
    let g = guard_ok (ltb (length bytes) n) Short (take n bytes, drop n bytes) x e in
    let long : n ≤ length bytes = ltb-false _ _ g.0 in
    let len : length (take n bytes) ≡ n = omega (arith, length-take n bytes) in
    subst (λ (p : List ℕ × List ℕ). Found {E = E} (Raw n) bytes p.0 p.1) g.1 (record { front = take n bytes; spelled = (len, refl); takes = record { parts = sym (take-append-drop n bytes); rest_fits = IsBytes-drop n bytes fits } })

pub raw_again : (n : ℕ) (v rest : List ℕ) → length v ≡ n → raw_at n (v ++ rest) ≡ Ok (v, rest)
raw_again n v rest e =
    let long : ltb (length (v ++ rest)) n ≡ false = le-ltb _ _ (omega (arith, length-append v rest)) in
    rw (long, take_at v rest n e, drop_at v rest n e) refl

pub opaque_takes : {E : Type 0} (max : ℕ) (bytes : List ℕ) (x : List ℕ × List ℕ) → IsBytes bytes → opaque_at max bytes ≡ Ok x → Found {E = E} (Opaque max) bytes x.0 x.1
opaque_takes {E} max bytes x fits e =
    let a = after_ok (count_at max bytes) (λ n rest. padded_at n rest) x e in
    let c = count_takes {E = E} max bytes a.0 fits a.1 in
    let rest_fits : IsBytes a.0.1 = c.takes.rest_fits in
    let t = padded_takes a.0.0 a.0.1 x.0 x.1 rest_fits a.2 in
    let len : length x.0 ≡ a.0.0 = t.0 in
    let word : c.front ≡ to_be_bytes w32 (length x.0) = c.spelled.2 ∙ ap (to_be_bytes w32) (sym len) in
    let both : Takes bytes (c.front ++ (x.0 ++ t.1)) x.1 = Takes-then bytes c.front a.0.1 (x.0 ++ t.1) x.1 c.takes t.3 in
    record {
      front = c.front ++ (x.0 ++ t.1);
      spelled = (rw len c.spelled.0, rw len c.spelled.1, t.1, rw len t.2, ap (λ (w : List ℕ). w ++ (x.0 ++ t.1)) word);
      takes = both;
    }

pub opaque_again : (max : ℕ) (v pad rest : List ℕ) → length v ≤ max → length v < 2 ^ 32 → length pad ≡ padding (length v) → opaque_at max ((to_be_bytes w32 (length v) ++ (v ++ pad)) ++ rest) ≡ Ok (v, rest)
opaque_again max v pad rest le lt pads =
    let text : List ℕ = (to_be_bytes w32 (length v) ++ (v ++ pad)) ++ rest in
    let group : text ≡ to_be_bytes w32 (length v) ++ ((v ++ pad) ++ rest) = append_assoc (to_be_bytes w32 (length v)) (v ++ pad) rest in
    let count : count_at max text ≡ Ok (length v, (v ++ pad) ++ rest) = ap (count_at max) group ∙ count_again max (length v) ((v ++ pad) ++ rest) le lt in
    ap (λ (r : Item ℕ). after r (λ n rest. padded_at n rest)) count ∙ padded_again (length v) v pad rest refl pads

-- a length word that passes a test, and so many bytes
pub opaque_of_takes : {E : Type 0} (test : ℕ → Bool) (bytes : List ℕ) (x : List ℕ × List ℕ) → IsBytes bytes → opaque_of_at test bytes ≡ Ok x → Found {E = E} (OpaqueOf test) bytes x.0 x.1
opaque_of_takes {E} test bytes x fits e =
    let a = after_ok (among_at test bytes) (λ n rest. padded_at n rest) x e in
    let c = among_takes {E = E} test bytes a.0 fits a.1 in
    let rest_fits : IsBytes a.0.1 = c.takes.rest_fits in
    let t = padded_takes a.0.0 a.0.1 x.0 x.1 rest_fits a.2 in
    let len : length x.0 ≡ a.0.0 = t.0 in
    let word : c.front ≡ to_be_bytes w32 (length x.0) = c.spelled.2 ∙ ap (to_be_bytes w32) (sym len) in
    let both : Takes bytes (c.front ++ (x.0 ++ t.1)) x.1 = Takes-then bytes c.front a.0.1 (x.0 ++ t.1) x.1 c.takes t.3 in
    record {
      front = c.front ++ (x.0 ++ t.1);
      spelled = (rw len c.spelled.0, rw len c.spelled.1, t.1, rw len t.2, ap (λ (w : List ℕ). w ++ (x.0 ++ t.1)) word);
      takes = both;
    }

pub opaque_of_again : (test : ℕ → Bool) (v pad rest : List ℕ) → test (length v) ≡ true → length v < 2 ^ 32 → length pad ≡ padding (length v) → opaque_of_at test ((to_be_bytes w32 (length v) ++ (v ++ pad)) ++ rest) ≡ Ok (v, rest)
opaque_of_again test v pad rest passes lt pads =
    let text : List ℕ = (to_be_bytes w32 (length v) ++ (v ++ pad)) ++ rest in
    let group : text ≡ to_be_bytes w32 (length v) ++ ((v ++ pad) ++ rest) = append_assoc (to_be_bytes w32 (length v)) (v ++ pad) rest in
    let count : among_at test text ≡ Ok (length v, (v ++ pad) ++ rest) = ap (among_at test) group ∙ among_again test (length v) ((v ++ pad) ++ rest) passes lt in
    ap (λ (r : Item ℕ). after r (λ n rest. padded_at n rest)) count ∙ padded_again (length v) v pad rest refl pads

-- ---- an item is read, or is a fault where it begins

pub here_ok : {E A : Type 0} (bytes : List ℕ) (i : Item A) (x : A × List ℕ) → here {E = E} bytes i ≡ Ok x → i ≡ Ok x
here_ok bytes (Ok y) x e = cc
here_ok bytes (Err c) x e = absurd cc

abbrev pub Whole : {E A : Type 0} → Read E A → List ℕ → Type 0
Whole {E} {A} r bytes = ((x : A × List ℕ) × (r ≡ Ok x)) ⊎ ((e : XdrError) × (r ≡ Err (Fault e bytes)))

pub whole : {E A : Type 0} (bytes : List ℕ) (i : Item A) → Whole {E = E} (here bytes i) bytes
whole bytes (Ok x) = inl (x, refl)
whole bytes (Err c) = inr (c, refl)
