-- When each item is refused, and why.
use Rattle.std.proofs.Common.{◌≡◌, ◌≢◌, ◌⊎◌, ℕ, ◌+◌, ◌<◌, ◌≤◌, Bool, true, false, cond, ltb, eqb, List, length, take, drop, Ok, Err, refl, arith, inl, inr}
use Rattle.std.specs.Int.{Width, w32, byte_len, from_be_bytes}
use Rattle.std.proofs.lemmas.Bool.{cases_lt, lt-ltb, le-ltb, eqb-true, eqb-false}
use Rattle.std.proofs.lemmas.List.{length-drop}
use Rattle.lnfs_xdr.specs.declared.error.XdrError.TheVariants.{Short, BadBool, TooLong}
use Rattle.lnfs_xdr.specs.Format.{padding}
use Rattle.lnfs_xdr.specs.Reading.{number_at, boolean_at, count_at, padded_at, opaque_at, raw_at}
use Rattle.lnfs_xdr.specs.Promises.{Refused, first_word, LacksBytes}

-- a value is no refusal
given : {A : Type 0} (x : A × List ℕ) (P Q R : Type 0) → (P → ⊥) → (Q → ⊥) → (R → ⊥) → Refused (Ok x) P Q R
given x P Q R p q r = record { as_short = (λ e. absurd cc, λ h. absurd (p h)); as_bad_bool = (λ e. absurd cc, λ h. absurd (q h)); as_too_long = (λ e. absurd cc, λ h. absurd (r h)) }

short : {A : Type 0} (P Q R : Type 0) → P → (Q → ⊥) → (R → ⊥) → Refused {A = A} (Err Short) P Q R
short P Q R p q r = record { as_short = (λ e. p, λ h. refl); as_bad_bool = (λ e. absurd cc, λ h. absurd (q h)); as_too_long = (λ e. absurd cc, λ h. absurd (r h)) }

bad_bool : {A : Type 0} (P Q R : Type 0) → (P → ⊥) → Q → (R → ⊥) → Refused {A = A} (Err BadBool) P Q R
bad_bool P Q R p q r = record { as_short = (λ e. absurd cc, λ h. absurd (p h)); as_bad_bool = (λ e. q, λ h. refl); as_too_long = (λ e. absurd cc, λ h. absurd (r h)) }

too_long : {A : Type 0} (P Q R : Type 0) → (P → ⊥) → (Q → ⊥) → R → Refused {A = A} (Err TooLong) P Q R
too_long P Q R p q r = record { as_short = (λ e. absurd cc, λ h. absurd (p h)); as_bad_bool = (λ e. absurd cc, λ h. absurd (q h)); as_too_long = (λ e. r, λ h. refl) }

-- a test on the length
guarded : {A : Type 0} (have need : ℕ) (x : A × List ℕ) → Refused (cond (ltb have need) (Err Short) (Ok x)) (have < need) ⊥ ⊥
guarded {A} have need x =
    elim (cases_lt have need) [
      | inl lt ↦ rw (lt-ltb have need lt) (short {A = A} (have < need) ⊥ ⊥ lt (λ q. q) (λ q. q))
      | inr le ↦ rw (le-ltb have need le) (given x (have < need) ⊥ ⊥ (λ h. omega arith) (λ q. q) (λ q. q))
    ]

pub number_refused : (w : Width) (bytes : List ℕ) → Refused (number_at w bytes) (length bytes < byte_len w) ⊥ ⊥
number_refused w bytes = guarded (length bytes) (byte_len w) (from_be_bytes w (take (byte_len w) bytes), drop (byte_len w) bytes)

pub fixed_refused : (n : ℕ) (bytes : List ℕ) → Refused (padded_at n bytes) (length bytes < n + padding n) ⊥ ⊥
fixed_refused n bytes = guarded (length bytes) (n + padding n) (take n bytes, drop (padding n) (drop n bytes))

pub raw_refused : (n : ℕ) (bytes : List ℕ) → Refused (raw_at n bytes) (length bytes < n) ⊥ ⊥
raw_refused n bytes = guarded (length bytes) n (take n bytes, drop n bytes)

word_missing : (bytes : List ℕ) → length bytes < 4 → number_at w32 bytes ≡ Err Short
word_missing bytes lt = rw (lt-ltb (length bytes) 4 lt) refl

word_there : (bytes : List ℕ) → 4 ≤ length bytes → number_at w32 bytes ≡ Ok (first_word bytes, drop 4 bytes)
word_there bytes le = rw (le-ltb (length bytes) 4 le) refl

chosen_test : (b : Bool) → (b ≡ true) ⊎ (b ≡ false)
chosen_test true = inl refl
chosen_test false = inr refl

-- which way a test for a number goes
chosen_eq : (n m : ℕ) → ((n ≡ m) × (eqb n m ≡ true)) ⊎ ((n ≢ m) × (eqb n m ≡ false))
chosen_eq n m =
    elim (chosen_test (eqb n m)) [
      | inl on ↦ inl (eqb-true n m on, on)
      | inr off ↦ inr (eqb-false n m off, off)
    ]

boolean_there : (P : Type 0) (n : ℕ) (rest : List ℕ) → (P → ⊥) → (long : Type 0) → long → Refused (cond (eqb n 0) (Ok (false, rest)) (cond (eqb n 1) (Ok (true, rest)) (Err BadBool))) P (long × (n ≢ 0) × (n ≢ 1)) ⊥
boolean_there P n rest not_short long l =
    elim (chosen_eq n 0) [
      | inl zero ↦ rw zero.1 (given (false, rest) P (long × (n ≢ 0) × (n ≢ 1)) ⊥ not_short (λ q. q.1 zero.0) (λ q. q))
      | inr some ↦ elim (chosen_eq n 1) [
        | inl one ↦ rw (some.1, one.1) (given (true, rest) P (long × (n ≢ 0) × (n ≢ 1)) ⊥ not_short (λ q. q.2 one.0) (λ q. q))
        | inr other ↦ rw (some.1, other.1) (bad_bool {A = Bool} P (long × (n ≢ 0) × (n ≢ 1)) ⊥ not_short (l, some.0, other.0) (λ q. q))
      ]
    ]

pub boolean_refused : (bytes : List ℕ) → Refused (boolean_at bytes) (length bytes < 4) ((4 ≤ length bytes) × (first_word bytes ≢ 0) × (first_word bytes ≢ 1)) ⊥
boolean_refused bytes =
    elim (cases_lt (length bytes) 4) [
      | inl lt ↦ rw (word_missing bytes lt) (short {A = Bool} (length bytes < 4) ((4 ≤ length bytes) × (first_word bytes ≢ 0) × (first_word bytes ≢ 1)) ⊥ lt (λ q. absurd (omega (arith, q.0))) (λ q. q))
      | inr le ↦ rw (word_there bytes le) (boolean_there (length bytes < 4) (first_word bytes) (drop 4 bytes) (λ h. omega arith) (4 ≤ length bytes) le)
    ]

pub count_refused : (max : ℕ) (bytes : List ℕ) → Refused (count_at max bytes) (length bytes < 4) ⊥ ((4 ≤ length bytes) × (max < first_word bytes))
count_refused max bytes =
    let P : Type 0 = length bytes < 4 in
    let R : Type 0 = (4 ≤ length bytes) × (max < first_word bytes) in
    elim (cases_lt (length bytes) 4) [
      | inl lt ↦ rw (word_missing bytes lt) (short {A = ℕ} P ⊥ R lt (λ q. q) (λ r. absurd (omega (arith, r.0))))
      | inr le ↦ elim (cases_lt max (first_word bytes)) [
        | inl above ↦ rw (word_there bytes le, lt-ltb max (first_word bytes) above) (too_long {A = ℕ} P ⊥ R (λ p. omega arith) (λ q. q) (le, above))
        | inr within ↦ rw (word_there bytes le, le-ltb max (first_word bytes) within) (given (first_word bytes, drop 4 bytes) P ⊥ R (λ p. omega arith) (λ q. q) (λ r. absurd (omega (arith, r.1))))
      ]
    ]

pub opaque_refused : (max : ℕ) (bytes : List ℕ) → Refused (opaque_at max bytes) (LacksBytes max bytes) ⊥ ((4 ≤ length bytes) × (max < first_word bytes))
opaque_refused max bytes =
    let P : Type 0 = LacksBytes max bytes in
    let R : Type 0 = (4 ≤ length bytes) × (max < first_word bytes) in
    let n : ℕ = first_word bytes in
    elim (cases_lt (length bytes) 4) [
      | inl lt ↦ rw (word_missing bytes lt) (short {A = List ℕ} P ⊥ R (inl lt) (λ q. q) (λ r. absurd (omega (arith, r.0))))
      | inr le ↦ elim (cases_lt max n) [
        | inl above ↦ rw (word_there bytes le, lt-ltb max n above) (too_long {A = List ℕ} P ⊥ R (λ p. elim p [ inl few ↦ absurd (omega arith) | inr w ↦ absurd (omega (arith, w.0)) ]) (λ q. q) (le, above))
        | inr within ↦ rw (word_there bytes le, le-ltb max n within) (
            elim (cases_lt (length (drop 4 bytes)) (n + padding n)) [
              | inl few ↦ rw (lt-ltb (length (drop 4 bytes)) (n + padding n) few) (short {A = List ℕ} P ⊥ R (inr (within, omega (arith, length-drop 4 bytes))) (λ q. q) (λ r. absurd (omega (arith, r.1))))
              | inr enough ↦ rw (le-ltb (length (drop 4 bytes)) (n + padding n) enough) (given (take n (drop 4 bytes), drop (padding n) (drop n (drop 4 bytes))) P ⊥ R (λ p. elim p [ inl few ↦ absurd (omega arith) | inr w ↦ absurd (omega (arith, w.1, length-drop 4 bytes)) ]) (λ q. q) (λ r. absurd (omega (arith, r.1))))
            ])
      ]
    ]
