-- Formats of RFC 4506, as data, and their grammar: the byte lists that spell a value of a format.
use Rattle.std.specs.Prelude.{◌≡◌, ◌⊎◌, ◌==◌, MatchBool, ◌∷◌, zero, suc, Option, Some, None, ℕ, ◌-◌, ◌%◌, ◌<◌, ◌≤◌, ◌^◌, Bool, true, false, List, [], ◌++◌, length}
use Rattle.std.specs.Int.{w32, w64, to_be_bytes}

-- What follows a field may depend on its value, so that a union is a choice by a word that was read.
pub data Format (E : Type 0) : Type 0 → Type 1 where
  -- an unsigned integer, section 4.2
  Word : Format E ℕ
  -- an unsigned hyper integer, section 4.5
  Long : Format E ℕ
  -- section 4.4
  Boolean : Format E Bool
  -- the length word of at most so many bytes or elements, sections 4.10 and 4.13
  Count : ℕ → Format E ℕ
  -- a word that passes a test, as an enumeration does, section 4.3
  Among : (ℕ → Bool) → Format E ℕ
  -- a hyper integer that passes a test
  LongAmong : (ℕ → Bool) → Format E ℕ
  -- a single byte that passes a test: no item of XDR
  Byte : (ℕ → Bool) → Format E ℕ
  -- at most so many bytes, section 4.10
  Opaque : ℕ → Format E (List ℕ)
  -- bytes whose number passes a test, section 4.10
  OpaqueOf : (ℕ → Bool) → Format E (List ℕ)
  -- so many bytes, section 4.9
  Fixed : ℕ → Format E (List ℕ)
  -- so many bytes with no pad: no item of XDR
  Raw : ℕ → Format E (List ℕ)
  -- here the format is left, and why
  Outside : {A : Type 0} → E → Format E A
  -- no bytes
  Done : {A : Type 0} → A → Format E A
  If : {A : Type 0} → Bool → Format E A → Format E A → Format E A
  Then : {A B : Type 0} → Format E A → (A → Format E B) → Format E B
  -- elements, each behind the word for TRUE, and then the word for FALSE, as the linked list of section 4.19
  Linked : {A : Type 0} → Format E A → Format E (List A)

infixl 10 ◌>>=◌
abbrev pub ◌>>=◌ : {E A B : Type 0} → Format E A → (A → Format E B) → Format E B
f >>= k = Then f k

infix 1 when◌then◌else◌
abbrev pub when◌then◌else◌ : {E A : Type 0} → Bool → Format E A → Format E A → Format E A
when b then f else g = If b f g

abbrev pub number_of : Bool → ℕ
number_of true = 1
number_of false = 0

-- how many bytes fill up a word, section 3
abbrev pub padding : ℕ → ℕ
padding n = (4 - n % 4) % 4

-- elements, each behind the word for TRUE
abbrev pub Chains : {A : Type 0} → (A → List ℕ → Type 0) → List A → List ℕ → Type 0
Chains S [] bytes = bytes ≡ []
Chains S (x ∷ xs) bytes = (front : List ℕ) × (back : List ℕ) × S x front × Chains S xs back × (bytes ≡ to_be_bytes w32 1 ++ (front ++ back))

-- The pad bytes may be any.
abbrev pub Spells : {E A : Type 0} → Format E A → A → List ℕ → Type 0
Spells Word n bytes = (n < 2 ^ 32) × (bytes ≡ to_be_bytes w32 n)
Spells Long n bytes = (n < 2 ^ 64) × (bytes ≡ to_be_bytes w64 n)
Spells Boolean b bytes = bytes ≡ to_be_bytes w32 (number_of b)
Spells (Count max) n bytes = (n ≤ max) × (n < 2 ^ 32) × (bytes ≡ to_be_bytes w32 n)
Spells (Among test) n bytes = (test n ≡ true) × (n < 2 ^ 32) × (bytes ≡ to_be_bytes w32 n)
Spells (LongAmong test) n bytes = (test n ≡ true) × (n < 2 ^ 64) × (bytes ≡ to_be_bytes w64 n)
Spells (Byte test) n bytes = (test n ≡ true) × (n < 256) × (bytes ≡ n ∷ [])
Spells (Opaque max) v bytes = (length v ≤ max) × (length v < 2 ^ 32) × (pad : List ℕ) × (length pad ≡ padding (length v)) × (bytes ≡ to_be_bytes w32 (length v) ++ (v ++ pad))
Spells (OpaqueOf test) v bytes = (test (length v) ≡ true) × (length v < 2 ^ 32) × (pad : List ℕ) × (length pad ≡ padding (length v)) × (bytes ≡ to_be_bytes w32 (length v) ++ (v ++ pad))
Spells (Fixed n) v bytes = (length v ≡ n) × (pad : List ℕ) × (length pad ≡ padding n) × (bytes ≡ v ++ pad)
Spells (Raw n) v bytes = (length v ≡ n) × (bytes ≡ v)
Spells (Outside status) x bytes = ⊥
Spells (Done y) x bytes = (y ≡ x) × (bytes ≡ [])
Spells (If b f g) x bytes = MatchBool b (Spells f x bytes) (Spells g x bytes)
Spells (Then {A} f k) x bytes = (a : A) × (front : List ℕ) × (back : List ℕ) × Spells f a front × Spells (k a) x back × (bytes ≡ front ++ back)
Spells (Linked f) xs bytes = (front : List ℕ) × Chains (Spells f) xs front × (bytes ≡ front ++ to_be_bytes w32 0)

-- no value of the format stands at the front
abbrev pub NoneAt : {E A : Type 0} → Format E A → List ℕ → Type 0
NoneAt {A} f bytes = (x : A) (front rest : List ℕ) → Spells f x front → bytes ≡ front ++ rest → ⊥

-- The items before `stuck` are there, and the next one is not.
abbrev pub Stuck : {E A : Type 0} → Format E A → List ℕ → List ℕ → Type 0
Stuck {E} Word bytes stuck = NoneAt {E = E} Word bytes × (bytes ≡ stuck)
Stuck {E} Long bytes stuck = NoneAt {E = E} Long bytes × (bytes ≡ stuck)
Stuck {E} Boolean bytes stuck = NoneAt {E = E} Boolean bytes × (bytes ≡ stuck)
Stuck {E} (Count max) bytes stuck = NoneAt {E = E} (Count max) bytes × (bytes ≡ stuck)
Stuck {E} (Among test) bytes stuck = NoneAt {E = E} (Among test) bytes × (bytes ≡ stuck)
Stuck {E} (LongAmong test) bytes stuck = NoneAt {E = E} (LongAmong test) bytes × (bytes ≡ stuck)
Stuck {E} (Byte test) bytes stuck = NoneAt {E = E} (Byte test) bytes × (bytes ≡ stuck)
Stuck {E} (Opaque max) bytes stuck = NoneAt {E = E} (Opaque max) bytes × (bytes ≡ stuck)
Stuck {E} (OpaqueOf test) bytes stuck = NoneAt {E = E} (OpaqueOf test) bytes × (bytes ≡ stuck)
Stuck {E} (Fixed n) bytes stuck = NoneAt {E = E} (Fixed n) bytes × (bytes ≡ stuck)
Stuck {E} (Raw n) bytes stuck = NoneAt {E = E} (Raw n) bytes × (bytes ≡ stuck)
Stuck {E} (Outside status) bytes stuck = ⊥
Stuck {E} (Done y) bytes stuck = ⊥
Stuck {E} (If b f g) bytes stuck = MatchBool b (Stuck f bytes stuck) (Stuck g bytes stuck)
Stuck {E} (Then {A} f k) bytes stuck = Stuck f bytes stuck ⊎ (a : A) × (front : List ℕ) × (back : List ℕ) × Spells f a front × (bytes ≡ front ++ back) × Stuck (k a) back stuck
Stuck {E} (Linked {A} f) bytes stuck =
    (xs : List A) × (front : List ℕ) × (back : List ℕ) × Chains (Spells f) xs front × (bytes ≡ front ++ back)
    × ((NoneAt {E = E} Boolean back × (back ≡ stuck)) ⊎ ((rest : List ℕ) × (back ≡ to_be_bytes w32 1 ++ rest) × Stuck f rest stuck))

-- The items before are there, and then the format leaves what is read here.
abbrev pub Leaving : {E A : Type 0} → Format E A → List ℕ → E → Type 0
Leaving Word bytes status = ⊥
Leaving Long bytes status = ⊥
Leaving Boolean bytes status = ⊥
Leaving (Count max) bytes status = ⊥
Leaving (Among test) bytes status = ⊥
Leaving (LongAmong test) bytes status = ⊥
Leaving (Byte test) bytes status = ⊥
Leaving (Opaque max) bytes status = ⊥
Leaving (OpaqueOf test) bytes status = ⊥
Leaving (Fixed n) bytes status = ⊥
Leaving (Raw n) bytes status = ⊥
Leaving (Outside e) bytes status = e ≡ status
Leaving (Done y) bytes status = ⊥
Leaving (If b f g) bytes status = MatchBool b (Leaving f bytes status) (Leaving g bytes status)
Leaving (Then {A} f k) bytes status = Leaving f bytes status ⊎ (a : A) × (front : List ℕ) × (back : List ℕ) × Spells f a front × (bytes ≡ front ++ back) × Leaving (k a) back status
Leaving (Linked {A} f) bytes status = (xs : List A) × (front : List ℕ) × (rest : List ℕ) × Chains (Spells f) xs front × (bytes ≡ front ++ (to_be_bytes w32 1 ++ rest)) × Leaving f rest status

-- so many of a format, section 4.12
abbrev pub times : {E A : Type 0} → ℕ → Format E A → Format E (List A)
times zero f = Done []
times (suc n) f = f >>= λ x. times n f >>= λ xs. Done (x ∷ xs)

-- a count, and that many, section 4.13
abbrev pub array : {E A : Type 0} → ℕ → Format E A → Format E (List A)
array max f = Count max >>= λ n. times n f

-- a count of 0 or 1, section 4.19
abbrev pub optional : {E A : Type 0} → Format E A → Format E (Option A)
optional f = Count 1 >>= λ n. when n == 0 then Done None else (f >>= λ x. Done (Some x))
