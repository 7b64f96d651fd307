-- Spellings, field by field.
use Rattle.std.proofs.Common.{◌≡◌, ℕ, ◌^◌, ◌<◌, ◌≤◌, Bool, true, false, List, [], ◌∷◌, ◌++◌, length, All, take, refl, sym, ap, subst, arith}
use Rattle.std.specs.List.{flat_map, AllByRecursion}
use Rattle.std.proofs.lemmas.List.{append-nil, length-take}
use Rattle.std.proofs.lemmas.List.Concat.{flat_map-cons}
use Rattle.std.proofs.lemmas.List.Elements.{recursion_from_All}
use Rattle.lnfs_xdr.specs.Format.{Format, Word, Long, Boolean, Count, Among, LongAmong, Byte, Opaque, Fixed, Raw, Done, If, Then, padding, Spells, times, array}
use Rattle.lnfs_xdr.specs.Canon.{word, long, byte, flag, padded, opaque, zeros}

-- the bytes are a spelling
pub record Spelled {E A : Type 0} (f : Format E A) (x : A) (bytes : List ℕ) : Type 0 where
  pub is : Spells f x bytes

pub word_spelled : {E : Type 0} (n : ℕ) → n < 2 ^ 32 → Spelled {E = E} Word n (word n)
unfolding word
word_spelled n lt = record { is = (lt, refl) }

pub long_spelled : {E : Type 0} (n : ℕ) → n < 2 ^ 64 → Spelled {E = E} Long n (long n)
unfolding long
long_spelled n lt = record { is = (lt, refl) }

pub flag_spelled : {E : Type 0} (b : Bool) → Spelled {E = E} Boolean b (flag b)
unfolding flag
flag_spelled b = record { is = refl }

pub count_spelled : {E : Type 0} (max n : ℕ) → n ≤ max → n < 2 ^ 32 → Spelled {E = E} (Count max) n (word n)
unfolding word
count_spelled max n le lt = record { is = (le, lt, refl) }

pub among_spelled : {E : Type 0} (test : ℕ → Bool) (n : ℕ) → test n ≡ true → n < 2 ^ 32 → Spelled {E = E} (Among test) n (word n)
unfolding word
among_spelled test n passes lt = record { is = (passes, lt, refl) }

pub long_among_spelled : {E : Type 0} (test : ℕ → Bool) (n : ℕ) → test n ≡ true → n < 2 ^ 64 → Spelled {E = E} (LongAmong test) n (long n)
unfolding long
long_among_spelled test n passes lt = record { is = (passes, lt, refl) }

pub byte_spelled : {E : Type 0} (test : ℕ → Bool) (n : ℕ) → test n ≡ true → n < 256 → Spelled {E = E} (Byte test) n (byte n)
unfolding byte
byte_spelled test n passes lt = record { is = (passes, lt, refl) }

pub raw_spelled : {E : Type 0} (n : ℕ) (v : List ℕ) → length v ≡ n → Spelled {E = E} (Raw n) v v
raw_spelled n v e = record { is = (e, refl) }

pub fixed_spelled : {E : Type 0} (n : ℕ) (v : List ℕ) → length v ≡ n → Spelled {E = E} (Fixed n) v (padded v)
unfolding padded
fixed_spelled n v e = record { is = (e, take (padding (length v)) zeros, omega (arith, length-take (padding (length v)) zeros, ap padding e), refl) }

pub opaque_spelled : {E : Type 0} (max : ℕ) (v : List ℕ) → length v ≤ max → length v < 2 ^ 32 → Spelled {E = E} (Opaque max) v (opaque v)
unfolding opaque padded word
opaque_spelled max v le lt = record { is = (le, lt, take (padding (length v)) zeros, omega (arith, length-take (padding (length v)) zeros), refl) }

pub done_spelled : {E A : Type 0} (x : A) → Spelled {E = E} (Done x) x []
done_spelled x = record { is = (refl, refl) }

infixr 5 ◌▸◌
-- a field, and those after it
pub ◌▸◌ : {E A B : Type 0} {f : Format E A} {k : A → Format E B} {a : A} {x : B} {front back : List ℕ} → Spelled f a front → Spelled (k a) x back → Spelled (Then f k) x (front ++ back)
◌▸◌ {a = a} {front = front} {back = back} p q = record { is = (a, front, back, p.is, q.is, refl) }

-- the last field
pub last : {E A B : Type 0} {f : Format E A} {k : A → Format E B} {a : A} {x : B} {front : List ℕ} → Spelled f a front → Spelled (k a) x [] → Spelled (Then f k) x front
last {a = a} {front = front} p q = record { is = (a, front, [], p.is, q.is, sym (append-nil front)) }

-- the same bytes in other groups
pub grouped : {E A : Type 0} {f : Format E A} {x : A} {a b : List ℕ} → Spelled f x a → a ≡ b → Spelled f x b
grouped {f = f} {x = x} p e = subst (Spelled f x) e p

-- a branch
pub on_true : {E A : Type 0} {f g : Format E A} {x : A} {bytes : List ℕ} → Spelled f x bytes → Spelled (If true f g) x bytes
on_true p = record { is = p.is }

pub on_false : {E A : Type 0} {f g : Format E A} {x : A} {bytes : List ℕ} → Spelled g x bytes → Spelled (If false f g) x bytes
on_false p = record { is = p.is }

pub on_other : {E A : Type 0} {f g : Format E A} {x : A} {bytes : List ℕ} (b : Bool) → b ≡ false → Spelled g x bytes → Spelled (If b f g) x bytes
on_other true e p = absurd cc
on_other false e p = record { is = p.is }

-- so many
pub times_spelled : {E A : Type 0} (f : Format E A) (text : A → List ℕ) (xs : List A) → AllByRecursion (λ x. Spelled f x (text x)) xs → Spelled (times (length xs) f) xs (flat_map text xs)
times_spelled f text [] all = done_spelled []
times_spelled f text (x ∷ xs) all = subst (λ (b : List ℕ). Spelled (times (length (x ∷ xs)) f) (x ∷ xs) b) (sym (flat_map-cons text x xs)) (all.0 ▸ last (times_spelled f text xs all.1) (done_spelled (x ∷ xs)))

each_spelled : {E A : Type 0} (f : Format E A) (text : A → List ℕ) (P : A → Type 0) (each : (x : A) → P x → Spelled f x (text x)) (xs : List A) → AllByRecursion P xs → AllByRecursion (λ x. Spelled f x (text x)) xs
each_spelled f text P each [] all = tt
each_spelled f text P each (x ∷ xs) all = (each x all.0, each_spelled f text P each xs all.1)

-- a count and that many
pub array_spelled : {E A : Type 0} (max : ℕ) (f : Format E A) (text : A → List ℕ) (P : A → Type 0) (each : (x : A) → P x → Spelled f x (text x)) (xs : List A) → length xs ≤ max → max < 2 ^ 32 → All P xs
    → Spelled (array max f) xs (word (length xs) ++ flat_map text xs)
array_spelled max f text P each xs le small all = count_spelled max (length xs) le (omega arith) ▸ times_spelled f text xs (each_spelled f text P each xs (recursion_from_All P xs all))
