-- What holds of whatever a format reads.
use Rattle.std.proofs.Common.{◌≡◌, ◌≤◌, ◌+◌, ℕ, Bool, true, false, cond, List, length, take, drop, Ok, Err, nat_lt, ap, subst, arith}
use Rattle.std.specs.Int.{w32}
use Rattle.std.proofs.lemmas.Bool.{ltb-false}
use Rattle.std.proofs.lemmas.List.{length-take}
use Rattle.lnfs_xdr.specs.declared.error.XdrError.TheVariants.{Short, TooLong}
use Rattle.lnfs_xdr.specs.Format.{Format, Opaque, Done, If, Then, padding}
use Rattle.lnfs_xdr.specs.Reading.{read, number_at, count_at, padded_at, opaque_at}
use Rattle.lnfs_xdr.proofs.Fields.{after_ok, guard_ok, here_ok}

opaque_short : (max : ℕ) (bytes : List ℕ) (x : List ℕ × List ℕ) → opaque_at max bytes ≡ Ok x → length x.0 ≤ max
opaque_short max bytes x e =
    let a = after_ok (count_at max bytes) (λ n rest. padded_at n rest) x e in
    let b = after_ok (number_at w32 bytes) (λ n rest. cond (nat_lt max n) (Err TooLong) (Ok (n, rest))) a.0 a.1 in
    let below = guard_ok (nat_lt max b.0.0) TooLong b.0 a.0 b.2 in
    let few : b.0.0 ≤ max = ltb-false _ _ below.0 in
    let same : b.0.0 ≡ a.0.0 = ap (λ (p : ℕ × List ℕ). p.0) below.1 in
    let c = guard_ok (nat_lt (length a.0.1) (a.0.0 + padding a.0.0)) Short (take a.0.0 a.0.1, drop (padding a.0.0) (drop a.0.0 a.0.1)) x a.2 in
    let cut : take a.0.0 a.0.1 ≡ x.0 = ap (λ (p : List ℕ × List ℕ). p.0) c.1 in
    omega (arith, length-take a.0.0 a.0.1, ap length cut)

-- whatever a format reads has the property
pub record Gives {E A : Type 0} (f : Format E A) (P : A → Type 0) : Type 0 where
  pub is : (bytes : List ℕ) (x : A × List ℕ) → read f bytes ≡ Ok x → P x.0

pub gives_opaque : {E : Type 0} (max : ℕ) → Gives {E = E} (Opaque max) (λ v. length v ≤ max)
gives_opaque max = record { is = λ bytes x e. opaque_short max bytes x (here_ok bytes (opaque_at max bytes) x e) }

pub gives_done : {E A : Type 0} {P : A → Type 0} (y : A) → P y → Gives {E = E} (Done y) P
gives_done {P = P} y p = record { is = λ bytes x e. let same : (y, bytes) ≡ x = cc in subst (λ (q : _ × List ℕ). P q.0) same p }

pub gives_then : {E A B : Type 0} {f : Format E A} {k : A → Format E B} {P : B → Type 0} (Q : A → Type 0) → Gives f Q → ((a : A) → Q a → Gives (k a) P) → Gives (Then f k) P
gives_then {f = f} {k = k} {P = P} Q first next = record {
  is = λ bytes x e.
      let a = after_ok (read f bytes) (λ a rest. read (k a) rest) x e in
      (next a.0.0 (first.is bytes a.0 a.1)).is a.0.1 x a.2;
}

pub gives_any : {E A : Type 0} (f : Format E A) → Gives f (λ x. Unit {0})
gives_any f = record { is = λ bytes x e. tt }

pub gives_if : {E A : Type 0} {f g : Format E A} {P : A → Type 0} (b : Bool) → Gives f P → Gives g P → Gives (If b f g) P
gives_if true first other = record { is = λ bytes x e. first.is bytes x e }
gives_if false first other = record { is = λ bytes x e. other.is bytes x e }
