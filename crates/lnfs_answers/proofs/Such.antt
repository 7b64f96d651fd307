-- An item that passes a test, as part of a message.
use Rattle.std.proofs.Common.{◌≡◌, ℕ, ◌+◌, ◌≤◌, List, Bool, true, false, length, Ok, Err, refl, ap, ◌∙◌, take, drop, length-take, arith}
use Rattle.std.specs.Prelude.{Result, nat_le, nat_lt, if◌then◌else◌}
use Rattle.std.proofs.lemmas.Bool.Decides.{nat_tests}
use Rattle.std.specs.Int.{w32}
use Rattle.lnfs_xdr.specs.declared.error.XdrError.TheVariants.{TooLong, Short}
use Rattle.lnfs_xdr.specs.Format.{Format, padding}
use Rattle.lnfs_xdr.specs.Reading.{Read, Fault, Leaves, read, after, here, number_at, count_at, padded_at, opaque_at}
use Rattle.lnfs_xdr.proofs.Fields.{after_ok, guard_ok, here_ok}
use Rattle.lnfs_rpc.specs.Calls.{OpaqueAuth, auth}
use Rattle.lnfs_xdr.specs.Message.{Message, decided, cut_at, parse}
use Rattle.lnfs_answers.specs.Replies.{tested, such}
use Rattle.lnfs_answers.specs.Promises.{passing, such_at}

zero_within : (n : ℕ) → nat_le 0 n ≡ true
zero_within n = grind (arith, nat_tests)

no_cut : {B : Type 0} (bytes : List ℕ) (k : List ℕ → List ℕ → Result B (List ℕ)) → cut_at (Ok 0) bytes k ≡ k (take 0 bytes) bytes
no_cut bytes k = rw (zero_within (length bytes)) refl

by_test : {A B : Type 0} (f : Format ⊥ A) (test : A → Bool) (k : A → List ℕ → Result B (List ℕ)) (g : ⊥ → B) (bytes : List ℕ) (x : A × List ℕ) (b : Bool) → test x.0 ≡ b → read f bytes ≡ Ok x
    → cut_at (tested (Ok x) test) bytes (λ front back. decided (read f back) k g) ≡ decided (passing bytes (Ok x) test) k g
by_test f test k g bytes x true t e = rw t (no_cut bytes (λ front back. decided (read f back) k g) ∙ ap (λ r. decided r k g) e)
by_test f test k g bytes x false t e = rw t refl

by_read : {A B : Type 0} (f : Format ⊥ A) (test : A → Bool) (k : A → List ℕ → Result B (List ℕ)) (g : ⊥ → B) (bytes : List ℕ) (r : Read ⊥ A) → read f bytes ≡ r
    → cut_at (tested r test) bytes (λ front back. decided (read f back) k g) ≡ decided (passing bytes r test) k g
by_read f test k g bytes (Ok x) e = by_test f test k g bytes x (test x.0) refl e
by_read f test k g bytes (Err (Fault c stuck)) e = no_cut bytes (λ front back. decided (read f back) k g) ∙ ap (λ r. decided r k g) e
by_read f test k g bytes (Err (Leaves l)) e = absurd l

pub such_parse : {A B : Type 0} (f : Format ⊥ A) (test : A → Bool) (k : A → Message B) (bytes : List ℕ) → parse (such f test k) bytes ≡ decided (such_at f test bytes) (λ a rest. parse (k a) rest) (λ e. absurd e)
such_parse f test k bytes = by_read f test (λ a rest. parse (k a) rest) (λ e. absurd e) bytes (read f bytes) refl

-- ---- a verifier's body has its limit

opaque_within : (max : ℕ) (bytes v rest : List ℕ) → opaque_at max bytes ≡ Ok (v, rest) → length v ≤ max
opaque_within max bytes v rest e =
    let a = after_ok (count_at max bytes) (λ n more. padded_at n more) (v, rest) e in
    let b = after_ok (number_at w32 bytes) (λ n more. if nat_lt max n then Err TooLong else Ok (n, more)) a.0 a.1 in
    let g = guard_ok (nat_lt max b.0.0) TooLong b.0 a.0 b.2 in
    let p = guard_ok (nat_lt (length a.0.1) (a.0.0 + padding a.0.0)) Short (take a.0.0 a.0.1, drop (padding a.0.0) (drop a.0.0 a.0.1)) (v, rest) a.2 in
    let few : b.0.0 ≤ max = not_above max b.0.0 g.0 in
    let size : b.0.0 ≡ a.0.0 = ap (λ (x : ℕ × List ℕ). x.0) g.1 in
    let taken : take a.0.0 a.0.1 ≡ v = ap (λ (x : List ℕ × List ℕ). x.0) p.1 in
    omega (arith, few, size, ap length taken, length-take a.0.0 a.0.1)
  where
    not_above : (m n : ℕ) → nat_lt m n ≡ false → n ≤ m
    not_above m n f = grind (arith, nat_tests)

abbrev found_auth : OpaqueAuth × List ℕ → Read ⊥ OpaqueAuth
found_auth x = Ok x

same_found : (x y : OpaqueAuth × List ℕ) → found_auth x ≡ found_auth y → x.0.body ≡ y.0.body
same_found x y e = let same : x ≡ y = cc in ap (λ (p : OpaqueAuth × List ℕ). p.0.body) same

pub auth_within : (bytes : List ℕ) (v : OpaqueAuth) (rest : List ℕ) → read auth bytes ≡ Ok (v, rest) → length v.body ≤ 400
unfolding auth
auth_within bytes v rest e =
    let a = after_ok (here {E = ⊥} bytes (number_at w32 bytes)) (λ flavor more. after (here {E = ⊥} more (opaque_at 400 more)) (λ body end. Ok (record { flavor = flavor; body = body }, end))) (v, rest) e in
    let b = after_ok (here {E = ⊥} a.0.1 (opaque_at 400 a.0.1)) (λ body end. Ok (record { flavor = a.0.0; body = body }, end)) (v, rest) a.2 in
    let found = here_ok a.0.1 (opaque_at 400 a.0.1) b.0 b.1 in
    let same : b.0.0 ≡ v.body = same_found (record { flavor = a.0.0; body = b.0.0 }, b.0.1) (v, rest) b.2 in
    omega (arith, opaque_within 400 a.0.1 b.0.0 b.0.1 found, ap length same)
