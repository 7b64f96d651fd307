-- Records of a stream.
use Rattle.std.proofs.Common.{◌≡◌, ℕ, zero, suc, ◌+◌, ◌%◌, ◌≤◌, Bool, true, false, nat_lt, nat_le, List, [], ◌∷◌, ◌++◌, length, refl, sym, ap, subst, ◌∙◌, append_assoc, length-append, arith}
use Rattle.std.proofs.lemmas.Bool.Decides.{nat_tests}
use Rattle.std.specs.Prelude.{MatchBool}
use Rattle.lnfs_xdr.specs.Format.{Raw, Done, Spells, ◌>>=◌}
use Rattle.lnfs_rpc.specs.Numbers.{record_limit, fragment_limit, last_bit}
use Rattle.lnfs_rpc.specs.CallGrammar.{Begins}
use Rattle.lnfs_rpc.specs.Formats.{Fragment, fragment, fragments, whole_record}
use Rattle.lnfs_rpc.specs.Records.{Stream}

-- ---- no record is longer than the limit

fragment_within : (b : Bool) (before head : ℕ) (f : Fragment) (back : List ℕ) → nat_lt record_limit (before + head % last_bit) ≡ b
    → MatchBool b ⊥ (Spells {E = Unit {0}} (Raw (head % last_bit) >>= λ body. Done (record { is_last = nat_le last_bit head; body = body })) f back) → before + length f.body ≤ record_limit
fragment_within true before head f back e m = absurd m
fragment_within false before head f back e m =
    let size : length m.0 ≡ head % last_bit = m.3.0 in
    let same : m.0 ≡ f.body = ap (λ (g : Fragment). g.body) m.4.0 in
    let all : length f.body ≡ head % last_bit = ap length (sym same) ∙ size in
    let within : before + head % last_bit ≤ record_limit = grind (arith, nat_tests) in
    omega (arith, all, within)

-- a fragment's bytes are within the limit, behind those of the fragments before
pub body_within : (before : ℕ) (f : Fragment) (bytes : List ℕ) → Spells (fragment before) f bytes → before + length f.body ≤ record_limit
unfolding fragment
body_within before f bytes s = fragment_within (nat_lt record_limit (before + s.0 % last_bit)) before s.0 f s.2 refl s.4

rest_within : (b : Bool) (n : ℕ) (before body r back : List ℕ) → length before + length body ≤ record_limit → (Spells (fragments n (before ++ body)) r back → length r ≤ record_limit)
    → MatchBool b (Spells {E = Unit {0}} (Done (before ++ body)) r back) (Spells (fragments n (before ++ body)) r back) → length r ≤ record_limit
rest_within true n before body r back within more m =
    let size : length r ≡ length before + length body = ap length (sym m.0) ∙ length-append before body in
    omega (arith, size, within)
rest_within false n before body r back within more m = more m

record_within : (n : ℕ) (before r bytes : List ℕ) → Spells (fragments n before) r bytes → length r ≤ record_limit
unfolding fragments
record_within zero before r bytes s = absurd s.4
record_within (suc n) before r bytes s =
    rest_within s.0.is_last n before s.0.body r s.2 (body_within (length before) s.0 s.1 s.3) (λ m. record_within n (before ++ s.0.body) r s.2 m) s.4

pub record_fits : (r bytes : List ℕ) → Spells whole_record r bytes → length r ≤ record_limit
unfolding whole_record
record_fits r bytes s = record_within fragment_limit [] r bytes s

-- ---- streams that grow

-- more bytes come behind
pub stream_more : (bytes : List ℕ) (records : List (List ℕ)) (rest piece : List ℕ) → Stream bytes records rest → Stream (bytes ++ piece) records (rest ++ piece)
stream_more bytes [] rest piece s = ap (λ (l : List ℕ). l ++ piece) s
stream_more bytes (r ∷ records) rest piece s =
    (s.0, s.1 ++ piece, s.2, ap (λ (l : List ℕ). l ++ piece) s.3 ∙ append_assoc s.0 s.1 piece, stream_more s.1 records rest piece s.4)

-- one record more is cut
pub stream_push : (bytes : List ℕ) (records : List (List ℕ)) (rest r new : List ℕ) → Stream bytes records rest → Begins whole_record r rest (λ more. more ≡ new) → Stream bytes (records ++ r ∷ []) new
stream_push bytes [] rest r new s b = subst (λ (l : List ℕ). Stream l (r ∷ []) new) (sym s) b
stream_push bytes (x ∷ records) rest r new s b = (s.0, s.1, s.2, s.3, stream_push s.1 records rest r new s.4 b)
