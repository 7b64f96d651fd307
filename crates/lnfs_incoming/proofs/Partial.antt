-- How long a record can be that isn't whole yet.
use Rattle.std.proofs.Common.{◌≡◌, ℕ, zero, suc, ◌+◌, ◌*◌, ◌%◌, ◌<◌, ◌≤◌, Bool, true, false, nat_lt, nat_le, List, [], ◌++◌, length, take, drop, refl, sym, ap, ◌∙◌, length-append, arith, Ok, inl, inr}
use Rattle.std.proofs.lemmas.Bool.{cases_lt, le-ltb}
use Rattle.std.proofs.lemmas.Bool.Decides.{nat_tests}
use Rattle.std.proofs.lemmas.List.{take-append-drop, length-take-le}
use Rattle.std.specs.Prelude.{MatchBool}
use Rattle.std.specs.Int.{w32, from_be_bytes}
use Rattle.lnfs_xdr.specs.Format.{Word, Raw, Done, Spells, Stuck, NoneAt, ◌>>=◌}
use Rattle.lnfs_xdr.specs.Reading.{read}
use Rattle.lnfs_xdr.proofs.Fields.{IsBytes, IsBytes-back}
use Rattle.lnfs_xdr.proofs.Laws.{faults_at}
use Rattle.lnfs_rpc.specs.Numbers.{record_limit, fragment_limit, last_bit}
use Rattle.lnfs_rpc.specs.Formats.{Fragment, fragment, fragments, whole_record}
use Rattle.lnfs_rpc.specs.Records.{IsPartial}
use Rattle.lnfs_incoming.specs.Incoming.{partial_limit}
use Rattle.lnfs_incoming.proofs.Records.{body_within}

-- a word is missing where fewer than four bytes are there
word_there : (bytes : List ℕ) → 4 ≤ length bytes → read {E = Unit {0}} Word bytes ≡ Ok (from_be_bytes w32 (take 4 bytes), drop 4 bytes)
word_there bytes le = rw (le-ltb (length bytes) 4 le) refl

no_word : (bytes stuck : List ℕ) → IsBytes bytes → Stuck {E = Unit {0}} Word bytes stuck → length bytes < 4
no_word bytes stuck fits s =
    elim (cases_lt (length bytes) 4) [
      | inl lt ↦ lt
      | inr le ↦
          let f = faults_at {E = Unit {0}} Word bytes stuck fits s in
          let both = sym (word_there bytes le) ∙ f.1 in
          absurd cc
    ]

-- and so many bytes where fewer are there
no_bytes : (n : ℕ) (bytes : List ℕ) → NoneAt {E = Unit {0}} (Raw n) bytes → length bytes < n
no_bytes n bytes none =
    elim (cases_lt (length bytes) n) [
      | inl lt ↦ lt
      | inr le ↦ absurd (none (take n bytes) (take n bytes) (drop n bytes) (length-take-le n bytes le, refl) (sym (take-append-drop n bytes)))
    ]

length_word : (n : ℕ) (front : List ℕ) → Spells {E = Unit {0}} Word n front → length front ≡ 4
length_word n front s = ap length s.1

-- the bytes behind a head are fewer than it says, and these are within the limit
body_missing : (b : Bool) (before head : ℕ) (back stuck : List ℕ) → nat_lt record_limit (before + head % last_bit) ≡ b
    → MatchBool b ⊥ (Stuck {E = Unit {0}} {A = Fragment} (Raw (head % last_bit) >>= λ body. Done (record { is_last = nat_le last_bit head; body = body })) back stuck) → before + length back < record_limit
body_missing true before head back stuck e m = absurd m
body_missing false before head back stuck e m =
    elim m [
      | inl none ↦
          let few : length back < head % last_bit = no_bytes (head % last_bit) back none.0 in
          let within : before + head % last_bit ≤ record_limit = grind (arith, nat_tests, e) in
          omega (arith, few, within)
      | inr later ↦ absurd later.5
    ]

fragment_missing : (before : ℕ) (bytes stuck : List ℕ) → IsBytes bytes → before ≤ record_limit → Stuck (fragment before) bytes stuck → before + length bytes < record_limit + 4
unfolding fragment
fragment_missing before bytes stuck fits within s =
    elim s [
      | inl none ↦ omega (arith, no_word bytes stuck fits none, within)
      | inr later ↦
          let size : length bytes ≡ length later.1 + length later.2 = ap length later.4 ∙ length-append later.1 later.2 in
          let head : length later.1 ≡ 4 = length_word later.0 later.1 later.3 in
          let few : before + length later.2 < record_limit = body_missing (nat_lt record_limit (before + later.0 % last_bit)) before later.0 later.2 stuck refl later.5 in
          omega (arith, size, head, few)
    ]

-- the bytes of a fragment
body_size : (b : Bool) (before head : ℕ) (f : Fragment) (back : List ℕ)
    → MatchBool b ⊥ (Spells {E = Unit {0}} (Raw (head % last_bit) >>= λ body. Done (record { is_last = nat_le last_bit head; body = body })) f back) → length back ≡ length f.body
body_size true before head f back m = absurd m
body_size false before head f back m =
    let body : m.1 ≡ m.0 = m.3.1 in
    let same : m.0 ≡ f.body = ap (λ (g : Fragment). g.body) m.4.0 in
    let none : length m.2 ≡ 0 = ap length m.4.1 in
    let all : length back ≡ length m.1 + length m.2 = ap length m.5 ∙ length-append m.1 m.2 in
    omega (arith, all, none, ap length body, ap length same)

fragment_size : (before : ℕ) (f : Fragment) (front : List ℕ) → Spells (fragment before) f front → length front ≡ 4 + length f.body
unfolding fragment
fragment_size before f front s =
    let size : length front ≡ length s.1 + length s.2 = ap length s.5 ∙ length-append s.1 s.2 in
    omega (arith, size, length_word s.0 s.1 s.3, body_size (nat_lt record_limit (before + s.0 % last_bit)) before s.0 f s.2 s.4)

onward : (b : Bool) (n : ℕ) (before back stuck : List ℕ) (limit : ℕ) → (Stuck (fragments n before) back stuck → length before + length back < limit)
    → MatchBool b (Stuck {E = Unit {0}} (Done before) back stuck) (Stuck (fragments n before) back stuck) → length before + length back < limit
onward true n before back stuck limit more m = absurd m
onward false n before back stuck limit more m = more m

-- so many fragments may come yet
missing : (n : ℕ) (before bytes stuck : List ℕ) → IsBytes bytes → length before ≤ record_limit → Stuck (fragments n before) bytes stuck → length before + length bytes < record_limit + 4 * (n + 1)
unfolding fragments
missing zero before bytes stuck fits within s =
    elim s [
      | inl none ↦ omega (arith, no_word bytes stuck fits none, within)
      | inr later ↦ absurd later.5
    ]
missing (suc n) before bytes stuck fits within s =
    elim s [
      | inl none ↦ omega (arith, fragment_missing (length before) bytes stuck fits within none)
      | inr later ↦
          let f : Fragment = later.0 in
          let size : length bytes ≡ length later.1 + length later.2 = ap length later.4 ∙ length-append later.1 later.2 in
          let front : length later.1 ≡ 4 + length f.body = fragment_size (length before) f later.1 later.3 in
          let longer : length (before ++ f.body) ≡ length before + length f.body = length-append before f.body in
          let short : length before + length f.body ≤ record_limit = body_within (length before) f later.1 later.3 in
          let rest = onward f.is_last n (before ++ f.body) later.2 stuck (record_limit + 4 * (n + 1))
          (λ m. missing n (before ++ f.body) later.2 stuck (IsBytes-back later.1 later.2 bytes later.4 fits) (omega (arith, longer, short)) m) later.5 in
          omega (arith, size, front, longer, rest)
    ]

-- what is pending of a record has fewer bytes than this
pub partial_short : (bytes : List ℕ) → IsBytes bytes → IsPartial bytes → length bytes < partial_limit
unfolding whole_record
partial_short bytes fits p = omega (arith, missing fragment_limit [] bytes p.0 fits (omega arith) p.1)
