-- An answer goes on, whatever has been read of it, where the operations can succeed.
use Rattle.std.proofs.Common.{◌≡◌, ℕ, zero, suc, ◌-◌, ◌+◌, ◌%◌, ◌<◌, ◌≤◌, ◌^◌, Bool, true, false, eqb, Some, None, List, [], ◌∷◌, ◌++◌, length, take, All, Result, Ok, Err, refl, sym, subst, ◌∙◌, ap, inl, inr, arith, length-append}
use Rattle.std.specs.Prelude.{◌&&◌, ◌||◌, nat_le, nat_lt, if◌then◌else◌}
use Rattle.std.specs.List.{AllByRecursion}
use Rattle.std.proofs.lemmas.List.{append-nil, take_at}
use Rattle.std.proofs.lemmas.List.Elements.{recursion_from_All}
use Rattle.std.proofs.lemmas.Bool.Decides.{nat_tests}
use Rattle.lnfs_xdr.specs.Format.{Format, Word, Done, If, Then, times, optional, padding}
use Rattle.lnfs_xdr.specs.Message.{RefusesAt}
use Rattle.lnfs_attrs.specs.Parsing.{Args}
use Rattle.lnfs_attrs.specs.Bitmaps.{so_many_words, bitmap}
use Rattle.lnfs_arguments.specs.Shared.{attrs, state_id, cinfo, channel}
use Rattle.lnfs_arguments.specs.declared.numbers.TheConstants.{LONG_LIMIT}
use Rattle.lnfs_arguments.specs.Further.{listed}
use Rattle.lnfs_arguments.specs.declared.halt.CompoundError.{CompoundError}
use Rattle.lnfs_arguments.specs.declared.halt.CompoundError.TheVariants as errors
use Rattle.lnfs_arguments.specs.Whole.{IfGarbage}
use Rattle.lnfs_results.specs.declared.types.OpResult.{OpResult}
use Rattle.lnfs_results.specs.Grammar.{access, create, getattr, getfh, link, remove, rename, entry, readdir, readlink, close, commit, opening, reading, writing, exchange_id, create_session, sequence, table, is_served, row, fields}
use Rattle.lnfs_answers.specs.declared.numbers.TheConstants.{RDATTR_ERROR_WORD, SEC_LABEL_WORD, FEWEST_WORDS, BEFORE_LABEL, BEFORE_LABEL_OF_ENTRY}
use Rattle.lnfs_answers.specs.declared.types.Awaits.{Awaits}
use Rattle.lnfs_answers.specs.declared.types.Awaits.TheVariants as awaits
use Rattle.lnfs_answers.specs.declared.types.Said.{Said}
use Rattle.lnfs_answers.specs.Grammar.{zeros, mask, is_list_size, fills, label_in, label, named, names, other, set, done, failed, number_of, result_for, results_for, status_before, said, answer}
use Rattle.lnfs_answers.specs.Whole.{CanSucceed, IsAnswer}
use Rattle.lnfs_answers.specs.Continued.{GoesOn, IsAwaited, IsContinued}
use Rattle.lnfs_answers.proofs.Going.{continued}

same : (n : ℕ) → eqb n n ≡ true
same n = grind (arith, nat_tests)

if_goes : {E A : Type 0} (f g : Format E A) (b : Bool) → (b ≡ true → GoesOn f) → (b ≡ false → GoesOn g) → GoesOn (If b f g)
if_goes f g true s t = s refl
if_goes f g false s t = t refl

times_go : {E A : Type 0} (f : Format E A) (n : ℕ) → GoesOn f → GoesOn (times n f)
times_go f zero s = tt
times_go f (suc n) s = (s, λ x front is. (times_go f n s, λ xs back are. tt))

optional_goes : {E A : Type 0} (f : Format E A) → GoesOn f → GoesOn (optional f)
optional_goes f s = (tt, λ n front is. if_goes (Done None) (Then f (λ x. Done (Some x))) (eqb n 0) (λ e. tt) (λ e. (s, λ x back x_is. tt)))

-- ---- the shared structures, and the table of results

bitmap_goes : GoesOn bitmap
unfolding bitmap so_many_words
bitmap_goes = (tt, λ n a b. (times_go {E = ℕ × ℕ} Word n tt, λ words c d. tt))

attrs_go : GoesOn attrs
unfolding attrs
attrs_go = (bitmap_goes, λ mask a b. (tt, λ list c d. tt))

state_id_goes : GoesOn state_id
unfolding state_id
state_id_goes = (tt, λ seqid a b. (tt, λ rest c d. tt))

cinfo_goes : GoesOn cinfo
unfolding cinfo
cinfo_goes = ((1, refl, omega arith), λ atomic a b. (tt, λ before c d. (tt, λ later e f. tt)))

channel_goes : GoesOn channel
unfolding channel
channel_goes = (tt, λ a x y. (tt, λ b x y. (tt, λ c x y. (tt, λ d x y. (tt, λ e x y. (tt, λ f x y. (optional_goes {E = ℕ × ℕ} Word tt, λ ird x y. tt)))))))

entry_goes : GoesOn entry
unfolding entry
entry_goes = (tt, λ cookie a b. (tt, λ called c d. (attrs_go, λ given e f. tt)))

exchange_id_goes : GoesOn exchange_id
unfolding exchange_id
exchange_id_goes = (tt, λ client x y. (tt, λ step x y. (tt, λ flags x y. ((0, refl, omega arith), λ how x y. (tt, λ minor x y. (tt, λ major x y. (tt, λ scope x y. ((0, refl, omega arith), λ made x y. tt))))))))

abbrev AllGo : List (ℕ × Args OpResult) → Type 0
AllGo [] = Unit {0}
AllGo ((n, f) ∷ more) = GoesOn f × AllGo more

here_or_later : (b : Bool) (f g : Args OpResult) (later : Bool) → GoesOn f → (later ≡ true → GoesOn g) → (b || later) ≡ true → GoesOn (If b f g)
here_or_later true f g later s t e = s
here_or_later false f g later s t e = t e

row_goes : (rows : List (ℕ × Args OpResult)) (number : ℕ) → AllGo rows → listed rows number ≡ true → GoesOn (row rows number)
row_goes [] number all e = absurd cc
row_goes ((n, f) ∷ more) number all e = here_or_later (eqb number n) f (row more number) (listed more number) all.0 (row_goes more number all.1) e

table_goes : AllGo table
unfolding access create getattr getfh link remove rename readdir readlink close commit opening reading writing create_session sequence
table_goes = search (bitmap_goes, attrs_go, state_id_goes, cinfo_goes, channel_goes, entry_goes, exchange_id_goes) depth 90 fits 6000

fields_go : (number : ℕ) → is_served number ≡ true → GoesOn (fields number)
unfolding fields is_served
fields_go number there = row_goes table number table_goes there

-- ---- masks and labels

zeros_go : (n : ℕ) → GoesOn (zeros n)
unfolding zeros
zeros_go zero = tt
zeros_go (suc n) = ((0, refl, omega arith), λ w a b. zeros_go n)

mask_goes : (first : ℕ) → first < 2 ^ 32 → GoesOn (mask first)
unfolding mask
mask_goes first lt = ((FEWEST_WORDS, refl, omega arith), λ count a b. ((first, same first, lt), λ low c d. ((0, refl, omega arith), λ middle e f. ((SEC_LABEL_WORD, refl, omega arith), λ high g h. zeros_go (count - FEWEST_WORDS)))))

is_within : (before size : ℕ) → is_list_size before size ≡ true → (before ≤ size) × (size ≤ LONG_LIMIT) × (size % 4 ≡ 0)
is_within before size e = grind (arith, nat_tests)

no_padding : (n : ℕ) → n % 4 ≡ 0 → padding n ≡ 0
no_padding n e = rw e refl

filled : (before size : ℕ) → before % 4 ≡ 0 → is_list_size before size ≡ true → (n : ℕ) × (fills before size n ≡ true) × (n < 2 ^ 32)
filled before size whole e =
    let w = is_within before size e in
    let n : ℕ = size - before in
    let none : padding n ≡ 0 = no_padding n (omega (arith, whole, w)) in
    let all : before + n + padding n ≡ size = omega (arith, none, w) in
    (n, rw all (same size), omega (arith, w))

label_in_goes : (before size : ℕ) → before % 4 ≡ 0 → is_list_size before size ≡ true → GoesOn (label_in before size)
unfolding label_in
label_in_goes before size whole e = (tt, λ lfs a b. (tt, λ pi c d. (filled before size whole e, λ bytes x y. tt)))

label_goes : GoesOn label
unfolding label
label_goes = (mask_goes 0 (omega arith), λ attributes a b. ((BEFORE_LABEL, refl, omega arith), λ size c d. (label_in_goes BEFORE_LABEL size refl d.0, λ value x y. tt)))

named_goes : GoesOn named
unfolding named
named_goes = (tt, λ cookie a b. (tt, λ called c d. (mask_goes RDATTR_ERROR_WORD (omega arith), λ attributes e f. ((BEFORE_LABEL_OF_ENTRY, refl, omega arith), λ size g h. (tt, λ error u v. (label_in_goes BEFORE_LABEL_OF_ENTRY size refl h.0, λ value x y. tt))))))

names_go : GoesOn names
unfolding names
names_go = (tt, λ verifier a b. (named_goes, λ entries c d. (tt, λ eof e f. tt)))

set_goes : (status : ℕ) → GoesOn (set status)
unfolding set
set_goes status = (bitmap_goes, λ set a b. tt)

-- ---- results

done_goes : (a : Awaits) → CanSucceed a → GoesOn (done a)
unfolding other
done_goes (awaits.Fields number) can = (fields_go number can, λ r x y. tt)
done_goes awaits.Set can = set_goes 0
done_goes awaits.Label can = label_goes
done_goes awaits.Names can = names_go

failed_goes : (a : Awaits) (status : ℕ) → GoesOn (failed a status)
failed_goes (awaits.Fields number) status = tt
failed_goes awaits.Set status = set_goes status
failed_goes awaits.Label status = tt
failed_goes awaits.Names status = tt

result_goes : (a : Awaits) (status : ℕ) → IsAwaited a → status < 2 ^ 32 → GoesOn (result_for a status)
unfolding result_for
result_goes a status is lt = ((number_of a, same (number_of a), is.1), λ number x y. ((status, same status, lt), λ own u v. if_goes (done a) (failed a status) (eqb status 0) (λ good. done_goes a is.0) (λ bad. failed_goes a status)))

before_fits : (status : ℕ) (more : List Awaits) → status < 2 ^ 32 → status_before status more < 2 ^ 32
before_fits status [] lt = lt
before_fits status (a ∷ more) lt = omega arith

results_go : (status : ℕ) (awaited : List Awaits) → AllByRecursion IsAwaited awaited → status < 2 ^ 32 → GoesOn (results_for status awaited)
unfolding results_for
results_go status [] all lt = tt
results_go status (a ∷ more) all lt = (result_goes a (status_before status more) all.0 (before_fits status more lt), λ r x y. (results_go status more all.1 lt, λ rs u v. tt))

fewer : (n : ℕ) (awaited : List Awaits) → AllByRecursion IsAwaited awaited → AllByRecursion IsAwaited (take n awaited)
fewer zero awaited all = tt
fewer (suc n) [] all = tt
fewer (suc n) (a ∷ more) all = (all.0, fewer n more all.1)

one_of : (asked : ℕ) → 0 < asked → (nat_lt 0 1 && nat_le 1 asked) ≡ true
one_of asked some = grind (arith, nat_tests)

count_goes : (b : Bool) (asked : ℕ) → 0 < asked → asked < 2 ^ 32 → (n : ℕ) × ((if b then eqb n asked else (nat_lt 0 n && nat_le n asked)) ≡ true) × (n < 2 ^ 32)
count_goes true asked some lt = (asked, same asked, lt)
count_goes false asked some lt = (1, one_of asked some, omega arith)

said_goes : (awaited : List Awaits) → All IsAwaited awaited → 0 < length awaited → length awaited < 2 ^ 32 → GoesOn (said awaited)
unfolding said
said_goes awaited all some lt =
    (tt, λ status a b. (tt, λ tag c d. (count_goes (eqb status 0) (length awaited) some lt, λ count e f. (results_go status (take count awaited) (fewer count awaited (recursion_from_All IsAwaited awaited all)) b.0, λ rs g h. tt))))

-- ---- what stands before a fault

front_is : (bytes front stuck : List ℕ) (at : ℕ) → bytes ≡ front ++ stuck → at + length stuck ≡ length bytes → front ≡ take at bytes
front_is bytes front stuck at parts size =
    let n : length front ≡ at = omega (arith, size, ap length parts, length-append front stuck) in
    sym (ap (take at) parts ∙ take_at front stuck at n)

refusal_goes_on : (awaited : List Awaits) (bytes : List ℕ) (at : ℕ) → GoesOn (said awaited) → RefusesAt (answer awaited) bytes at → IsContinued awaited bytes at
refusal_goes_on awaited bytes at g r =
    elim r.1 [
      | inl s ↦
          let c = continued (said awaited) g bytes r.0 s in
          (c.2, c.3, subst (λ (l : List ℕ). IsAnswer awaited c.2 (l ++ c.3)) (front_is bytes c.0 r.0 at c.1 r.2) c.4)
      | inr p ↦
          let parts : bytes ≡ p.1 ++ r.0 = p.4 ∙ ap (λ (l : List ℕ). p.1 ++ l) p.5.1 in
          (p.0, [], subst (λ (l : List ℕ). IsAnswer awaited p.0 l) (front_is bytes p.1 r.0 at parts r.2 ∙ sym (append-nil (take at bytes))) p.3)
    ]

pub goes_on : (awaited : List Awaits) (bytes : List ℕ) (at : ℕ) → All IsAwaited awaited → 0 < length awaited → length awaited < 2 ^ 32 → RefusesAt (answer awaited) bytes at → IsContinued awaited bytes at
goes_on awaited bytes at all some lt r = refusal_goes_on awaited bytes at (said_goes awaited all some lt) r

pub is_continued : (awaited : List Awaits) (bytes : List ℕ) (r : Result Said CompoundError) → All IsAwaited awaited → 0 < length awaited → length awaited < 2 ^ 32 → IfGarbage r (λ at. RefusesAt (answer awaited) bytes at) → IfGarbage r (λ at. IsContinued awaited bytes at)
is_continued awaited bytes (Ok s) all some lt r = tt
is_continued awaited bytes (Err errors.Memory) all some lt r = tt
is_continued awaited bytes (Err (errors.Garbage at)) all some lt r = goes_on awaited bytes at all some lt r
