-- From what reading gives to what the bytes are.
use Rattle.std.proofs.Common.{◌≡◌, ℕ, zero, suc, ◌-◌, List, [], ◌∷◌, ◌++◌, take, eqb, Result, Ok, Err, All, refl, sym, subst, ◌∙◌, ap, inl, inr}
use Rattle.std.specs.Prelude.{IfOk}
use Rattle.std.specs.List.{AllByRecursion}
use Rattle.std.proofs.lemmas.List.{append-nil}
use Rattle.std.proofs.lemmas.List.Elements.{recursion_from_All}
use Rattle.lnfs_xdr.specs.Format.{Spells}
use Rattle.lnfs_xdr.specs.Message.{Tells, Refuses, RefusesAt, parse}
use Rattle.lnfs_xdr.proofs.Fields.{IsBytes}
use Rattle.lnfs_xdr.proofs.Messages.{tells, told, refuses, refused}
use Rattle.lnfs_arguments.specs.declared.halt.CompoundError.{CompoundError}
use Rattle.lnfs_arguments.specs.declared.halt.CompoundError.TheVariants as errors
use Rattle.lnfs_arguments.specs.Whole.{Answers, IfGarbage}
use Rattle.lnfs_results.proofs.Stays.{Stays, is_not_left, if_stays, bitmap_stays, fields_stay}
use Rattle.lnfs_answers.specs.declared.numbers.TheConstants.{RDATTR_ERROR_WORD, FEWEST_WORDS, BEFORE_LABEL, BEFORE_LABEL_OF_ENTRY}
use Rattle.lnfs_answers.specs.declared.types.Awaits.{Awaits}
use Rattle.lnfs_answers.specs.declared.types.Awaits.TheVariants as awaits
use Rattle.lnfs_answers.specs.declared.types.Said.{Said}
use Rattle.lnfs_answers.specs.Grammar.{zeros, mask, label_in, label, named, names, other, set, done, failed, result_for, results_for, status_before, said, answer}
use Rattle.lnfs_answers.specs.Whole.{CanSucceed, IsAnswer}

-- ---- no answer leaves its format, where the operations can succeed

zeros_stay : (n : ℕ) → Stays (zeros n)
unfolding zeros
zeros_stay zero = tt
zeros_stay (suc n) = (tt, λ w. zeros_stay n)

mask_stays : (first : ℕ) → Stays (mask first)
unfolding mask
mask_stays first = (tt, λ count. (tt, λ low. (tt, λ middle. (tt, λ high. zeros_stay (count - FEWEST_WORDS)))))

label_in_stays : (before size : ℕ) → Stays (label_in before size)
unfolding label_in
label_in_stays before size = (tt, λ lfs. (tt, λ pi. (tt, λ bytes. tt)))

label_stays : Stays label
unfolding label
label_stays = (mask_stays 0, λ attributes. (tt, λ size. (label_in_stays BEFORE_LABEL size, λ value. tt)))

named_stays : Stays named
unfolding named
named_stays = (tt, λ cookie. (tt, λ called. (mask_stays RDATTR_ERROR_WORD, λ attributes. (tt, λ size. (tt, λ error. (label_in_stays BEFORE_LABEL_OF_ENTRY size, λ value. tt))))))

names_stay : Stays names
unfolding names
names_stay = (tt, λ verifier. (named_stays, λ entries. (tt, λ eof. tt)))

set_stays : (status : ℕ) → Stays (set status)
unfolding set
set_stays status = (bitmap_stays, λ set. tt)

done_stays : (a : Awaits) → CanSucceed a → Stays (done a)
unfolding other
done_stays (awaits.Fields number) can = (fields_stay number can, λ r. tt)
done_stays awaits.Set can = set_stays 0
done_stays awaits.Label can = label_stays
done_stays awaits.Names can = names_stay

failed_stays : (a : Awaits) (status : ℕ) → Stays (failed a status)
failed_stays (awaits.Fields number) status = tt
failed_stays awaits.Set status = set_stays status
failed_stays awaits.Label status = tt
failed_stays awaits.Names status = tt

result_stays : (a : Awaits) (status : ℕ) → CanSucceed a → Stays (result_for a status)
unfolding result_for
result_stays a status can = (tt, λ number. (tt, λ own. if_stays (done a) (failed a status) (eqb status 0) (λ good. done_stays a can) (λ bad. failed_stays a status)))

results_stay : (status : ℕ) (awaited : List Awaits) → AllByRecursion CanSucceed awaited → Stays (results_for status awaited)
unfolding results_for
results_stay status [] all = tt
results_stay status (a ∷ more) all = (result_stays a (status_before status more) all.0, λ r. (results_stay status more all.1, λ rs. tt))

fewer : (n : ℕ) (awaited : List Awaits) → AllByRecursion CanSucceed awaited → AllByRecursion CanSucceed (take n awaited)
fewer zero awaited all = tt
fewer (suc n) [] all = tt
fewer (suc n) (a ∷ more) all = (all.0, fewer n more all.1)

pub said_stays : (awaited : List Awaits) → All CanSucceed awaited → Stays (said awaited)
unfolding said
said_stays awaited all = (tt, λ status. (tt, λ tag. (tt, λ count. (results_stay status (take count awaited) (fewer count awaited (recursion_from_All CanSucceed awaited all)), λ rs. tt))))

-- ---- the message is the whole of the bytes

all_of : (awaited : List Awaits) → All CanSucceed awaited → (bytes : List ℕ) (s : Said) → Tells (answer awaited) s bytes → IsAnswer awaited s bytes
all_of awaited can bytes s t =
    elim t [
      | inl p ↦
          let whole : p.1 ≡ bytes = sym (p.4 ∙ ap (λ (b : List ℕ). p.1 ++ b) p.5.1 ∙ append-nil p.1) in
          subst (λ (x : Said). Spells (said awaited) x bytes) p.5.0 (subst (Spells (said awaited) p.0) whole p.3)
      | inr p ↦ absurd (is_not_left (said awaited) bytes p.0 (said_stays awaited can) p.1)
    ]

as_message : (awaited : List Awaits) (bytes : List ℕ) (s : Said) → IsAnswer awaited s bytes → Tells (answer awaited) s bytes
as_message awaited bytes s spelled = inl (s, bytes, [], spelled, sym (append-nil bytes), (refl, refl))

pub is_found : (awaited : List Awaits) (bytes : List ℕ) (r : Result Said CompoundError) → IsBytes bytes → Answers r bytes (parse (answer awaited) bytes) → All CanSucceed awaited → IfOk r (λ s. IsAnswer awaited s bytes)
is_found awaited bytes (Ok s) fits given can = all_of awaited can bytes s (tells (answer awaited) bytes s fits given)
is_found awaited bytes (Err e) fits given can = tt

pub is_garbage : (awaited : List Awaits) (bytes : List ℕ) (r : Result Said CompoundError) → IsBytes bytes → Answers r bytes (parse (answer awaited) bytes) → IfGarbage r (λ at. RefusesAt (answer awaited) bytes at)
is_garbage awaited bytes (Ok s) fits given = tt
is_garbage awaited bytes (Err errors.Memory) fits given = tt
is_garbage awaited bytes (Err (errors.Garbage at)) fits given = (given.0, refuses (answer awaited) bytes given.0 fits given.1, given.2)

pub only_found : (awaited : List Awaits) (bytes : List ℕ) (r : Result Said CompoundError) → IsBytes bytes → Answers r bytes (parse (answer awaited) bytes) → (s : Said) → IsAnswer awaited s bytes → Answers r bytes (Ok s)
only_found awaited bytes r fits given s spelled = subst (Answers r bytes) (told (answer awaited) bytes s fits (as_message awaited bytes s spelled)) given

pub only_garbage : (awaited : List Awaits) (bytes : List ℕ) (r : Result Said CompoundError) → IsBytes bytes → Answers r bytes (parse (answer awaited) bytes) → (stuck : List ℕ) → Refuses (answer awaited) bytes stuck → Answers r bytes (Err stuck)
only_garbage awaited bytes r fits given stuck t = subst (Answers r bytes) (refused (answer awaited) bytes stuck fits t) given
