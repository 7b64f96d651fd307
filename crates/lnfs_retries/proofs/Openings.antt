-- The state id that an OPEN tells has its size, whatever the bytes of the reply are.
use Rattle.std.proofs.Common.{◌≡◌, ℕ, zero, suc, ◌+◌, ◌-◌, ◌≤◌, ◌==◌, List, [], ◌∷◌, length, take, drop, ap, arith}
use Rattle.std.specs.Prelude.{nat_lt, slice_get, IfSome}
use Rattle.std.specs.List.{AllByRecursion}
use Rattle.std.proofs.lemmas.Bool.{ltb-false}
use Rattle.std.proofs.lemmas.List.{length-take}
use Rattle.lnfs_xdr.specs.declared.error.XdrError.TheVariants.{Short}
use Rattle.lnfs_xdr.specs.Format.{Format, Fixed, Then, padding}
use Rattle.lnfs_xdr.specs.Reading.{padded_at}
use Rattle.lnfs_xdr.proofs.Fields.{guard_ok, here_ok}
use Rattle.lnfs_arguments.specs.declared.stateid.StateId.{StateId}
use Rattle.lnfs_arguments.specs.Shared.{state_id}
use Rattle.lnfs_results.specs.declared.types.OpResult.{OpResult}
use Rattle.lnfs_results.specs.declared.types.OpResult.TheVariants as results
use Rattle.lnfs_results.specs.Grammar.{access, create, getattr, getfh, link, remove, rename, readdir, readlink, close, commit, opening, reading, writing, exchange_id, create_session, sequence, fields}
use Rattle.lnfs_answers.specs.declared.types.Awaits.{Awaits}
use Rattle.lnfs_answers.specs.declared.types.Awaits.TheVariants as awaits
use Rattle.lnfs_answers.specs.declared.types.Told.{Told}
use Rattle.lnfs_answers.specs.declared.types.Told.TheVariants as told
use Rattle.lnfs_answers.specs.declared.types.Said.{Said}
use Rattle.lnfs_answers.specs.Grammar.{other, set, label, names, done, failed, result_for, results_for, status_before, said}
use Rattle.lnfs_answers.specs.Replies as replies
use Rattle.lnfs_client.specs.Told.{last_in}
use Rattle.lnfs_step.proofs.Gives.{Gives, gives_done, gives_then, gives_any, gives_if}
use Rattle.lnfs_retries.proofs.Shapes.{OfAnswers}

-- the state id of an OPEN has its size
abbrev pub OpenFits : OpResult → Type 0
OpenFits (results.Open id info rflags set delegation) = length id.other ≡ 12
OpenFits r = Unit {0}

abbrev pub ToldFits : Told → Type 0
ToldFits (told.Other r) = OpenFits r
ToldFits (told.Label v) = Unit {0}
ToldFits (told.Names entries eof) = Unit {0}

abbrev pub SaidFits : Said → Type 0
SaidFits s = AllByRecursion ToldFits s.results

skip : {E A B : Type 0} {f : Format E A} {k : A → Format E B} {P : B → Type 0} → ((a : A) → Gives (k a) P) → Gives (Then f k) P
skip {f = f} next = gives_then (λ a. Unit {0}) (gives_any f) (λ a any. next a)

gives_fixed : {E : Type 0} (n : ℕ) → Gives {E = E} (Fixed n) (λ v. length v ≡ n)
gives_fixed n = record {
  is = λ bytes x e.
      let there = guard_ok (nat_lt (length bytes) (n + padding n)) Short (take n bytes, drop (padding n) (drop n bytes)) x (here_ok bytes (padded_at n bytes) x e) in
      let enough : n + padding n ≤ length bytes = ltb-false _ _ there.0 in
      let cut : take n bytes ≡ x.0 = ap (λ (p : List ℕ × List ℕ). p.0) there.1 in
      omega (arith, length-take n bytes, ap length cut, enough);
}

state_id_gives : Gives state_id (λ (id : StateId). length id.other ≡ 12)
unfolding state_id
state_id_gives = skip (λ seqid. gives_then (λ (other : List ℕ). length other ≡ 12) (gives_fixed 12) (λ other sized. gives_done (record { seqid = seqid; other = other }) sized))

abbrev Row : Format (ℕ × ℕ) OpResult → Type 0
Row f = Gives f OpenFits

opening_gives : Row opening
unfolding opening
opening_gives = gives_then (λ (id : StateId). length id.other ≡ 12) state_id_gives (λ id sized. skip (λ info. skip (λ rflags. skip (λ set. skip (λ delegation. gives_done (results.Open id info rflags set delegation) sized)))))

fields_give : (number : ℕ) → Row (fields number)
unfolding fields access create getattr getfh link remove rename readdir readlink close commit reading writing exchange_id create_session sequence
fields_give number =
    gives_if _ (skip (λ a. skip (λ b. gives_done _ tt))) (
    gives_if _ (skip (λ id. gives_done _ tt)) (
    gives_if _ (skip (λ v. gives_done _ tt)) (
    gives_if _ (skip (λ info. skip (λ set. gives_done _ tt))) (
    gives_if _ (skip (λ given. gives_done _ tt)) (
    gives_if _ (skip (λ handle. gives_done _ tt)) (
    gives_if _ (skip (λ info. gives_done _ tt)) (
    gives_if _ (gives_done _ tt) (
    gives_if _ (gives_done _ tt) (
    gives_if _ (gives_done _ tt) (
    gives_if _ opening_gives (
    gives_if _ (gives_done _ tt) (
    gives_if _ (gives_done _ tt) (
    gives_if _ (skip (λ eof. skip (λ content. gives_done _ tt))) (
    gives_if _ (skip (λ v. skip (λ entries. skip (λ eof. gives_done _ tt)))) (
    gives_if _ (skip (λ text. gives_done _ tt)) (
    gives_if _ (skip (λ info. gives_done _ tt)) (
    gives_if _ (skip (λ source. skip (λ target. gives_done _ tt))) (
    gives_if _ (gives_done _ tt) (
    gives_if _ (gives_done _ tt) (
    gives_if _ (gives_done _ tt) (
    gives_if _ (skip (λ count. skip (λ committed. skip (λ v. gives_done _ tt)))) (
    gives_if _ (skip (λ client. skip (λ step. skip (λ flags. skip (λ how. skip (λ minor. skip (λ major. skip (λ scope. skip (λ made. gives_done _ tt))))))))) (
    gives_if _ (skip (λ session. skip (λ step. skip (λ flags. skip (λ fore. skip (λ back. gives_done _ tt)))))) (
    gives_if _ (gives_done _ tt) (
    gives_if _ (skip (λ session. skip (λ step. skip (λ slot. skip (λ highest. skip (λ target. skip (λ flags. gives_done _ tt))))))) (
    gives_if _ (gives_done _ tt) (
    gives_if _ (gives_done _ tt) (
    record { is = λ bytes x e. absurd cc }))))))))))))))))))))))))))))

abbrev Tells : Format (ℕ × ℕ) Told → Type 0
Tells f = Gives f ToldFits

other_gives : (number : ℕ) → Tells (other number)
unfolding other
other_gives number = gives_then OpenFits (fields_give number) (λ r fits. gives_done (told.Other r) fits)

set_gives : (status : ℕ) → Tells (set status)
unfolding set
set_gives status = skip (λ set. gives_done _ tt)

label_gives : Tells label
unfolding label
label_gives = skip (λ attributes. skip (λ size. skip (λ value. gives_done _ tt)))

names_give : Tells names
unfolding names
names_give = skip (λ v. skip (λ entries. skip (λ eof. gives_done _ tt)))

done_gives : (a : Awaits) → Tells (done a)
done_gives (awaits.Fields number) = other_gives number
done_gives awaits.Set = set_gives 0
done_gives awaits.Label = label_gives
done_gives awaits.Names = names_give

failed_gives : (a : Awaits) (status : ℕ) → Tells (failed a status)
failed_gives (awaits.Fields number) status = gives_done _ tt
failed_gives awaits.Set status = set_gives status
failed_gives awaits.Label status = gives_done _ tt
failed_gives awaits.Names status = gives_done _ tt

result_gives : (a : Awaits) (status : ℕ) → Tells (result_for a status)
unfolding result_for
result_gives a status = skip (λ number. skip (λ own. gives_if (status == 0) (done_gives a) (failed_gives a status)))

results_give : (status : ℕ) (awaited : List Awaits) → Gives (results_for status awaited) (λ (rs : List Told). AllByRecursion ToldFits rs)
unfolding results_for
results_give status [] = gives_done [] tt
results_give status (a ∷ more) = gives_then ToldFits (result_gives a (status_before status more)) (λ r fits. gives_then (λ (rs : List Told). AllByRecursion ToldFits rs) (results_give status more) (λ rs all. gives_done (r ∷ rs) (fits, all)))

said_gives : (awaited : List Awaits) → Gives (said awaited) SaidFits
unfolding said
said_gives awaited = skip (λ status. skip (λ tag. skip (λ count. gives_then (λ (rs : List Told). AllByRecursion ToldFits rs) (results_give status (take count awaited)) (λ rs all. gives_done (record { status = status; results = rs }) all))))

pub answers_fit : (w : replies.Wanted) → OfAnswers SaidFits w
answers_fit (replies.results awaited) = ((said_gives awaited).is, λ status. tt)
answers_fit (replies.context lfs pi text) = tt
answers_fit replies.ending = tt

-- so the last one has
nth_fits : (rs : List Told) (i : ℕ) → AllByRecursion ToldFits rs → IfSome (slice_get rs i) ToldFits
nth_fits [] i all = tt
nth_fits (r ∷ rs) zero all = all.0
nth_fits (r ∷ rs) (suc i) all = nth_fits rs i all.1

pub last_fits : (rs : List Told) → AllByRecursion ToldFits rs → IfSome (last_in rs) ToldFits
last_fits rs all = nth_fits rs (length rs - 1) all
