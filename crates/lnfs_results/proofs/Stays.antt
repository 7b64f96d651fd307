-- No result leaves its format: what isn't in the grammar is refused.
use Rattle.std.proofs.Common.{◌≡◌, ℕ, zero, suc, eqb, Bool, true, false, List, [], ◌∷◌, Err, Some, None, refl, inl, inr}
use Rattle.std.specs.Prelude.{MatchBool, ◌||◌}
use Rattle.lnfs_xdr.specs.Format.{Format, Word, Long, Boolean, Count, Among, LongAmong, Byte, Opaque, OpaqueOf, Fixed, Raw, Outside, Done, If, Then, Linked, Leaving, times, optional}
use Rattle.lnfs_xdr.specs.Reading.{Leaves, read}
use Rattle.lnfs_xdr.proofs.Fields.{IsBytes}
use Rattle.lnfs_xdr.proofs.Laws.{leaves_at}
use Rattle.lnfs_attrs.specs.Parsing.{Args}
use Rattle.lnfs_attrs.specs.Bitmaps.{so_many_words, bitmap}
use Rattle.lnfs_arguments.specs.Shared.{attrs, state_id, cinfo, channel}
use Rattle.lnfs_arguments.specs.Further.{listed}
use Rattle.lnfs_arguments.specs.Numbers.{op_setattr}
use Rattle.lnfs_results.specs.declared.types.OpResult.{OpResult}
use Rattle.lnfs_results.specs.declared.types.OpResult.TheVariants.{Failed}
use Rattle.lnfs_results.specs.Grammar.{access, create, getattr, getfh, link, remove, rename, entry, readdir, readlink, close, commit, opening, reading, writing, exchange_id, create_session, sequence, table, is_served, row, fields, setattr, served, unserved, op_result, all_results}

abbrev pub Stays : {E A : Type 0} → Format E A → Type 0
Stays Word = Unit {0}
Stays Long = Unit {0}
Stays Boolean = Unit {0}
Stays (Count max) = Unit {0}
Stays (Among test) = Unit {0}
Stays (LongAmong test) = Unit {0}
Stays (Byte test) = Unit {0}
Stays (Opaque max) = Unit {0}
Stays (OpaqueOf test) = Unit {0}
Stays (Fixed n) = Unit {0}
Stays (Raw n) = Unit {0}
Stays (Outside e) = ⊥
Stays (Done x) = Unit {0}
Stays (If b f g) = MatchBool b (Stays f) (Stays g)
Stays (Then {A} f k) = Stays f × ((a : A) → Stays (k a))
Stays (Linked f) = Stays f

pub is_not_left : {E A : Type 0} (f : Format E A) (bytes : List ℕ) (e : E) → Stays f → Leaving f bytes e → ⊥
is_not_left Word bytes e s l = l
is_not_left Long bytes e s l = l
is_not_left Boolean bytes e s l = l
is_not_left (Count max) bytes e s l = l
is_not_left (Among test) bytes e s l = l
is_not_left (LongAmong test) bytes e s l = l
is_not_left (Byte test) bytes e s l = l
is_not_left (Opaque max) bytes e s l = l
is_not_left (OpaqueOf test) bytes e s l = l
is_not_left (Fixed n) bytes e s l = l
is_not_left (Raw n) bytes e s l = l
is_not_left (Outside x) bytes e s l = s
is_not_left (Done x) bytes e s l = l
is_not_left (If true f g) bytes e s l = is_not_left f bytes e s l
is_not_left (If false f g) bytes e s l = is_not_left g bytes e s l
is_not_left (Then f k) bytes e s l =
    elim l [
      | inl p ↦ is_not_left f bytes e s.0 p
      | inr p ↦ is_not_left (k p.0) p.2 e (s.1 p.0) p.5
    ]
is_not_left (Linked f) bytes e s l = is_not_left f l.2 e s l.5

pub if_stays : {E A : Type 0} (f g : Format E A) (b : Bool) → (b ≡ true → Stays f) → (b ≡ false → Stays g) → Stays (If b f g)
if_stays f g true s t = s refl
if_stays f g false s t = t refl

pub times_stays : {E A : Type 0} (f : Format E A) (n : ℕ) → Stays f → Stays (times n f)
times_stays f zero s = tt
times_stays f (suc n) s = (s, λ x. (times_stays f n s, λ xs. tt))

optional_stays : {E A : Type 0} (f : Format E A) → Stays f → Stays (optional f)
optional_stays f s = (tt, λ n. if_stays (Done None) (Then f (λ x. Done (Some x))) (eqb n 0) (λ e. tt) (λ e. (s, λ x. tt)))

-- ---- the shared structures

pub bitmap_stays : Stays bitmap
unfolding bitmap so_many_words
bitmap_stays = (tt, λ n. (times_stays {E = ℕ × ℕ} Word n tt, λ words. tt))

attrs_stay : Stays attrs
unfolding attrs
attrs_stay = (bitmap_stays, λ mask. (tt, λ list. tt))

state_id_stays : Stays state_id
unfolding state_id
state_id_stays = (tt, λ seqid. (tt, λ other. tt))

cinfo_stays : Stays cinfo
unfolding cinfo
cinfo_stays = (tt, λ atomic. (tt, λ before. (tt, λ later. tt)))

channel_stays : Stays channel
unfolding channel
channel_stays = (tt, λ a. (tt, λ b. (tt, λ c. (tt, λ d. (tt, λ e. (tt, λ f. (optional_stays {E = ℕ × ℕ} Word tt, λ ird. tt)))))))

entry_stays : Stays entry
unfolding entry
entry_stays = (tt, λ cookie. (tt, λ called. (attrs_stay, λ given. tt)))

-- ---- the table

abbrev AllStay : List (ℕ × Args OpResult) → Type 0
AllStay [] = Unit {0}
AllStay ((n, f) ∷ more) = Stays f × AllStay more

here_or_later : (b : Bool) (f g : Args OpResult) (later : Bool) → Stays f → (later ≡ true → Stays g) → (b || later) ≡ true → Stays (If b f g)
here_or_later true f g later s t e = s
here_or_later false f g later s t e = t e

row_stays : (rows : List (ℕ × Args OpResult)) (number : ℕ) → AllStay rows → listed rows number ≡ true → Stays (row rows number)
row_stays [] number all e = absurd cc
row_stays ((n, f) ∷ more) number all e = here_or_later (eqb number n) f (row more number) (listed more number) all.0 (row_stays more number all.1) e

table_stays : AllStay table
unfolding access create getattr getfh link remove rename readdir readlink close commit opening reading writing exchange_id create_session sequence
table_stays = search (bitmap_stays, attrs_stay, state_id_stays, cinfo_stays, channel_stays, entry_stays) depth 60 fits 4000

pub fields_stay : (number : ℕ) → is_served number ≡ true → Stays (fields number)
unfolding fields is_served
fields_stay number there = row_stays table number table_stays there

setattr_stays : Stays setattr
unfolding setattr
setattr_stays = (tt, λ status. (bitmap_stays, λ set. tt))

served_stays : (number : ℕ) → listed table number ≡ true → Stays (served number)
unfolding served fields
served_stays number there = (tt, λ status. if_stays (row table number) (Done (Failed number status)) (eqb status 0) (λ good. row_stays table number table_stays there) (λ bad. tt))

unserved_stays : (number : ℕ) → Stays (unserved number)
unfolding unserved
unserved_stays number = (tt, λ status. tt)

known_stays : (number : ℕ) → Stays (If (is_served number) (served number) (unserved number))
unfolding is_served
known_stays number = if_stays (served number) (unserved number) (listed table number) (served_stays number) (λ unlisted. unserved_stays number)

result_stays : Stays op_result
unfolding op_result
result_stays = (tt, λ number. if_stays setattr (If (is_served number) (served number) (unserved number)) (eqb number op_setattr) (λ is. setattr_stays) (λ other. known_stays number))

results_stay : Stays all_results
unfolding all_results
results_stay = (tt, λ status. (tt, λ tag. (tt, λ count. (times_stays op_result count result_stays, λ done. tt))))

pub never_leaves : (bytes : List ℕ) (e : ℕ × ℕ) → Leaving all_results bytes e → ⊥
never_leaves bytes e l = is_not_left all_results bytes e results_stay l

pub never_left : (bytes : List ℕ) (e : ℕ × ℕ) → IsBytes bytes → read all_results bytes ≡ Err (Leaves e) → ⊥
never_left bytes e fits left = never_leaves bytes e (leaves_at all_results bytes e fits left)
