-- Levels of a site: those of labels that it reads, those of callers, and the first.
use Rattle.std.proofs.Common.{◌≡◌, ◌≤◌, ◌<◌, ◌+◌, ℕ, Bool, true, false, cond, not, List, [], ◌∷◌, ◌++◌, length, nat_lt, nat_le, Option, Some, None, Ok, Err, refl, sym, ap, subst, inl, inr, arith}
use Rattle.std.specs.Prelude.{◌==◌, Result, option_map, find}
use Rattle.std.specs.List.{AllByRecursion}
use Rattle.std.proofs.lemmas.Bool.{cases_Bool, and_parts, false≢true}
use Rattle.std.proofs.lemmas.Bool.Decides.{nat_tests}
use Rattle.std.proofs.lemmas.List.{length_push}
use Rattle.std.proofs.lemmas.List.Quantifiers.{position-Some}
use Rattle.lnfs_calipso.specs.Label.{Label}
use Rattle.lnfs_calipso.specs.Same as same
use Rattle.lnfs_words.specs.Words.{is_empty, split, newline}
use Rattle.lnfs_format.specs.Kinds.{reads}
use Rattle.lnfs_format.specs.Entries.{entry_of}
use Rattle.lnfs_format.specs.LevelRead.{or_bad, level_in, read_in, level_read}
use Rattle.lnfs_format.specs.declared.formats.TheConstants.{MAX_SPELLING}
use Rattle.lnfs_format.specs.declared.formats.FormatEntry.{FormatEntry}
use Rattle.lnfs_format.specs.declared.formats.ReadError.{ReadError}
use Rattle.lnfs_format.specs.declared.formats.ReadError.TheVariants as errors
use Rattle.lnfs_xdr.specs.declared.flavors.TheConstants.{AUTH_NONE, AUTH_SYS, RPCSEC_GSS}
use Rattle.lnfs_rpc.specs.declared.authsys.Sys.{Sys}
use Rattle.lnfs_rpc.specs.declared.calls.CallError.{CallError}
use Rattle.lnfs_rpc.specs.Calls.{CallMessage, call_of}
use Rattle.lnfs_rpc.specs.Sys.{sys_of}
use Rattle.lnfs_policy.specs.Line.{Line, demand, guest_line}
use Rattle.lnfs_policy.specs.Rows.{label_in, guest_in, labels_of, guests_of}
use Rattle.lnfs_policy.specs.Fits.{fits, is_known}
use Rattle.lnfs_policy.specs.Policy.{Policy, policy_in, is_for, guest_level}
use Rattle.lnfs_policy.specs.PolicyText.{Refused, told_at, is_complete, is_end, lines_after, lines_from, canonical, policy_from, policy_of}
use Rattle.lnfs_policy.specs.declared.cause.Cause.{Cause}
use Rattle.lnfs_policy.specs.declared.cause.Cause.TheVariants as because
use Rattle.lnfs_policy.specs.declared.fits.TheConstants.{MAX_CLASS}
use Rattle.lnfs_policy.specs.declared.mode.Mode.{Mode}
use Rattle.lnfs_policy.specs.declared.mode.Mode.TheVariants.{Enforcing, Limited}
use Rattle.lnfs_policy.specs.declared.rows.Guest.{Guest}
use Rattle.lnfs_policy.proofs.Kept.{lines_of}
use Rattle.lnfs_policy.proofs.Outcomes.{ended, not_ok, same_ok}
use Rattle.lnfs_policy.proofs.Tables.{and_some, one_more}
use Rattle.lnfs_gss3.specs.declared.caller.Caller.TheVariants.{Null, Nobody}
use Rattle.lnfs_gss3.specs.declared.numbers.TheConstants.{PROC_NULL, AUTH_TOOWEAK}
use Rattle.lnfs_gss3.specs.Mechanism.{Signing}
use Rattle.lnfs_gss3.specs.Who.{guest_by, guest_in as caller_in, guest, guest_of, by_gss, who, level_of}
use Rattle.lnfs_gss3.proofs.Vouching.{vouched, lowest_of_all}
use Rattle.lnfs_world.specs.World.{Stored}
use Rattle.lnfs_world.specs.Outcome.{LevelOf, BadLabel}
use Rattle.lnfs_world.proofs.Rows.{all_find, all_weaker}
use Rattle.lnfs_operations.specs.Sizes.{is_level}
use Rattle.lnfs_site.specs.Site.{is_limited, told_by, carried, site_of, reading}
use Rattle.lnfs_step.specs.Level.{level_by}
use Rattle.lnfs_step.specs.Level as event

-- ---- a label that is read is one of the policy's

place_is : (labels : List Label) (level : ℕ) (o : Option ℕ) → ((i : ℕ) → o ≡ Some i → i < length labels) → or_bad o ≡ Ok level → level < length labels
place_is labels level None each e = absurd cc
place_is labels level (Some i) each e = let own : i ≡ level = cc in subst (λ (n : ℕ). n < length labels) own (each i refl)

label_is : (labels : List Label) (level : ℕ) (o : Option Label) → level_in labels o ≡ Ok level → level < length labels
label_is labels level None e = absurd cc
label_is labels level (Some label) e = place_is labels level (same.level_of labels label) (λ i is. (position-Some (λ l. same.same_label l label) labels i label is).0) e

entry_is : (labels : List Label) (bytes : List ℕ) (level : ℕ) (o : Option FormatEntry) → read_in o labels bytes ≡ Ok level → level < length labels
entry_is labels bytes level None e = absurd cc
entry_is labels bytes level (Some entry) e = label_is labels level (reads entry.kind bytes) e

read_is : (entries : List FormatEntry) (labels : List Label) (lfs pi : ℕ) (bytes : List ℕ) (level : ℕ) → level_read entries labels lfs pi bytes ≡ Ok level → level < length labels
unfolding level_read
read_is entries labels lfs pi bytes level e = entry_is labels bytes level (entry_of entries lfs pi) e

told_is : (labels : List Label) (level : ℕ) (r : Result ℕ ReadError) → (r ≡ Ok level → level < length labels) → told_by r ≡ LevelOf level → level < length labels
told_is labels level (Ok l) each e = let own : l ≡ level = cc in each (ap Ok own)
told_is labels level (Err errors.WrongLfs) each e = absurd cc
told_is labels level (Err errors.BadLabel) each e = absurd cc
told_is labels level (Err errors.Memory) each e = absurd cc

-- where labels are carried alone, all are of level 0
carried_is : (level : ℕ) (b : Bool) → cond b (LevelOf 0) BadLabel ≡ LevelOf level → (level == 0) ≡ true
carried_is level true e = let own : 0 ≡ level = cc in subst (λ (n : ℕ). (n == 0) ≡ true) own refl
carried_is level false e = absurd cc

below_is : (level n : ℕ) → level < n → nat_lt level n ≡ true
below_is level n below = grind (arith, nat_tests)

pub read_level : (p : Policy) (s : Stored) (level : ℕ) → reading p s ≡ LevelOf level → is_level (site_of p) level ≡ true
read_level p s level e = at (is_limited p.mode) e
  where
    at : (b : Bool) → cond b (carried s) (told_by (level_read p.formats p.labels s.lfs s.pi s.bytes)) ≡ LevelOf level → cond b (level == 0) (nat_lt level (length p.labels)) ≡ true
    at true e = carried_is level (nat_le (length s.bytes) MAX_SPELLING) e
    at false e = below_is level (length p.labels) (told_is p.labels level (level_read p.formats p.labels s.lfs s.pi s.bytes) (λ is. read_is p.formats p.labels s.lfs s.pi s.bytes level is) e)

-- ---- a policy that was read has a level

done_at : (n : ℕ) (ls lines : List Line) → told_at n (demand (is_complete ls) because.Missing) (λ _. ended Refused ls) ≡ ended Refused lines → is_complete lines ≡ true
done_at n ls lines e =
    elim (cases_Bool (is_complete ls)) [
      | inl t ↦ subst (λ (x : List Line). is_complete x ≡ true) (same_ok ls lines (rw t at e)) t
      | inr f ↦ absurd (not_ok _ lines (rw f at e))
    ]

done_from : (n : ℕ) (ls lines : List Line) (parts : List (List ℕ)) → lines_from n ls parts ≡ Ok lines → is_complete lines ≡ true
unfolding lines_from
done_from n ls lines [] e = done_at n ls lines e
done_from n ls lines (text ∷ others) e =
    elim (cases_Bool (is_end text others)) [
      | inl t ↦ done_at n ls lines (rw t at e)
      | inr f ↦ next (λ new d. done_from (n + 1) new lines others d) (lines_after ls (not (is_empty others)) text) (rw f at e)
    ]
  where
    next : ((new : List Line) → lines_from (n + 1) new others ≡ ended Refused lines → is_complete lines ≡ true)
        → (r : Result (List Line) Cause) → told_at n r (λ lines. lines_from (n + 1) lines others) ≡ ended Refused lines → is_complete lines ≡ true
    next rest (Ok new) d = rest new d
    next rest (Err cause) d = absurd (not_ok _ lines d)

labels_there : (lines : List Line) → is_complete lines ≡ true → is_empty (labels_of lines) ≡ false
labels_there lines e = grind (arith, e)

pub some_level : (p : Policy) (text : List ℕ) → policy_of text ≡ Ok p → 0 < length p.labels
unfolding policy_of
some_level p text e = of (lines_from 1 [] (split newline text)) refl e
  where
    some : (labels : List Label) → is_empty labels ≡ false → 0 < length labels
    some [] none = absurd (false≢true (sym none))
    some (l ∷ ls) there = omega arith

    of : (r : Result (List Line) Refused) → lines_from 1 [] (split newline text) ≡ r → policy_from (canonical text) r ≡ Ok p → 0 < length p.labels
    of (Ok ls) is f =
        let same : policy_in (canonical text) ls ≡ p = cc in
        subst (λ (x : Policy). 0 < length x.labels) same (some (labels_of ls) (labels_there ls (done_from 1 [] ls (split newline text) is)))
    of (Err refused) is f = absurd (not_ok refused p f)

-- ---- guests are of levels of the policy

abbrev AreGuests : List Label → List Guest → Type 0
AreGuests labels guests = AllByRecursion (λ g. g.level.0 < length labels) guests

all_push : {X : Type 0} (P : X → Type 0) (xs : List X) (x : X) → AllByRecursion P xs → P x → AllByRecursion P (xs ++ x ∷ [])
all_push P [] x all is = (is, tt)
all_push P (y ∷ ys) x all is = (all.0, all_push P ys x all.1 is)

more_labels : (labels : List Label) (o : Option Label) → length labels ≤ length (and_some labels o)
more_labels labels None = omega arith
more_labels labels (Some l) = omega (arith, length_push labels l)

guests_more : (labels : List Label) (guests : List Guest) (o : Option Guest) → ((g : Guest) → o ≡ Some g → g.level.0 < length labels) → AreGuests labels guests → AreGuests labels (and_some guests o)
guests_more labels guests None new are = are
guests_more labels guests (Some g) new are = all_push (λ g. g.level.0 < length labels) guests g are (new g refl)

new_guest : (ls : List Line) (line : Line) (g : Guest) → fits ls line ≡ true → guest_in line ≡ Some g → g.level.0 < length (labels_of ls)
new_guest ls (guest_line class uid level) g fit e =
    let known = (and_parts (nat_le class MAX_CLASS) (is_known (labels_of ls) level) fit).1 in
    let below : level < length (labels_of ls) = grind (arith, nat_tests, known) in
    let made : record { class = class; uid = uid; level = record { 0 = level } } ≡ g = cc in
    subst (λ (x : Guest). x.level.0 < length (labels_of ls)) made below
new_guest ls line g fit e = absurd (cc)

guest_more : (ls : List Line) (line : Line) → AreGuests (labels_of ls) (guests_of ls) → fits ls line ≡ true → AreGuests (labels_of (ls ++ line ∷ [])) (guests_of (ls ++ line ∷ []))
guest_more ls line are fit =
    let longer = more_labels (labels_of ls) (label_in line) in
    let all = guests_more (labels_of ls) (guests_of ls) (guest_in line) (λ g e. new_guest ls line g fit e) are in
    rw (one_more label_in ls line, one_more guest_in ls line) (all_weaker _ _ (λ g below. omega (arith, below, longer)) _ all)

guests_known : (p : Policy) (text : List ℕ) → policy_of text ≡ Ok p → AreGuests p.labels p.guests
guests_known p text e =
    let lines = lines_of (λ ls. AreGuests (labels_of ls) (guests_of ls)) (λ ls ws line are w fit. guest_more ls line are fit) text p tt e in
    subst (λ (x : Policy). AreGuests x.labels x.guests) lines.2 lines.1

-- ---- callers

module _ (p : Policy) (text : List ℕ) (is : policy_of text ≡ Ok p) where
  guest_level_known : (class : ℕ) (user : Option ℕ) (level : ℕ) → guest_level p class user ≡ Some level → level < length p.labels
  guest_level_known class user level e = at (find (is_for class user) p.guests) refl e
    where
      at : (o : Option Guest) → find (is_for class user) p.guests ≡ o → option_map (λ (g : Guest). g.level.0) o ≡ Some level → level < length p.labels
      at None found e = absurd cc
      at (Some g) found e =
          let own : g.level.0 ≡ level = cc in
          subst (λ (n : ℕ). n < length p.labels) own (all_find (λ g. g.level.0 < length p.labels) (is_for class user) p.guests g (guests_known p text is) found).0

  module _ (class level : ℕ) (enforces : p.mode ≡ Enforcing) where
    by_known : (o : Option ℕ) → ((l : ℕ) → o ≡ Some l → l < length p.labels) → level_of (guest_by o) ≡ Some level → level < length p.labels
    by_known None known e = absurd cc
    by_known (Some l) known e = let own : l ≡ level = cc in subst (λ (n : ℕ). n < length p.labels) own (known l refl)

    in_known : (mode : Mode) → mode ≡ Enforcing → (user : Option ℕ) → level_of (caller_in mode p class user) ≡ Some level → level < length p.labels
    in_known Enforcing m user e = by_known (guest_level p class user) (λ l found. guest_level_known class user l found) e
    in_known Limited m user e = absurd cc

    guest_known : (procedure : ℕ) (user : Option ℕ) → level_of (guest p class procedure user) ≡ Some level → level < length p.labels
    guest_known procedure user e = at (procedure == PROC_NULL) e
      where
        at : (b : Bool) → level_of (cond b Null (caller_in p.mode p class user)) ≡ Some level → level < length p.labels
        at true e = absurd cc
        at false e = in_known p.mode enforces user e

    of_known : {E : Type 0} (procedure : ℕ) (r : Result Sys E) → level_of (guest_of p class procedure r) ≡ Some level → level < length p.labels
    of_known procedure (Ok sys) e = guest_known procedure (Some sys.uid) e
    of_known procedure (Err why) e = absurd cc

    unsigned_known : (m : Signing) (call : CallMessage) → (call.credential.flavor == RPCSEC_GSS) ≡ false → level_of (who m p class call) ≡ Some level → level < length p.labels
    unfolding who
    unsigned_known m call flavor e = first (call.credential.flavor == AUTH_NONE) e
      where
        third : (b : Bool) → b ≡ false → level_of (cond b (by_gss p.mode m p call) (Nobody AUTH_TOOWEAK)) ≡ Some level → level < length p.labels
        third true none e = absurd (false≢true (sym none))
        third false none e = absurd cc

        second : (b : Bool) → level_of (cond b (guest_of p class call.procedure (sys_of call.credential.body)) (cond (call.credential.flavor == RPCSEC_GSS) (by_gss p.mode m p call) (Nobody AUTH_TOOWEAK))) ≡ Some level → level < length p.labels
        second true e = of_known call.procedure (sys_of call.credential.body) e
        second false e = third (call.credential.flavor == RPCSEC_GSS) flavor e

        first : (b : Bool) → level_of (cond b (guest p class call.procedure None) (cond (call.credential.flavor == AUTH_SYS) (guest_of p class call.procedure (sys_of call.credential.body)) (cond (call.credential.flavor == RPCSEC_GSS) (by_gss p.mode m p call) (Nobody AUTH_TOOWEAK)))) ≡ Some level → level < length p.labels
        first true e = guest_known call.procedure None e
        first false e = second (call.credential.flavor == AUTH_SYS) e

    enforced_known : (m : Signing) (call : CallMessage) → level_of (who m p class call) ≡ Some level → level < length p.labels
    enforced_known m call e = at (call.credential.flavor == RPCSEC_GSS) refl
      where
        at : (gss : Bool) → (call.credential.flavor == RPCSEC_GSS) ≡ gss → level < length p.labels
        at true flavor = (vouched m p class call level (grind (arith, nat_tests, flavor)) e).1.is_level
        at false flavor = unsigned_known m call flavor e

  -- a caller that has a level has one of the site
  caller_level : (m : Signing) (class : ℕ) (call : CallMessage) (level : ℕ) → level_of (who m p class call) ≡ Some level → is_level (site_of p) level ≡ true
  caller_level m class call level e = at p.mode refl
    where
      at : (mode : Mode) → p.mode ≡ mode → cond (is_limited p.mode) (level == 0) (nat_lt level (length p.labels)) ≡ true
      at Enforcing mode = rw mode (below_is level (length p.labels) (enforced_known class level mode m call e))
      at Limited mode = rw mode (let own = lowest_of_all p class level m call mode e in grind (arith, nat_tests, own))

  pub event_level : (m : Signing) (class : ℕ) (bytes : List ℕ) (level : ℕ) → event.level_of m p class bytes ≡ Some level → is_level (site_of p) level ≡ true
  event_level m class bytes level e = at (call_of bytes) e
    where
      at : (r : Result CallMessage CallError) → level_by m p class r ≡ Some level → is_level (site_of p) level ≡ true
      at (Err why) e = absurd cc
      at (Ok call) e = caller_level m class call level e

  -- the level of the root
  pub first_level : is_level (site_of p) 0 ≡ true
  first_level = at (is_limited p.mode)
    where
      at : (b : Bool) → cond b (0 == 0) (nat_lt 0 (length p.labels)) ≡ true
      at true = refl
      at false = below_is 0 (length p.labels) (some_level p text is)
