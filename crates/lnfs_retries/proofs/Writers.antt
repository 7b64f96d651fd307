-- The client's requests are written and read so where the policy gives it a level.
use Rattle.std.proofs.Common.{◌≡◌, ℕ, ◌≤◌, ◌<◌, ◌^◌, Bool, true, false, cond, List, length, Option, Some, None, Ok, Err, refl, sym, ap, ◌∙◌, subst}
use Rattle.std.specs.Prelude.{Result, IfSome, ◌==◌, ◌&&◌}
use Rattle.std.proofs.lemmas.Bool.{and_parts}
use Rattle.lnfs_arguments.specs.declared.numbers.TheConstants.{OWNER_LIMIT}
use Rattle.lnfs_arguments.specs.declared.types.Op.{Op}
use Rattle.lnfs_arguments.specs.Further.{IsLawful}
use Rattle.lnfs_format.specs.LevelRead.{level_read}
use Rattle.lnfs_format.specs.declared.formats.ReadError.{ReadError}
use Rattle.lnfs_policy.specs.declared.mode.Mode.{Mode}
use Rattle.lnfs_policy.specs.declared.mode.Mode.TheVariants.{Enforcing, Limited}
use Rattle.lnfs_policy.specs.declared.rows.Parent.{Parent}
use Rattle.lnfs_policy.specs.Policy.{Policy, parent_at}
use Rattle.lnfs_gss3.specs.Mechanism.{Signing, IsSized}
use Rattle.lnfs_gss3.specs.Grammar.{Assertion}
use Rattle.lnfs_gss3.specs.Who.{is_cleared}
use Rattle.lnfs_signed_calls.specs.Laws.{Accepts, IsParentOf}
use Rattle.lnfs_script.specs.declared.identity.Identity.{Identity}
use Rattle.lnfs_script.specs.declared.identity.Identity.TheVariants as identities
use Rattle.lnfs_answers.specs.Replies.{heard}
use Rattle.lnfs_answers.specs.declared.request.Heard.TheVariants as heards
use Rattle.lnfs_asking.specs.Labels.{spelled}
use Rattle.lnfs_asking.specs.Sending.{asserted}
use Rattle.lnfs_client.specs.Machine.{signer_of}
use Rattle.lnfs_operations.specs.Extra.{Extra}
use Rattle.lnfs_once.specs.Client.{Packet, Kind, Assert}
use Rattle.lnfs_step.specs.declared.numbers.TheConstants.{SYSTEM_ERR}
use Rattle.lnfs_step.specs.Step.{granted}
use Rattle.lnfs_step.specs.Wrapping.{called, answer_text, refusal_text}
use Rattle.lnfs_step.specs.Request.{Call, Request, MakeContext, Asked, request_with}
use Rattle.lnfs_slots.specs.OneClient.{Writer}
use Rattle.lnfs_slots.specs.Written.{alone_of, IsWriter}
use Rattle.lnfs_retries.specs.Packets.{Setting, ParentFits, UserFits, HasWords, cleared_level, asserted_level, level_by, served_level, handle_in, granted_by, suits_context, sent_as, asked_as, suits, writer_under, client_writer}
use Rattle.lnfs_retries.proofs.Pieces.{spelled_short}
use Rattle.lnfs_retries.proofs.Speaking.{Speaks, guest_speaks, member_speaks, some_handle}
use Rattle.lnfs_retries.proofs.Written.{writes, guest_contexts, is_assert_read, is_end_read, asks, heard_granted, heard_refused, tells_granted}
use Rattle.lnfs_retries.proofs.Schedules.{HearsGrants}

-- ---- a label that the parent may assert

pub record IsCleared (p : Policy) (own level : ℕ) (parent : Parent) : Type 0 where
  pub reads : level_read p.formats p.labels (spelled p own).lfs (spelled p own).pi (spelled p own).bytes ≡ Ok level
  pub cleared : is_cleared p parent level ≡ true

is_cleared_so : (p : Policy) (own level : ℕ) (under : Parent) (r : Result ℕ ReadError) → level_read p.formats p.labels (spelled p own).lfs (spelled p own).pi (spelled p own).bytes ≡ r → cleared_level p under r ≡ Some level → IsCleared p own level under
is_cleared_so p own level under (Err e) is f = absurd cc
is_cleared_so p own level under (Ok l) is f = at (is_cleared p under l) refl f
  where
    at : (b : Bool) → is_cleared p under l ≡ b → cond b (Some l) None ≡ Some level → IsCleared p own level under
    at true e f = let same : l ≡ level = cc in record { reads = is ∙ ap (λ (n : ℕ). Ok n) same; cleared = subst (λ (n : ℕ). is_cleared p under n ≡ true) same e }
    at false e f = absurd cc

-- who asserts a label has a level only where the server enforces
pub record IsMember (p : Policy) (own level number : ℕ) : Type 0 where
  pub mode : p.mode ≡ Enforcing
  pub under : Parent
  pub found : parent_at p number ≡ Some under
  pub cleared : IsCleared p own level under

is_member : (p : Policy) (s : Setting) (level number : ℕ) (mode : Mode) → p.mode ≡ mode → level_by mode p s (identities.Full number) ≡ Some level → IsMember p s.level level number
is_member p s level number Limited e f = absurd cc
is_member p s level number Enforcing e f = at (parent_at p number) refl f
  where
    at : (o : Option Parent) → parent_at p number ≡ o → asserted_level p (spelled p s.level) o ≡ Some level → IsMember p s.level level number
    at None is f = absurd cc
    at (Some under) is f = record { mode = e; under = under; found = is; cleared = is_cleared_so p s.level level under (level_read p.formats p.labels (spelled p s.level).lfs (spelled p s.level).pi (spelled p s.level).bytes) refl f }

module _ (X : Extra) (grammar : IsLawful X.grammar) (m : Signing) (sized : IsSized m) (accepts : Accepts m) (p : Policy) where
  -- ---- that the records are read

  guest_writes : (class own level uid : ℕ) (owner : List ℕ) → level < 2 ^ 32 → length owner ≤ OWNER_LIMIT → uid < 2 ^ 32 → level_by p.mode p (record { class = class; level = own; who = identities.Guest uid; owner = owner }) (identities.Guest uid) ≡ Some level → IsWriter X m p (client_writer X m p (record { class = class; level = own; who = identities.Guest uid; owner = owner }) level)
  guest_writes class own level uid owner small short user is =
      let s : Setting = record { class = class; level = own; who = identities.Guest uid; owner = owner } in
      let speaks = guest_speaks X m p class own level uid owner user is in
      writes X grammar m p s level small short None speaks (guest_contexts X grammar m p s level small short speaks)

  module _ (class own level number : ℕ) (owner : List ℕ) (small : level < 2 ^ 32) (short : length owner ≤ OWNER_LIMIT) (label : ((spelled p own).lfs < 2 ^ 32) × ((spelled p own).pi < 2 ^ 32)) (mode : p.mode ≡ Enforcing) (under : Parent) (fits : ParentFits p under) (cleared : IsCleared p own level under) where
    abbrev its : Setting
    its = record { class = class; level = own; who = identities.Full number; owner = owner }

    known : IsParentOf p under
    known = record { mode = mode; known = fits.0; number = fits.1 }

    speaks : Speaks X m p its level (Some under)
    speaks = member_speaks X m p class own level number owner under accepts sized known small cleared.cleared

    pub member_writes : IsWriter X m p (writer_under X m p its level (Some under))
    member_writes = writes X grammar m p its level small short (Some under) speaks (record {
      asserts = λ q suited. is_assert_read X m p class own level number owner under accepts sized known small cleared.cleared label (spelled_short p own) cleared.reads q suited;
      ends = λ q suited. is_end_read X m p class own level number owner under accepts sized known small cleared.cleared q suited;
    })

  -- ---- that contexts are heard

  no_and : (b : Bool) → (b && false) ≡ true → ⊥
  no_and true e = cc
  no_and false e = cc

  never : (s : Setting) (level : ℕ) (q : Packet (List Op)) → suits X m p s level None q ≡ true → q.kind ≡ Assert → ⊥
  never s level q suited kind =
      let asks : suits_context None q.kind q.place.context ≡ true = (and_parts _ _ (and_parts _ _ suited).1).0 in
      no_and (q.place.context == 0) (subst (λ (k : Kind). suits_context None k q.place.context ≡ true) kind asks)

  guest_hears : (s : Setting) (level : ℕ) (written : IsWriter X m p (writer_under X m p s level None)) → HearsGrants X m p s level None written
  guest_hears s level written = record {
    grants = λ q suited kind number some le. absurd (never s level q suited kind);
    refuses = λ q suited kind. absurd (never s level q suited kind);
  }

  module _ (class own level number : ℕ) (owner : List ℕ) (small : level < 2 ^ 32) (label : ((spelled p own).lfs < 2 ^ 32) × ((spelled p own).pi < 2 ^ 32)) (mode : p.mode ≡ Enforcing) (under : Parent) (fits : ParentFits p under) (cleared : IsCleared p own level under) (written : IsWriter X m p (writer_under X m p (record { class = class; level = own; who = identities.Full number; owner = owner }) level (Some under))) where
    abbrev of_member : Setting
    of_member = record { class = class; level = own; who = identities.Full number; owner = owner }

    abbrev w : Writer (List Op)
    w = writer_under X m p of_member level (Some under)

    is_known : IsParentOf p under
    is_known = record { mode = mode; known = fits.0; number = fits.1 }

    abbrev a : Assertion
    a = asserted (spelled p own)

    module _ (q : Packet (List Op)) (suited : suits X m p of_member level (Some under) q ≡ true) (kind : q.kind ≡ Assert) where
      abbrev asking : Packet (List Op)
      asking = record q { kind = Assert }

      asking_suits : suits X m p of_member level (Some under) asking ≡ true
      asking_suits = subst (λ (k : Kind). suits X m p of_member level (Some under) (record q { kind = k }) ≡ true) kind suited

      request : request_with X.grammar m p class (w.text asking) ≡ Asked (alone_of X m p w asking) (MakeContext under.number a)
      request = asks X m p class own level number owner under accepts sized is_known small cleared.cleared label (spelled_short p own) cleared.reads q asking_suits

      request_is : request_with X.grammar m p class (w.text q) ≡ Asked (alone_of X m p w q) (MakeContext under.number a)
      request_is = subst (λ (k : Kind). request_with X.grammar m p class (w.text (record q { kind = k })) ≡ Asked (alone_of X m p w (record q { kind = k })) (MakeContext under.number a)) (sym kind) request

      same_assertion : (r : Request) (c : Call) (n : ℕ) (x y : Assertion) → r ≡ Asked c (MakeContext n x) → r ≡ Asked c (MakeContext n y) → x ≡ y
      same_assertion r c n x y e f = cc

      assertion_is : (written.assert q suited kind).assertion ≡ a
      assertion_is = same_assertion (request_with X.grammar m p class (w.text q)) (alone_of X m p w q) under.number (written.assert q suited kind).assertion a (written.assert q suited kind).request request_is

      granted_at : (context : ℕ) → 1 ≤ context → heard m (asked_as X m p of_member level (Some under) (sent_as X m p of_member level (Some under) asking)) (answer_text m (w.wrapping asking) q.xid (granted (alone_of X m p w asking) under.number a context)) ≡ heards.Granted (handle_in under.number level context)
      granted_at context some =
          heard_granted X m p class own level number owner under accepts sized is_known small cleared.cleared label (spelled_short p own) cleared.reads q asking_suits context
          ∙ ap (λ (h : List ℕ). heards.Granted h) (sym (some_handle X m p class own level number owner under accepts sized is_known small cleared.cleared context some))

      hears_grant : (context : ℕ) → 1 ≤ context → heard m (asked_as X m p of_member level (Some under) (sent_as X m p of_member level (Some under) q)) (answer_text m (w.wrapping q) q.xid (granted (alone_of X m p w q) under.number (written.assert q suited kind).assertion context)) ≡ heards.Granted (handle_in under.number level context)
      hears_grant context some =
          ap (λ (x : Assertion). heard m (asked_as X m p of_member level (Some under) (sent_as X m p of_member level (Some under) q)) (answer_text m (w.wrapping q) q.xid (granted (alone_of X m p w q) under.number x context))) assertion_is
          ∙ subst (λ (k : Kind). heard m (asked_as X m p of_member level (Some under) (sent_as X m p of_member level (Some under) (record q { kind = k }))) (answer_text m (w.wrapping (record q { kind = k })) q.xid (granted (alone_of X m p w (record q { kind = k })) under.number a context)) ≡ heards.Granted (handle_in under.number level context)) (sym kind) (granted_at context some)

      hears_refusal : (at : ℕ) × (heard m (asked_as X m p of_member level (Some under) (sent_as X m p of_member level (Some under) q)) (refusal_text m (w.wrapping q) q.xid (called SYSTEM_ERR)) ≡ heards.Bad at)
      hears_refusal = subst (λ (k : Kind). (at : ℕ) × (heard m (asked_as X m p of_member level (Some under) (sent_as X m p of_member level (Some under) (record q { kind = k }))) (refusal_text m (w.wrapping (record q { kind = k })) q.xid (called SYSTEM_ERR)) ≡ heards.Bad at)) (sym kind)
          (heard_refused X m p class own level number owner under accepts sized is_known small cleared.cleared label (spelled_short p own) cleared.reads q asking_suits)

    pub member_hears : HearsGrants X m p of_member level (Some under) written
    member_hears = record {
      grants = λ q suited kind context some le. (
        hears_grant q suited kind context some,
        ap (granted_by under.number level) (some_handle X m p class own level number owner under accepts sized is_known small cleared.cleared context some)
            ∙ tells_granted X m p class own level number owner under accepts sized is_known small cleared.cleared context some le,
      );
      refuses = λ q suited kind. hears_refusal q suited kind;
    }

  -- ---- the client

  pub record Runs (s : Setting) (level : ℕ) : Type 0 where
    pub writes : IsWriter X m p (client_writer X m p s level)
    pub hears : HearsGrants X m p s level (signer_of p s.who) writes

  some_is : {T : Type 0} (P : T → Type 0) (o : Option T) (x : T) → o ≡ Some x → IfSome o P → P x
  some_is P o x e all = subst (λ o. IfSome o P) e all

  runs_as : (s : Setting) (level : ℕ) → level < 2 ^ 32 → length s.owner ≤ OWNER_LIMIT → ((spelled p s.level).lfs < 2 ^ 32) × ((spelled p s.level).pi < 2 ^ 32) → (who : Identity) → UserFits who → IfSome (signer_of p who) (ParentFits p) → level_by p.mode p (record s { who = who }) who ≡ Some level → Runs (record s { who = who }) level
  runs_as s level small short label (identities.Guest uid) user parents served =
      let writes = guest_writes s.class s.level level uid s.owner small short user served in
      record { writes = writes; hears = guest_hears (record s { who = identities.Guest uid }) level writes }
  runs_as s level small short label (identities.Full number) user parents served =
      let is = is_member p (record s { who = identities.Full number }) level number p.mode refl served in
      let fits = some_is (ParentFits p) (parent_at p number) is.under is.found parents in
      let its : Setting = record s { who = identities.Full number } in
      let writes : IsWriter X m p (client_writer X m p its level) = subst (λ (o : Option Parent). IsWriter X m p (writer_under X m p its level o)) (sym is.found) (member_writes s.class s.level level number s.owner small short label is.mode is.under fits is.cleared) in
      let hears = subst (λ (o : Option Parent). (written : IsWriter X m p (writer_under X m p its level o)) → HearsGrants X m p its level o written) (sym is.found) (λ written. member_hears s.class s.level level number s.owner small label is.mode is.under fits is.cleared written) in
      record { writes = writes; hears = hears writes }

  pub level_small : (s : Setting) (level : ℕ) → HasWords p s → served_level p s ≡ Some level → level < 2 ^ 32
  level_small s level words served = some_is (λ (level : ℕ). level < 2 ^ 32) (served_level p s) level served words.level

  pub runs : (s : Setting) (level : ℕ) → HasWords p s → served_level p s ≡ Some level → Runs s level
  runs s level words served = runs_as s level (some_is (λ (level : ℕ). level < 2 ^ 32) (served_level p s) level served words.level) words.owner words.label s.who words.user words.parent served
