-- What the client takes of a reply is what the client of the law takes.
use Rattle.std.proofs.Common.{◌≡◌, ℕ, ◌+◌, ◌/◌, ◌%◌, ◌≤◌, ◌<◌, ◌^◌, ◌==◌, Bool, true, false, cond, ◌&&◌, ◌||◌, List, length, Option, Some, None, Result, Ok, Err, refl, sym, ap, ◌∙◌, subst, arith}
use Rattle.std.specs.Prelude.{IfSome, IsSome, nat_lt, if◌then◌else◌}
use Rattle.std.specs.List.{AllByRecursion}
use Rattle.std.specs.Str.{bytes_eq}
use Rattle.std.proofs.lemmas.Bool.{and_parts, ltb-true, eqb-true}
use Rattle.std.proofs.lemmas.Slice.Eq.{bytes_eq-Decides}
use Rattle.lnfs_arguments.specs.declared.types.Op.{Op}
use Rattle.lnfs_arguments.specs.Identifiers.{session_id}
use Rattle.lnfs_results.specs.declared.types.OpResult.TheVariants as results
use Rattle.lnfs_policy.specs.declared.rows.Parent.{Parent}
use Rattle.lnfs_policy.specs.Policy.{Policy}
use Rattle.lnfs_gss3.specs.Mechanism.{Signing}
use Rattle.lnfs_answers.specs.declared.types.Told.{Told}
use Rattle.lnfs_answers.specs.declared.types.Told.TheVariants as told
use Rattle.lnfs_answers.specs.declared.types.Said.{Said}
use Rattle.lnfs_answers.specs.declared.request.Heard.{Heard}
use Rattle.lnfs_answers.specs.declared.request.Heard.TheVariants as heards
use Rattle.lnfs_script.specs.declared.action.Action.{Action}
use Rattle.lnfs_script.specs.declared.action.Action.TheVariants as actions
use Rattle.lnfs_script.specs.declared.identity.Identity.{Identity}
use Rattle.lnfs_script.specs.declared.identity.Identity.TheVariants as identities
use Rattle.lnfs_script.specs.Fits.{IdentitySuits}
use Rattle.lnfs_asking.specs.declared.sent.Sent.{Sent}
use Rattle.lnfs_client.specs.declared.known.Known.{Known}
use Rattle.lnfs_client.specs.declared.known.Running.{Running}
use Rattle.lnfs_client.specs.declared.stage.Stage.{Stage}
use Rattle.lnfs_client.specs.declared.stage.Stage.TheVariants.{Asserting, Exchanging, Creating, Reclaiming, Asking, Changing, Closing, EndingSession, EndingClient, EndingContext}
use Rattle.lnfs_client.specs.declared.answer.Answer.TheVariants as answers
use Rattle.lnfs_client.specs.declared.answer.Refusal.{Refusal}
use Rattle.lnfs_client.specs.declared.answer.Refusal.TheVariants as refusals
use Rattle.lnfs_client.specs.Told.{last_in, is_end}
use Rattle.lnfs_client.specs.Machine.{signer_of, ended, refuses, answered, goes_to, exchanged, created, opened_by, kept_at, kept_in, at_target, changed, without_client, moved, judged, succeeded_by, succeeded, said, next}
use Rattle.lnfs_client.proofs.Bounds.{kept_fits}
use Rattle.lnfs_client.proofs.Steps.{Keeps, next_keeps}
use Rattle.lnfs_world.specs.declared.numbers.TheConstants.{LAST_NUMBER}
use Rattle.lnfs_operations.specs.Extra.{Extra}
use Rattle.lnfs_operations.specs.Identifiers.{session_named}
use Rattle.lnfs_once.specs.Client.{Assert, Exchange, Create, Client, Made, Granted, Nothing, learned}
use Rattle.lnfs_retries.specs.Packets.{Setting, handle_in, known_by, made_number, made_by, granted_by, told_by}
use Rattle.lnfs_retries.proofs.Agreeing.{has_context_at, has_client_at, has_session_at, Has, ContextFits, OnAsserting, AssertsWell, signer, parent, Waits, Agrees}
use Rattle.lnfs_retries.proofs.Openings.{ToldFits, SaidFits, last_fits}

-- ---- what stays of the client's numbers

abbrev pub Same : Known → Known → Type 0
Same k n = (n.sent ≡ k.sent) × (n.context ≡ k.context) × (n.client ≡ k.client) × (n.creating ≡ k.creating) × (n.session ≡ k.session) × (n.sequence ≡ k.sequence)

abbrev NoneAwaited : Option Running → Type 0
NoneAwaited None = Unit {0}
NoneAwaited (Some r) = r.awaited ≡ None

abbrev OpenedFits : Running → Type 0
OpenedFits r = length r.opened.other ≡ 12

pub record Went (o : Option Parent) (k n : Known) : Type 0 where
  pub same : Same k n
  pub waits : NoneAwaited n.running
  pub opened : IfSome n.running OpenedFits
  pub asserts : AssertsWell n.running n.mounted o

module _ (o : Option Parent) where
  over : (k : Known) (b : Bool) → Went o k (record k { mounted = b; running = None })
  over k b = record { same = (refl, refl, refl, refl, refl, refl); waits = tt; opened = tt; asserts = tt }

  -- the action goes on
  on : (k : Known) (r : Running) (stage : Stage) → OpenedFits r → OnAsserting stage k.mounted o → Went o k (goes_to k r stage).client
  on k r stage opened asserts = record { same = (refl, refl, refl, refl, refl, refl); waits = refl; opened = opened; asserts = asserts }

  opened_fits : (r : Running) (last : Option Told) → OpenedFits r → IfSome last ToldFits → OpenedFits (opened_by r last)
  unfolding opened_by
  opened_fits r (Some (told.Other (results.Open id info rflags set delegation))) opened fits = fits
  opened_fits r last opened fits = opened

  kept_at_fits : (p : Policy) (r : Running) (rs : List Told) (action : Action) → OpenedFits r → OpenedFits (kept_at p r rs action)
  kept_at_fits p r rs (actions.List path) opened = opened
  kept_at_fits p r rs (actions.Read path offset count) opened = opened
  kept_at_fits p r rs action opened = opened

  kept_fit : (p : Policy) (r : Running) (rs : List Told) (stage : Stage) → OpenedFits r → OpenedFits (kept_in p r rs stage)
  unfolding kept_in
  kept_fit p r rs Asking opened = kept_at_fits p r rs r.action opened
  kept_fit p r rs stage opened = opened

  at_target_went : (k : Known) (r : Running) (last : Option Told) (action : Action) → OpenedFits r → Went o k (at_target k r last action).client
  at_target_went k r last (actions.List path) opened =
      elim (is_end last) as (λ b. Went o k (if b then answered k (answers.Entries r.shown) else goes_to k r Asking).client) [
        | true ↦ over k k.mounted
        | false ↦ on k r Asking opened tt
      ]
  at_target_went k r last (actions.Read path offset count) opened = over k k.mounted
  at_target_went k r last action opened = on k r Changing opened tt

  changed_went : (k : Known) (r : Running) (last : Option Told) (action : Action) → OpenedFits r → IfSome last ToldFits → Went o k (changed k r last action).client
  changed_went k r last (actions.Write path offset content) opened fits = over k k.mounted
  changed_went k r last (actions.Mkdir path level) opened fits = over k k.mounted
  changed_went k r last (actions.Remove path) opened fits = over k k.mounted
  changed_went k r last (actions.Raise path level) opened fits = over k k.mounted
  changed_went k r last action opened fits = on k (opened_by r last) Closing (opened_fits r last opened fits) tt

  -- a member has a parent
  abbrev HasParent : Identity → Type 0
  HasParent (identities.Guest uid) = Unit {0}
  HasParent (identities.Full number) = IsSome o

  without_went : (k : Known) (r : Running) (who : Identity) → HasParent who → OpenedFits r → Went o k (without_client k r who).client
  without_went k r (identities.Guest uid) some opened = over k false
  without_went k r (identities.Full number) some opened = on k r EndingContext opened some

  -- a stage in the session, or one that ends it
  moved_went : (k : Known) (r : Running) (last : Option Told) (stage : Stage) → has_session_at stage ≡ true → HasParent k.identity → OpenedFits r → IfSome last ToldFits → Went o k (moved k r last stage).client
  unfolding moved
  moved_went k r last Asserting e some opened fits = absurd cc
  moved_went k r last Exchanging e some opened fits = absurd cc
  moved_went k r last Creating e some opened fits = absurd cc
  moved_went k r last Reclaiming e some opened fits = over k true
  moved_went k r last Asking e some opened fits = at_target_went k r last r.action opened
  moved_went k r last Changing e some opened fits = changed_went k r last r.action opened fits
  moved_went k r last Closing e some opened fits = over k k.mounted
  moved_went k r last EndingSession e some opened fits = on k r EndingClient opened tt
  moved_went k r last EndingClient e some opened fits = without_went k r k.identity some opened
  moved_went k r last EndingContext e some opened fits = over k false

  verdict_went : (p : Policy) (k : Known) (r : Running) (rs : List Told) (verdict : Result (Unit {0}) Refusal) → has_session_at r.stage ≡ true → HasParent k.identity → OpenedFits r → AllByRecursion ToldFits rs → Went o k (succeeded_by p k r rs verdict).client
  verdict_went p k r rs (Err cause) e some opened fits = over k k.mounted
  verdict_went p k r rs (Ok fine) e some opened fits = moved_went k (kept_in p r rs r.stage) (last_in rs) r.stage e some (kept_fit p r rs r.stage opened) (last_fits rs fits)

  said_went : (p : Policy) (k : Known) (r : Running) (s : Said) → has_session_at r.stage ≡ true → HasParent k.identity → OpenedFits r → SaidFits s → Went o k (said p k r s).client
  said_went p k r s e some opened fits =
      elim (s.status == 0) as (λ b. Went o k (if b then succeeded p k r s.results else refuses k (refusals.ServerSaid s.status)).client) [
        | true ↦ verdict_went p k r s.results (judged p k r.action r.stage s.results) e some opened fits
        | false ↦ over k k.mounted
      ]

-- ---- the client afterwards

-- the client with its action in a stage, where a request is unanswered
abbrev pub waiting : Running → Stage → Sent → Running
waiting r stage sent = record r { stage = stage; awaited = Some sent }

abbrev pub waiting_at : Known → Running → Stage → Sent → Known
waiting_at k r stage sent = record k { running = Some (waiting r stage sent) }

module _ (X : Extra) (m : Signing) (p : Policy) (s : Setting) (level : ℕ) (known : IdentitySuits p s.who) where
  abbrev Fits : Known → Client (List Op) → Type 0
  Fits k c = Agrees X m p s level k c

  abbrev own : Option Parent
  own = signer X m p s level

  parent_is : (who : Identity) → IdentitySuits p who → HasParent (signer_of p who) who
  parent_is (identities.Guest uid) suits = tt
  parent_is (identities.Full number) suits = suits

  none_waits : (o : Option Running) → NoneAwaited o → Waits X m p s level o None
  none_waits None e = tt
  none_waits (Some r) e = at r.awaited e
    where
      at : (sent : Option Sent) → sent ≡ None → Waits X m p s level (Some (record r { awaited = sent })) None
      at None f = tt
      at (Some sent) f = absurd cc

  module _ (k : Known) (r : Running) (stage : Stage) (sent : Sent) (c : Client (List Op)) (a : Fits (waiting_at k r stage sent) c) where
    abbrev K : Known
    K = waiting_at k r stage sent

    abbrev R : Running
    R = waiting r stage sent

    abbrev free : Client (List Op)
    free = record c { awaited = None }

    has_parent : HasParent own K.identity
    has_parent = subst (HasParent own) (sym a.identity) (parent_is s.who known)

    context_less : (o : Option Parent) (old new : Type 0) → (new → old) → ContextFits o old c.context → ContextFits o new c.context
    context_less None old new less fits = fits
    context_less (Some under) old new less fits = (λ h. fits.0 (less h), fits.1)

    -- the numbers are as before
    gone : (n : Known) → Went own (ended K) n → Keeps (ended K) R n → (Has has_context_at n → Has has_context_at K) → (Has has_client_at n → Has has_client_at K) → (Has has_session_at n → Has has_session_at K) → Fits n free
    gone n went kept contexts clients sessions = record {
      identity = kept.client.1 ∙ a.identity;
      level_is = ap (λ l. l.0) kept.client.0 ∙ a.level_is;
      owner = kept.client.2 ∙ a.owner;
      sent = a.sent ∙ sym went.same.0;
      context = went.same.1 ∙ a.context;
      inside = context_less own (Has has_context_at K) (Has has_context_at n) contexts a.inside;
      waits = none_waits n.running went.waits;
      client = λ h. let had = a.client (clients h) in (went.same.2 ∙ had.0, had.1, went.same.3 ∙ had.2, had.3);
      session = λ h. let had = a.session (sessions h) in let same = went.same.5 in let sent = went.same.0 in let few = had.3 in (went.same.4 ∙ had.0, had.1, went.same.5 ∙ had.2, omega (arith, same, sent, few));
      fits = kept_fits (ended K) n R (record { owner = a.fits.owner; running = tt }) a.fits.running kept;
      opened = went.opened;
      asserts = went.asserts;
    }

    kept_of : (h : Heard) → Keeps (ended K) R (next p (ended K) R h).client
    kept_of h = next_keeps p (ended K) R h a.fits.running.1

    -- an action that ends leaves what a mounted client has
    over_has : (has : Stage → Bool) → Has has (ended K) → Has has K
    over_has has h = at k.mounted h
      where
        at : (b : Bool) → (b || false) ≡ true → (b || has stage) ≡ true
        at true e = refl
        at false e = absurd cc

    refused : (cause : Refusal) (h : Heard) → (next p (ended K) R h).client ≡ ended K → Fits (ended K) free
    refused cause h e = gone (ended K) (over own (ended K) k.mounted) (subst (Keeps (ended K) R) e (kept_of h)) (over_has has_context_at) (over_has has_client_at) (over_has has_session_at)

    pub refused_denied : (stat : ℕ) → Fits (next p (ended K) R (heards.Denied stat)).client free
    unfolding next
    refused_denied stat = refused (refusals.Denied stat) (heards.Denied stat) refl

    pub refused_bad : (at : ℕ) → Fits (next p (ended K) R (heards.Bad at)).client free
    unfolding next
    refused_bad at = refused (refusals.BadReply at) (heards.Bad at) refl

    -- a stage in which it has all numbers
    all_has : (has : Stage → Bool) → has stage ≡ true → (n : Known) → Has has n → Has has K
    all_has has e n h = at k.mounted
      where
        at : (b : Bool) → (b || has stage) ≡ true
        at true = refl
        at false = e

    pub said_agrees : (x : Said) → has_session_at stage ≡ true → has_client_at stage ≡ true → has_context_at stage ≡ true → SaidFits x → Fits (next p (ended K) R (heards.Said x)).client free
    unfolding next
    said_agrees x e f g fits =
        gone (said p (ended K) R x).client (said_went own p (ended K) R x e has_parent a.opened fits) (kept_of (heards.Said x))
        (all_has has_context_at g (said p (ended K) R x).client) (all_has has_client_at f (said p (ended K) R x).client) (all_has has_session_at e (said p (ended K) R x).client)

    pub left_agrees : Fits (next p (ended K) R heards.Ended).client free
    unfolding next
    left_agrees = gone (record (ended K) { mounted = false }) (over own (ended K) false) (kept_of heards.Ended) (λ h. absurd cc) (λ h. absurd cc) (λ h. absurd cc)

  -- ---- EXCHANGE_ID

  module _ (k : Known) (r : Running) (sent : Sent) (c : Client (List Op)) (a : Fits (waiting_at k r Exchanging sent) c) where
    abbrev exchange_waits : Known
    exchange_waits = waiting_at k r Exchanging sent

    -- the client's record is told
    told_client : (client sequence flags minor : ℕ) (major scope : List ℕ) → (b : Bool) → (client / 2 ^ 32 == level && nat_lt sequence (2 ^ 32)) ≡ b → cond b (client % 2 ^ 32) (LAST_NUMBER + 1) ≤ LAST_NUMBER
        → Keeps (ended exchange_waits) (waiting r Exchanging sent) (goes_to (record (ended exchange_waits) { client = client; creating = sequence }) (waiting r Exchanging sent) Creating).client
        → Fits (goes_to (record (ended exchange_waits) { client = client; creating = sequence }) (waiting r Exchanging sent) Creating).client (record c { id = cond b (client % 2 ^ 32) (LAST_NUMBER + 1); create = sequence; awaited = None })
    told_client client sequence flags minor major scope false e le kept = absurd (omega (arith, le))
    told_client client sequence flags minor major scope true e le kept =
        let both = and_parts (client / 2 ^ 32 == level) (nat_lt sequence (2 ^ 32)) e in
        let upper : client / 2 ^ 32 ≡ level = eqb-true _ _ both.0 in
        record {
          identity = a.identity;
          level_is = a.level_is;
          owner = a.owner;
          sent = a.sent;
          context = a.context;
          inside = inside own a.inside;
          waits = tt;
          client = λ h. (omega (arith, upper), omega arith, refl, ltb-true _ _ both.1);
          session = λ h. a.session (mounted_session k.mounted h);
          fits = kept_fits (ended exchange_waits) (goes_to (record (ended exchange_waits) { client = client; creating = sequence }) (waiting r Exchanging sent) Creating).client (waiting r Exchanging sent) (record { owner = a.fits.owner; running = tt }) a.fits.running kept;
          opened = a.opened;
          asserts = tt;
        }
      where
        inside : (o : Option Parent) → ContextFits o (Has has_context_at exchange_waits) c.context → ContextFits o ((k.mounted || true) ≡ true) c.context
        inside None fits = fits
        inside (Some under) fits = fits

        mounted_session : (b : Bool) → (b || false) ≡ true → (b || false) ≡ true
        mounted_session b h = h

    exchanged_agrees : (last : Option Told) → (learned Exchange (known_by level last) c).id ≤ LAST_NUMBER
        → Keeps (ended exchange_waits) (waiting r Exchanging sent) (goes_to (exchanged (ended exchange_waits) last) (waiting r Exchanging sent) Creating).client
        → Fits (goes_to (exchanged (ended exchange_waits) last) (waiting r Exchanging sent) Creating).client (record (learned Exchange (known_by level last) c) { awaited = None })
    unfolding exchanged
    exchanged_agrees (Some (told.Other (results.ExchangeId client sequence flags minor major scope))) le kept = told_client client sequence flags minor major scope (client / 2 ^ 32 == level && nat_lt sequence (2 ^ 32)) refl le kept
    exchanged_agrees last le kept = absurd (omega (arith, le))

    pub exchange_agrees : (x : Said) → (learned Exchange (told_by (parent X m p s level) level Exchange (heards.Said x)) c).id ≤ LAST_NUMBER → Fits (next p (ended exchange_waits) (waiting r Exchanging sent) (heards.Said x)).client (record (learned Exchange (told_by (parent X m p s level) level Exchange (heards.Said x)) c) { awaited = None })
    unfolding next moved kept_in
    exchange_agrees x le = at (x.status == 0) refl le (next_keeps p (ended exchange_waits) (waiting r Exchanging sent) (heards.Said x) a.fits.running.1)
      where
        at : (b : Bool) → (x.status == 0) ≡ b → (learned Exchange (cond b (known_by level (last_in x.results)) Nothing) c).id ≤ LAST_NUMBER
            → Keeps (ended exchange_waits) (waiting r Exchanging sent) (if b then succeeded p (ended exchange_waits) (waiting r Exchanging sent) x.results else refuses (ended exchange_waits) (refusals.ServerSaid x.status)).client
            → Fits (if b then succeeded p (ended exchange_waits) (waiting r Exchanging sent) x.results else refuses (ended exchange_waits) (refusals.ServerSaid x.status)).client (record (learned Exchange (cond b (known_by level (last_in x.results)) Nothing) c) { awaited = None })
        at true e le kept = exchanged_agrees (last_in x.results) le kept
        at false e le kept = gone k r Exchanging sent c a (ended exchange_waits) (over own (ended exchange_waits) k.mounted) kept (over_has k r Exchanging sent c a has_context_at) (over_has k r Exchanging sent c a has_client_at) (over_has k r Exchanging sent c a has_session_at)

  -- ---- CREATE_SESSION

  module _ (k : Known) (r : Running) (sent : Sent) (c : Client (List Op)) (a : Fits (waiting_at k r Creating sent) c) (some : 1 ≤ k.sent) where
    abbrev create_waits : Known
    create_waits = waiting_at k r Creating sent

    number_of : (session : List ℕ) (b : Bool) → (bytes_eq session (session_id level (session_named session).number) && nat_lt (session_named session).number (2 ^ 64)) ≡ b → (cond b (session_named session).number 0 ≡ 0 → ⊥) → (session ≡ session_id level (cond b (session_named session).number 0)) × (cond b (session_named session).number 0 < 2 ^ 64)
    number_of session false e not_none = absurd (not_none refl)
    number_of session true e not_none =
        let both = and_parts (bytes_eq session (session_id level (session_named session).number)) (nat_lt (session_named session).number (2 ^ 64)) e in
        let is : session ≡ session_id level (session_named session).number = grind (arith, bytes_eq-Decides, both.0) in
        (is, ltb-true _ _ both.1)

    created_agrees : (last : Option Told) → ((number : ℕ) → made_by level last ≡ Made number → number ≡ 0 → ⊥)
        → Keeps (ended create_waits) (waiting r Creating sent) (goes_to (created (ended create_waits) last) (waiting r Creating sent) Reclaiming).client
        → Fits (goes_to (created (ended create_waits) last) (waiting r Creating sent) Reclaiming).client (record (learned Create (made_by level last) c) { awaited = None })
    unfolding created
    created_agrees (Some (told.Other (results.CreateSession session sequence flags fore back))) found kept =
        let number : ℕ = made_number level session in
        let is = number_of session (bytes_eq session (session_id level (session_named session).number) && nat_lt (session_named session).number (2 ^ 64)) refl (found number refl) in
        record {
          identity = a.identity;
          level_is = a.level_is;
          owner = a.owner;
          sent = a.sent;
          context = a.context;
          inside = inside own a.inside;
          waits = tt;
          client = λ h. a.client (had k.mounted);
          session = λ h. (is.0, is.1, refl, some);
          fits = kept_fits (ended create_waits) (goes_to (record (ended create_waits) { session = session; sequence = 1 }) (waiting r Creating sent) Reclaiming).client (waiting r Creating sent) (record { owner = a.fits.owner; running = tt }) a.fits.running kept;
          opened = a.opened;
          asserts = tt;
        }
      where
        had : (b : Bool) → (b || true) ≡ true
        had true = refl
        had false = refl

        inside : (o : Option Parent) → ContextFits o (Has has_context_at create_waits) c.context → ContextFits o ((k.mounted || true) ≡ true) c.context
        inside None fits = fits
        inside (Some under) fits = fits
    created_agrees last found kept = absurd (found 0 refl refl)

    pub create_agrees : (x : Said) → ((number : ℕ) → told_by (parent X m p s level) level Create (heards.Said x) ≡ Made number → number ≡ 0 → ⊥) → Fits (next p (ended create_waits) (waiting r Creating sent) (heards.Said x)).client (record (learned Create (told_by (parent X m p s level) level Create (heards.Said x)) c) { awaited = None })
    unfolding next moved kept_in
    create_agrees x found = at (x.status == 0) refl found (next_keeps p (ended create_waits) (waiting r Creating sent) (heards.Said x) a.fits.running.1)
      where
        at : (b : Bool) → (x.status == 0) ≡ b → ((number : ℕ) → cond b (made_by level (last_in x.results)) Nothing ≡ Made number → number ≡ 0 → ⊥)
            → Keeps (ended create_waits) (waiting r Creating sent) (if b then succeeded p (ended create_waits) (waiting r Creating sent) x.results else refuses (ended create_waits) (refusals.ServerSaid x.status)).client
            → Fits (if b then succeeded p (ended create_waits) (waiting r Creating sent) x.results else refuses (ended create_waits) (refusals.ServerSaid x.status)).client (record (learned Create (cond b (made_by level (last_in x.results)) Nothing) c) { awaited = None })
        at true e found kept = created_agrees (last_in x.results) found kept
        at false e found kept = gone k r Creating sent c a (ended create_waits) (over own (ended create_waits) k.mounted) kept (over_has k r Creating sent c a has_context_at) (over_has k r Creating sent c a has_client_at) (over_has k r Creating sent c a has_session_at)

  -- ---- a context

  module _ (k : Known) (r : Running) (sent : Sent) (c : Client (List Op)) (a : Fits (waiting_at k r Asserting sent) c) where
    abbrev assert_waits : Known
    assert_waits = waiting_at k r Asserting sent

    pub grant_agrees : (handle : List ℕ) (number : ℕ) → 1 ≤ number → number ≤ LAST_NUMBER → handle ≡ handle_in (parent X m p s level) level number → granted_by (parent X m p s level) level handle ≡ Granted number
        → Fits (next p (ended assert_waits) (waiting r Asserting sent) (heards.Granted handle)).client (record (learned Assert (told_by (parent X m p s level) level Assert (heards.Granted handle)) c) { awaited = None })
    unfolding next
    grant_agrees handle number some le is told =
        subst (λ t. Fits (goes_to (record (ended assert_waits) { context = handle }) (waiting r Asserting sent) Exchanging).client (record (learned Assert t c) { awaited = None })) (sym told) (record {
          identity = a.identity;
          level_is = a.level_is;
          owner = a.owner;
          sent = a.sent;
          context = is;
          inside = inside own a.asserts.1;
          waits = tt;
          client = λ h. absurd (none k.mounted a.asserts.0 h);
          session = λ h. absurd (none k.mounted a.asserts.0 h);
          fits = record { owner = a.fits.owner; running = a.fits.running };
          opened = a.opened;
          asserts = tt;
        })
      where
        none : (b : Bool) → b ≡ false → (b || false) ≡ true → ⊥
        none true e h = cc
        none false e h = cc

        inside : (o : Option Parent) → IsSome o → ContextFits o ((k.mounted || true) ≡ true) number
        inside None found = absurd (let no : false ≡ true = found in cc)
        inside (Some under) found = (λ h. some, omega (arith, le))
