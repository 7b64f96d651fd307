-- The client that the repository ships has the numbers of the client of the law.
use Rattle.std.proofs.Common.{◌≡◌, ℕ, ◌+◌, ◌≤◌, ◌<◌, ◌^◌, ◌==◌, Bool, true, false, cond, not, ◌&&◌, ◌||◌, List, length, drop, replicate, codes, Option, Some, None, refl, sym, ap, ◌∙◌, subst, arith}
use Rattle.std.specs.Prelude.{IfSome, IsSome, nat_lt}
use Rattle.std.specs.Int.{w64, from_be_bytes}
use Rattle.std.proofs.lemmas.Bool.{ltb-true, eqb-true}
use Rattle.std.proofs.lemmas.Bool.Decides.{nat_tests}
use Rattle.std.proofs.lemmas.List.{length-append}
use Rattle.std.proofs.lemmas.Nat.{from_be_bytes-to_be_bytes_8}
use Rattle.lnfs_xdr.specs.Canon.{word, long}
use Rattle.lnfs_xdr.proofs.Sizes.{length-word, length-long, length-opaque}
use Rattle.lnfs_arguments.specs.declared.types.Op.{Op}
use Rattle.lnfs_arguments.specs.Identifiers.{client_id, session_id}
use Rattle.lnfs_requests.specs.Texts.{compound_text}
use Rattle.lnfs_policy.specs.declared.rows.Parent.{Parent}
use Rattle.lnfs_policy.specs.Policy.{Policy}
use Rattle.lnfs_rpc.specs.declared.numbers.TheConstants.{PROC_COMPOUND}
use Rattle.lnfs_rpc.specs.Calls.{OpaqueAuth}
use Rattle.lnfs_gss3.specs.Grammar.{handle_text}
use Rattle.lnfs_gss3.specs.Mechanism.{Signing, IsSized}
use Rattle.lnfs_calls.specs.CallTexts.{auth_text, header_text, no_auth}
use Rattle.lnfs_calls.proofs.Called.{user_length}
use Rattle.lnfs_signed_calls.proofs.Parts.{data_size}
use Rattle.lnfs_script.specs.declared.action.Action.{Action}
use Rattle.lnfs_script.specs.declared.action.Action.TheVariants as actions
use Rattle.lnfs_script.specs.declared.identity.Identity.{Identity}
use Rattle.lnfs_script.specs.declared.identity.Identity.TheVariants as identities
use Rattle.lnfs_script.specs.Fits.{ActionFits, IdentitySuits}
use Rattle.lnfs_asking.specs.declared.plan.Plan.TheVariants as plans
use Rattle.lnfs_asking.specs.declared.sent.Sent.{Sent}
use Rattle.lnfs_asking.specs.Sending.{guest_auth, plain_call, compound_of, sent_of}
use Rattle.lnfs_client.specs.declared.known.Known.{Known}
use Rattle.lnfs_client.specs.declared.known.Running.{Running}
use Rattle.lnfs_client.specs.declared.stage.Stage.{Stage}
use Rattle.lnfs_client.specs.declared.stage.Stage.TheVariants.{Asserting, Exchanging, Creating, EndingContext}
use Rattle.lnfs_client.specs.Fits.{KnownFits}
use Rattle.lnfs_client.specs.Stages.{first_stage}
use Rattle.lnfs_client.specs.Machine.{begun, beginning, is_mount, number_after, signer_of, speaker_under}
use Rattle.lnfs_world.specs.declared.numbers.TheConstants.{LAST_SEQUENCE}
use Rattle.lnfs_operations.specs.Extra.{Extra}
use Rattle.lnfs_once.specs.Client.{Packet, Client, following}
use Rattle.lnfs_retries.specs.Packets.{Setting, number_of_parent, handle_in, sent_as}
use Rattle.lnfs_retries.specs.Schedule.{kind_at}

-- ---- which numbers a client has in a stage

abbrev pub has_context_at : Stage → Bool
has_context_at Asserting = false
has_context_at stage = true

abbrev pub has_client_at : Stage → Bool
has_client_at Asserting = false
has_client_at Exchanging = false
has_client_at stage = true

abbrev pub has_session_at : Stage → Bool
has_session_at Asserting = false
has_session_at Exchanging = false
has_session_at Creating = false
has_session_at stage = true

abbrev pub in_running : (Stage → Bool) → Option Running → Bool
in_running has None = false
in_running has (Some r) = has r.stage

-- A client that is mounted has them all.
abbrev pub Has : (Stage → Bool) → Known → Type 0
Has has k = (k.mounted || in_running has k.running) ≡ true

-- ---- agreement

-- the number of the context is that of a handle; a guest has none
abbrev pub ContextFits : Option Parent → (Type 0) → (context : ℕ) → Type 0
ContextFits None has context = context ≡ 0
ContextFits (Some parent) has context = (has → 1 ≤ context) × (context < 2 ^ 64)

-- A context is asked for, and ends, only where the client comes under a parent; it is asked for only where it isn't mounted.
abbrev pub OnAsserting : Stage → (mounted : Bool) → Option Parent → Type 0
OnAsserting Asserting mounted o = (mounted ≡ false) × IsSome o
OnAsserting EndingContext mounted o = IsSome o
OnAsserting stage mounted o = Unit {0}

abbrev pub AssertsWell : Option Running → (mounted : Bool) → Option Parent → Type 0
AssertsWell None mounted o = Unit {0}
AssertsWell (Some r) mounted o = OnAsserting r.stage mounted o

module _ (X : Extra) (m : Signing) (p : Policy) (s : Setting) (level : ℕ) where
  abbrev pub signer : Option Parent
  signer = signer_of p s.who

  abbrev pub parent : ℕ
  parent = number_of_parent signer

  abbrev pub WaitsAt : Running → Option Sent → Option (Packet (List Op)) → Type 0
  WaitsAt r None None = Unit {0}
  WaitsAt r None (Some q) = ⊥
  WaitsAt r (Some sent) None = ⊥
  WaitsAt r (Some sent) (Some q) = (sent ≡ sent_as X m p s level signer q) × (q.kind ≡ kind_at r.stage)

  abbrev pub Waits : Option Running → Option (Packet (List Op)) → Type 0
  Waits None None = Unit {0}
  Waits None (Some q) = ⊥
  Waits (Some r) q = WaitsAt r r.awaited q

  abbrev pub HasClient : Known → Client (List Op) → Type 0
  HasClient k c = (k.client ≡ client_id level c.id) × (c.id < 2 ^ 32) × (k.creating ≡ c.create) × (c.create < 2 ^ 32)

  abbrev pub HasSession : Known → Client (List Op) → Type 0
  HasSession k c = (k.session ≡ session_id level c.session) × (c.session < 2 ^ 64) × (k.sequence ≡ c.sequence) × (k.sequence ≤ k.sent)

  pub record Agrees (k : Known) (c : Client (List Op)) : Type 0 where
    pub identity : k.identity ≡ s.who
    pub level_is : k.level.0 ≡ s.level
    pub owner : k.owner ≡ s.owner
    pub sent : c.sent ≡ k.sent
    pub context : k.context ≡ handle_in parent level c.context
    pub inside : ContextFits signer (Has has_context_at k) c.context
    pub waits : Waits k.running c.awaited
    pub client : Has has_client_at k → HasClient k c
    pub session : Has has_session_at k → HasSession k c
    pub fits : KnownFits k
    pub opened : IfSome k.running (λ (r : Running). length r.opened.other ≡ 12)
    pub asserts : AssertsWell k.running k.mounted signer

-- ---- the numbers in identifiers

pub context_read : (parent level context : ℕ) → context < 2 ^ 64 → from_be_bytes w64 (drop 8 (handle_in parent level context)) ≡ context
unfolding handle_text word long
context_read parent level context fits = at (context == 0) refl
  where
    at : (b : Bool) → (context == 0) ≡ b → from_be_bytes w64 (drop 8 (cond b (replicate 16 0) (handle_text (record { parent = parent; level = record { 0 = level }; number = context })))) ≡ context
    at true e = sym (eqb-true _ _ e)
    at false e = from_be_bytes-to_be_bytes_8 context fits

pub handle_short : (parent level context : ℕ) → length (handle_in parent level context) ≤ 16
unfolding handle_text
handle_short parent level context = at (context == 0)
  where
    at : (b : Bool) → length (cond b (replicate 16 0) (handle_text (record { parent = parent; level = record { 0 = level }; number = context }))) ≤ 16
    at true = omega arith
    at false = simp (length-append, length-word, length-long) (omega arith)

-- ---- the size of a request

auth_short : (a : OpaqueAuth) → length (auth_text a) ≤ length a.body + 11
unfolding auth_text
auth_short a = simp (length-append, length-word) (omega (arith, length-opaque a.body))

header_short : (xid procedure : ℕ) (credential : OpaqueAuth) → length (header_text xid procedure credential) ≤ length credential.body + 35
unfolding header_text
header_short xid procedure credential = simp (length-append, length-word) (omega (arith, auth_short credential))

guest_size : (uid xid : ℕ) (arguments : List ℕ) → length (plain_call uid xid PROC_COMPOUND arguments).message ≤ length arguments + 200
guest_size uid xid arguments = simp length-append (omega (arith, header_short xid PROC_COMPOUND (guest_auth uid), user_length (codes "client") uid, auth_short no_auth))

pub message_size : (m : Signing) → IsSized m → (handle : List ℕ) → length handle ≤ 16 → (o : Option Parent) (who : Identity) (xid : ℕ) (xs : List Op) → length (sent_of m (speaker_under handle o who) xid (plans.Ask xs)).message ≤ length (compound_text (compound_of xs)) + 200
unfolding sent_of
message_size m sized handle short (Some parent) who xid xs = omega (arith, data_size m sized parent xid handle (compound_text (compound_of xs)), short)
message_size m sized handle short None (identities.Guest uid) xid xs = guest_size uid xid (compound_text (compound_of xs))
message_size m sized handle short None (identities.Full number) xid xs = guest_size 0 xid (compound_text (compound_of xs))

-- ---- an action begins

-- a Mount has no client id and no session before it begins
mount_stage : (has : Stage → Bool) (who : Identity) → has Exchanging ≡ false → has Asserting ≡ false → has (first_stage who actions.Mount) ≡ false
mount_stage has (identities.Guest uid) e f = e
mount_stage has (identities.Full number) e f = f

pub mounted_has : (has : Stage → Bool) (k : Known) → k.mounted ≡ true → Has has k
mounted_has has k e = ap (λ (b : Bool). b || in_running has k.running) e

-- what a client has as an action begins it has as one that is mounted
begun_has : (has : Stage → Bool) (k : Known) (action : Action) → has (first_stage k.identity actions.Mount) ≡ false → (is_mount action || k.mounted) ≡ true → Has has (begun action k) → k.mounted ≡ true
begun_has has k actions.Mount none may h = absurd (let no : true ≡ false = sym h ∙ none in cc)
begun_has has k (actions.List path) none may h = may
begun_has has k (actions.Read path offset count) none may h = may
begun_has has k (actions.Write path offset content) none may h = may
begun_has has k (actions.Make path) none may h = may
begun_has has k (actions.Mkdir path level) none may h = may
begun_has has k (actions.Remove path) none may h = may
begun_has has k (actions.Raise path level) none may h = may
begun_has has k actions.Leave none may h = may

asserting_begun : (p : Policy) (who : Identity) (action : Action) (mounted : Bool) → IdentitySuits p who → OnAsserting (first_stage who action) (not (is_mount action) && mounted) (signer_of p who)
asserting_begun p (identities.Guest uid) actions.Mount mounted known = tt
asserting_begun p (identities.Full number) actions.Mount mounted known = (refl, known)
asserting_begun p who (actions.List path) mounted known = tt
asserting_begun p who (actions.Read path offset count) mounted known = tt
asserting_begun p who (actions.Write path offset content) mounted known = tt
asserting_begun p who (actions.Make path) mounted known = tt
asserting_begun p who (actions.Mkdir path level) mounted known = tt
asserting_begun p who (actions.Remove path) mounted known = tt
asserting_begun p who (actions.Raise path level) mounted known = tt
asserting_begun p who actions.Leave mounted known = tt

begun_inside : (p : Policy) (who : Identity) (k : Known) (action : Action) (context : ℕ) → k.identity ≡ who → (is_mount action || k.mounted) ≡ true → ContextFits (signer_of p who) (Has has_context_at k) context → ContextFits (signer_of p who) (Has has_context_at (begun action k)) context
begun_inside p (identities.Guest uid) k action context is may fits = fits
begun_inside p (identities.Full number) k action context is may fits = at (signer_of p (identities.Full number)) fits
  where
    none : has_context_at (first_stage k.identity actions.Mount) ≡ false
    none = ap (λ (who : Identity). has_context_at (first_stage who actions.Mount)) is

    at : (o : Option Parent) → ContextFits o (Has has_context_at k) context → ContextFits o (Has has_context_at (begun action k)) context
    at None fits = fits
    at (Some under) fits = (λ h. fits.0 (mounted_has has_context_at k (begun_has has_context_at k action none may h)), fits.1)

module _ (X : Extra) (m : Signing) (p : Policy) (s : Setting) (level : ℕ) (known : IdentitySuits p s.who) where
  none_waits : (o : Option Running) (q : Option (Packet (List Op))) → o ≡ None → Waits X m p s level o q → q ≡ None
  none_waits None None e w = refl
  none_waits None (Some q) e w = absurd w
  none_waits (Some r) q e w = absurd cc

  still_none : (r : Running) (q : Option (Packet (List Op))) → q ≡ None → WaitsAt X m p s level r None q
  still_none r None e = tt
  still_none r (Some q) e = absurd cc

  pub begun_agrees : (k : Known) (c : Client (List Op)) (action : Action) → Agrees X m p s level k c → k.running ≡ None → (is_mount action || k.mounted) ≡ true → ActionFits action → Agrees X m p s level (begun action k) c
  begun_agrees k c action a idle may fits = record {
    identity = a.identity;
    level_is = a.level_is;
    owner = a.owner;
    sent = a.sent;
    context = a.context;
    inside = begun_inside p s.who k action c.context a.identity may a.inside;
    waits = still_none (beginning (first_stage k.identity action) action) c.awaited (none_waits k.running c.awaited idle a.waits);
    client = λ h. a.client (mounted_has has_client_at k (begun_has has_client_at k action (mount_stage has_client_at k.identity refl refl) may h));
    session = λ h. a.session (mounted_has has_session_at k (begun_has has_session_at k action (mount_stage has_session_at k.identity refl refl) may h));
    fits = record { owner = a.fits.owner; running = (fits, tt) };
    opened = refl;
    asserts = subst (λ (who : Identity). OnAsserting (first_stage who action) (not (is_mount action) && k.mounted) (signer_of p s.who)) (sym a.identity) (asserting_begun p s.who action k.mounted known);
  }

-- ---- a request is made

-- the client with its action in a stage, where nothing is awaited
abbrev pub resting : Running → Stage → Running
resting r stage = record r { stage = stage; awaited = None }

abbrev pub idle_at : Known → Running → Stage → Known
idle_at k r stage = record k { running = Some (resting r stage) }

-- once more
pub following_is : (n : ℕ) → n < 2 ^ 32 → number_after n ≡ following LAST_SEQUENCE n
following_is n lt = at (n == LAST_SEQUENCE) refl
  where
    at : (b : Bool) → (n == LAST_SEQUENCE) ≡ b → number_after n ≡ cond b 0 (n + 1)
    at true e = let same : n ≡ LAST_SEQUENCE = eqb-true _ _ e in omega (arith, same)
    at false e = let other : (n ≡ LAST_SEQUENCE) → ⊥ = λ f. grind (arith, nat_tests, e, f) in at_most (nat_lt n LAST_SEQUENCE) refl e
      where
        at_most : (b : Bool) → nat_lt n LAST_SEQUENCE ≡ b → (n == LAST_SEQUENCE) ≡ false → number_after n ≡ n + 1
        at_most true f e = let below : n < LAST_SEQUENCE = ltb-true _ _ f in omega (arith, below)
        at_most false f e = absurd (grind (arith, nat_tests, e, f, lt))
