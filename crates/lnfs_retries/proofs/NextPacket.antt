-- The next request of the client is that of the client of the law.
use Rattle.std.proofs.Common.{◌≡◌, ℕ, ◌+◌, ◌%◌, ◌≤◌, ◌<◌, ◌^◌, ◌==◌, Bool, true, false, not, ◌&&◌, ◌||◌, List, [], ◌∷◌, ◌++◌, length, replicate, Option, Some, None, refl, sym, ap, ◌∙◌, subst, arith}
use Rattle.std.specs.Prelude.{IsSome, nat_lt, nat_le}
use Rattle.std.proofs.lemmas.Bool.Decides.{nat_tests}
use Rattle.lnfs_arguments.specs.declared.types.Op.{Op}
use Rattle.lnfs_arguments.specs.declared.types.Op.TheVariants as ops
use Rattle.lnfs_arguments.specs.Further.{IsLawful}
use Rattle.lnfs_arguments.specs.Identifiers.{client_id, session_id}
use Rattle.lnfs_requests.specs.Texts.{compound_text}
use Rattle.lnfs_policy.specs.declared.rows.Parent.{Parent}
use Rattle.lnfs_policy.specs.Policy.{Policy}
use Rattle.lnfs_gss3.specs.Mechanism.{Signing, IsSized}
use Rattle.lnfs_script.specs.declared.identity.Identity.{Identity}
use Rattle.lnfs_asking.specs.declared.plan.Plan.{Plan}
use Rattle.lnfs_asking.specs.declared.plan.Plan.TheVariants as plans
use Rattle.lnfs_asking.specs.declared.sent.Sent.{Sent}
use Rattle.lnfs_asking.specs.Labels.{spelled}
use Rattle.lnfs_asking.specs.Sending.{compound_of, sent_of}
use Rattle.lnfs_client.specs.declared.known.Known.{Known}
use Rattle.lnfs_client.specs.declared.known.Running.{Running}
use Rattle.lnfs_client.specs.declared.stage.Stage.{Stage}
use Rattle.lnfs_client.specs.declared.stage.Stage.TheVariants.{Asserting, Exchanging, Creating, Reclaiming, Asking, Changing, Closing, EndingSession, EndingClient, EndingContext}
use Rattle.lnfs_client.specs.Machine.{number_after, signer_of, speaker_under, speaker_of, posted}
use Rattle.lnfs_client.specs.Requests.{in_session, to_target, asking, change, guard, walk, names_of, ops_of, plan_in}
use Rattle.lnfs_client.specs.Runs.{most_requests}
use Rattle.lnfs_world.specs.World.{Id}
use Rattle.lnfs_world.specs.declared.numbers.TheConstants.{LAST_SEQUENCE}
use Rattle.lnfs_operations.specs.Extra.{Extra}
use Rattle.lnfs_operations.specs.Identifiers.{session_named}
use Rattle.lnfs_once.specs.Client.{Kind, Assert, Exchange, Create, Compound, Destroy, Leave, End, Packet, Client, number_of, sequence_of, packet_of, following, next_request}
use Rattle.lnfs_slots.specs.OneClient.{longest_request}
use Rattle.lnfs_slots.proofs.Naming.{session_named_is}
use Rattle.lnfs_retries.specs.Packets.{Setting, handle_in, sequence_in as its_sequence, plan_as, is_assert, is_end, suits_context, sent_as, suits_at, suits}
use Rattle.lnfs_retries.specs.Schedule.{kind_at, context_in, client_in, session_in, number_in, sequence_in, packet_for}
use Rattle.lnfs_retries.proofs.Pieces.{both_true, Piece, reclaiming, asking_piece, changing_piece, closing_piece, readable}
use Rattle.lnfs_retries.proofs.Agreeing.{has_context_at, has_client_at, has_session_at, Has, ContextFits, signer, parent, HasClient, HasSession, Agrees, context_read, handle_short, message_size, resting, idle_at, following_is}

module _ (X : Extra) (lawful : IsLawful X.grammar) (m : Signing) (sized : IsSized m) (p : Policy) (s : Setting) (level : ℕ) (small : level < 2 ^ 32) where
  abbrev Fits : Known → Client (List Op) → Type 0
  Fits k c = Agrees X m p s level k c

  abbrev own : Option Parent
  own = signer X m p s level

  abbrev handle_of : ℕ → List ℕ
  handle_of context = handle_in (parent X m p s level) level context

  -- the request of the law's client
  abbrev pub sent_for : Packet (List Op) → Sent
  sent_for q = sent_as X m p s level own q

  -- what is made in a stage
  pub record Made (k : Known) (r : Running) (stage : Stage) (c : Client (List Op)) (payload : List Op) : Type 0 where
    pub packet : packet_for p (idle_at k r stage) (resting r stage) ≡ packet_of (kind_at stage) payload c
    pub sent : sent_of m (speaker_of p (idle_at k r stage)) (k.sent + 1) (plan_in p (idle_at k r stage) (resting r stage) stage) ≡ sent_for (packet_of (kind_at stage) payload c)
    pub suited : suits X m p s level own (packet_of (kind_at stage) payload c) ≡ true
    pub agrees : (sent : Sent) → sent ≡ sent_for (packet_of (kind_at stage) payload c) → Fits (posted (idle_at k r stage) sent (Some (resting r stage))) (next_request LAST_SEQUENCE (kind_at stage) payload c)

  module _ (k : Known) (r : Running) (stage : Stage) (c : Client (List Op)) (a : Fits (idle_at k r stage) c) (room : k.sent < most_requests) where
    abbrev K : Known
    K = idle_at k r stage

    abbrev R : Running
    R = resting r stage

    -- ---- the packet

    context_fits : (o : Option Parent) (has : Type 0) → ContextFits o has c.context → c.context < 2 ^ 64
    context_fits None has fits = omega (arith, fits)
    context_fits (Some under) has fits = fits.1

    context_is : context_in K ≡ c.context
    context_is = ap (λ (handle : List ℕ). context_in (record K { context = handle })) a.context ∙ context_read (parent X m p s level) level c.context (context_fits own (Has has_context_at K) a.inside)

    packet_is : (payload : List Op) → number_in (kind_at stage) K ≡ number_of (kind_at stage) c → sequence_in (kind_at stage) K ≡ sequence_of (kind_at stage) c
        → record { xid = k.sent + 1; kind = kind_at stage; place = record { context = context_in K; number = number_in (kind_at stage) K }; sequence = sequence_in (kind_at stage) K; payload = payload } ≡ packet_of (kind_at stage) payload c
    packet_is payload number sequence = λ i. record { xid = sym a.sent i + 1; kind = kind_at stage; place = record { context = context_is i; number = number i }; sequence = sequence i; payload = payload }

    -- ---- the request

    sent_is : (asked other : Plan) → asked ≡ other → sent_of m (speaker_of p K) (k.sent + 1) asked ≡ sent_of m (speaker_under (handle_of c.context) own s.who) (c.sent + 1) other
    sent_is asked other e =
        ap (λ (plan : Plan). sent_of m (speaker_of p K) (k.sent + 1) plan) e
        ∙ ap (λ (n : ℕ). sent_of m (speaker_of p K) (n + 1) other) (sym a.sent)
        ∙ ap (λ (handle : List ℕ). sent_of m (speaker_under handle (signer_of p K.identity) K.identity) (c.sent + 1) other) a.context
        ∙ ap (λ (who : Identity). sent_of m (speaker_under (handle_of c.context) (signer_of p who) who) (c.sent + 1) other) a.identity

    -- ---- what is tested of it

    xid_suits : nat_lt (c.sent + 1) (2 ^ 32) ≡ true
    xid_suits = let same = a.sent in let below : c.sent + 1 < 2 ^ 32 = omega (arith, same, room) in grind (arith, nat_tests, below)

    inside_suits : (o : Option Parent) (kind : Kind) → is_assert kind ≡ false → (is_end kind ≡ true → IsSome o) → has_context_at stage ≡ true → ContextFits o (Has has_context_at K) c.context → suits_context o kind c.context ≡ true
    inside_suits None kind never ends has fits =
        let none : (c.context == 0) ≡ true = grind (arith, nat_tests, fits) in
        at (is_end kind) refl none
      where
        at : (b : Bool) → is_end kind ≡ b → (c.context == 0) ≡ true → (c.context == 0 && not (is_assert kind || is_end kind)) ≡ true
        at true e none = absurd (let some : false ≡ true = ends e in cc)
        at false e none = both_true none (ap (λ (b : Bool). not (b || is_end kind)) never ∙ ap (λ (b : Bool). not (false || b)) e)
    inside_suits (Some under) kind never ends has fits =
        let has_it : Has has_context_at K = at k.mounted in
        let some : 1 ≤ c.context = fits.0 has_it in
        let below = fits.1 in
        let above : nat_lt 0 c.context ≡ true = grind (arith, nat_tests, some) in
        let under : nat_lt c.context (2 ^ 64) ≡ true = grind (arith, nat_tests, below) in
        ap (λ (b : Bool). b || (nat_lt 0 c.context && nat_lt c.context (2 ^ 64))) never ∙ both_true above under
      where
        at : (b : Bool) → (b || has_context_at stage) ≡ true
        at true = refl
        at false = has

    -- ---- what holds afterwards

    -- other sequences, and one more request
    abbrev after : (creating sequence : ℕ) → Sent → Known
    after creating sequence sent = record K { creating = creating; sequence = sequence; sent = k.sent + 1; running = Some (record R { awaited = Some sent }) }

    abbrev seen : (create sequence : ℕ) → Packet (List Op) → Client (List Op)
    seen create sequence q = record c { create = create; sequence = sequence; sent = c.sent + 1; awaited = Some q }

    agrees_after : (creating sequence create next : ℕ) (sent : Sent) (q : Packet (List Op)) → sent ≡ sent_for q → q.kind ≡ kind_at stage
        → (Has has_client_at K → (creating ≡ create) × (create < 2 ^ 32)) → (Has has_session_at K → (sequence ≡ next) × (sequence ≤ k.sent + 1))
        → Fits (after creating sequence sent) (seen create next q)
    agrees_after creating sequence create next sent q is kind client session = record {
      identity = a.identity;
      level_is = a.level_is;
      owner = a.owner;
      sent = ap (λ (n : ℕ). n + 1) a.sent;
      context = a.context;
      inside = a.inside;
      waits = (is, kind);
      client = λ h. let had = a.client h in let now = client h in (had.0, had.1, now.0, now.1);
      session = λ h. let had = a.session h in let now = session h in (had.0, had.1, now.0, now.1);
      fits = record { owner = a.fits.owner; running = a.fits.running };
      opened = a.opened;
      asserts = a.asserts;
    }

    -- no sequence is spent
    agrees_still : (sent : Sent) (q : Packet (List Op)) → sent ≡ sent_for q → q.kind ≡ kind_at stage → Fits (after k.creating k.sequence sent) (seen c.create c.sequence q)
    agrees_still sent q is kind = agrees_after k.creating k.sequence c.create c.sequence sent q is kind (λ h. let had = a.client h in (had.2, had.3)) (λ h. let had = a.session h in (had.2, omega (arith, had.3)))

    has_client : has_client_at stage ≡ true → HasClient X m p s level K c
    has_client e = a.client (at k.mounted)
      where
        at : (b : Bool) → (b || has_client_at stage) ≡ true
        at true = refl
        at false = e

    has_session : has_session_at stage ≡ true → HasSession X m p s level K c
    has_session e = a.session (at k.mounted)
      where
        at : (b : Bool) → (b || has_session_at stage) ≡ true
        at true = refl
        at false = e

    client_number : has_client_at stage ≡ true → client_in K ≡ c.id
    client_number e =
        let had = has_client e in
        let fits = had.1 in
        ap (λ (n : ℕ). n % 2 ^ 32) had.0 ∙ omega (arith, fits)

    session_number : has_session_at stage ≡ true → session_in K ≡ c.session
    session_number e =
        let had = has_session e in
        ap (λ (id : List ℕ). (session_named id).number) had.0 ∙ ap (λ (i : Id). i.number) (session_named_is level c.session small had.1)

    -- ---- a COMPOUND

    compound_agrees : has_session_at stage ≡ true → (sent : Sent) (q : Packet (List Op)) → sent ≡ sent_for q → q.kind ≡ kind_at stage
        → Fits (after k.creating (number_after k.sequence) sent) (seen c.create (following LAST_SEQUENCE c.sequence) q)
    compound_agrees e sent q is kind =
        let had = has_session e in
        let same = had.2 in
        let few = had.3 in
        let lt : k.sequence < 2 ^ 32 = omega (arith, few, room) in
        agrees_after k.creating (number_after k.sequence) c.create (following LAST_SEQUENCE c.sequence) sent q is kind
        (λ h. let had = a.client h in (had.2, had.3))
        (λ h. (following_is k.sequence lt ∙ ap (following LAST_SEQUENCE) same, omega (arith, few, room)))

    compound_suits : has_session_at stage ≡ true → (payload : List Op) → Piece payload 19 7000 → (q : Packet (List Op)) → q ≡ record { xid = c.sent + 1; kind = Compound; place = record { context = c.context; number = c.session }; sequence = c.sequence; payload = payload } → suits_at X m p s level own Compound q ≡ true
    compound_suits e payload piece q is = subst (λ q. suits_at X m p s level own Compound q ≡ true) (sym is) (
        let had = has_session e in
        let same = had.2 in
        let few = had.3 in
        let lt : c.sequence < 2 ^ 32 = omega (arith, few, room, same) in
        let reads = readable X.grammar lawful level small c.session c.sequence had.1 lt payload piece in
        let arguments : List ℕ = compound_text (compound_of (ops.Sequence (its_sequence level c.session c.sequence) ∷ payload)) in
        let short : length arguments ≤ 7100 = reads.short in
        let size : length (sent_of m (speaker_under (handle_of c.context) own s.who) (c.sent + 1) (plans.Ask (ops.Sequence (its_sequence level c.session c.sequence) ∷ payload))).message ≤ length arguments + 200 =
        message_size m sized (handle_of c.context) (handle_short (parent X m p s level) level c.context) own s.who (c.sent + 1) (ops.Sequence (its_sequence level c.session c.sequence) ∷ payload) in
        both_true (within (length (sent_of m (speaker_under (handle_of c.context) own s.who) (c.sent + 1) (plans.Ask (ops.Sequence (its_sequence level c.session c.sequence) ∷ payload))).message) (omega (arith, size, short)))
        (both_true (within (length arguments) (omega (arith, short))) reads.asked))
      where
        within : (n : ℕ) → n ≤ longest_request → nat_le n longest_request ≡ true
        within n le = grind (arith, nat_tests, le)

    -- the operations begin with the SEQUENCE
    ops_same : has_session_at stage ≡ true → (payload : List Op) → in_session K ∷ payload ≡ ops.Sequence (its_sequence level c.session c.sequence) ∷ payload
    ops_same e payload =
        let had = has_session e in
        ap (λ (id : List ℕ). ops.Sequence (record { session = id; sequence = k.sequence; slot = 0; highest = 0; cachethis = true }) ∷ payload) had.0
        ∙ ap (λ (n : ℕ). ops.Sequence (its_sequence level c.session n) ∷ payload) had.2

  -- ---- stage by stage

  module _ (k : Known) (r : Running) (c : Client (List Op)) (room : k.sent < most_requests) where
    asserting : (a : Fits (idle_at k r Asserting) c) → Made k r Asserting c []
    asserting a = record {
      packet = packet_is k r Asserting c a room [] refl refl;
      sent = sent_is k r Asserting c a room (plans.Assert (spelled p k.level.0)) (plans.Assert (spelled p s.level)) (ap (λ (n : ℕ). plans.Assert (spelled p n)) a.level_is);
      suited = both_true (xid_suits k r Asserting c a room) (both_true (may own a.asserts.1) refl);
      agrees = λ sent is. agrees_still k r Asserting c a room sent (packet_of Assert [] c) is refl;
    }
      where
        may : (o : Option Parent) → IsSome o → suits_context o Assert c.context ≡ true
        may None some = absurd (let found : false ≡ true = some in cc)
        may (Some under) some = refl

    exchanging : (a : Fits (idle_at k r Exchanging) c) → Made k r Exchanging c []
    unfolding ops_of
    exchanging a = record {
      packet = packet_is k r Exchanging c a room [] refl refl;
      sent = sent_is k r Exchanging c a room (plans.Ask (ops.ExchangeId (replicate 8 0) k.owner 0 None ∷ [])) (plans.Ask (ops.ExchangeId (replicate 8 0) s.owner 0 None ∷ [])) (ap (λ (owner : List ℕ). plans.Ask (ops.ExchangeId (replicate 8 0) owner 0 None ∷ [])) a.owner);
      suited = both_true (xid_suits k r Exchanging c a room) (both_true (inside_suits k r Exchanging c a room own Exchange refl (λ e. absurd cc) refl a.inside) refl);
      agrees = λ sent is. agrees_still k r Exchanging c a room sent (packet_of Exchange [] c) is refl;
    }

    creating : (a : Fits (idle_at k r Creating) c) → Made k r Creating c []
    unfolding ops_of
    creating a =
        let had = has_client k r Creating c a room refl in
        let fits = had.1 in
        let fits_word = had.3 in
        let number : nat_lt c.id (2 ^ 32) ≡ true = grind (arith, nat_tests, fits) in
        let word : nat_lt c.create (2 ^ 32) ≡ true = grind (arith, nat_tests, fits_word) in
        record {
          packet = packet_is k r Creating c a room [] (client_number k r Creating c a room refl) had.2;
          sent = sent_is k r Creating c a room (plan_in p (idle_at k r Creating) (resting r Creating) Creating) (plan_as p s level Create (packet_of Create [] c)) (
              ap (λ (id : ℕ). plan_in p (record (idle_at k r Creating) { client = id }) (resting r Creating) Creating) had.0
              ∙ ap (λ (n : ℕ). plan_in p (record (idle_at k r Creating) { client = client_id level c.id; creating = n }) (resting r Creating) Creating) had.2);
          suited = both_true (xid_suits k r Creating c a room) (both_true (inside_suits k r Creating c a room own Create refl (λ e. absurd cc) refl a.inside) (both_true number word));
          agrees = λ sent is. agrees_after k r Creating c a room (number_after k.creating) k.sequence (following LAST_SEQUENCE c.create) c.sequence sent (packet_of Create [] c) is refl
              (λ h. (following_is k.creating (omega (arith, had.2, fits_word)) ∙ ap (following LAST_SEQUENCE) had.2, follows c.create fits_word))
              (λ h. let had = a.session h in (had.2, omega (arith, had.3)));
        }
      where
        follows : (n : ℕ) → n < 2 ^ 32 → following LAST_SEQUENCE n < 2 ^ 32
        follows n lt = let is = following_is n lt in omega (arith, is)

    ending_session : (a : Fits (idle_at k r EndingSession) c) → Made k r EndingSession c []
    unfolding ops_of
    ending_session a =
        let had = has_session k r EndingSession c a room refl in
        let fits = had.1 in
        let number : nat_lt c.session (2 ^ 64) ≡ true = grind (arith, nat_tests, fits) in
        record {
          packet = packet_is k r EndingSession c a room [] (session_number k r EndingSession c a room refl) refl;
          sent = sent_is k r EndingSession c a room (plans.Ask (ops.DestroySession k.session ∷ [])) (plans.Ask (ops.DestroySession (session_id level c.session) ∷ [])) (ap (λ (id : List ℕ). plans.Ask (ops.DestroySession id ∷ [])) had.0);
          suited = both_true (xid_suits k r EndingSession c a room) (both_true (inside_suits k r EndingSession c a room own Destroy refl (λ e. absurd cc) refl a.inside) number);
          agrees = λ sent is. agrees_still k r EndingSession c a room sent (packet_of Destroy [] c) is refl;
        }

    ending_client : (a : Fits (idle_at k r EndingClient) c) → Made k r EndingClient c []
    unfolding ops_of
    ending_client a =
        let had = has_client k r EndingClient c a room refl in
        let fits = had.1 in
        let number : nat_lt c.id (2 ^ 32) ≡ true = grind (arith, nat_tests, fits) in
        record {
          packet = packet_is k r EndingClient c a room [] (client_number k r EndingClient c a room refl) refl;
          sent = sent_is k r EndingClient c a room (plans.Ask (ops.DestroyClientId k.client ∷ [])) (plans.Ask (ops.DestroyClientId (client_id level c.id) ∷ [])) (ap (λ (id : ℕ). plans.Ask (ops.DestroyClientId id ∷ [])) had.0);
          suited = both_true (xid_suits k r EndingClient c a room) (both_true (inside_suits k r EndingClient c a room own Leave refl (λ e. absurd cc) refl a.inside) number);
          agrees = λ sent is. agrees_still k r EndingClient c a room sent (packet_of Leave [] c) is refl;
        }

    ending_context : (a : Fits (idle_at k r EndingContext) c) → Made k r EndingContext c []
    ending_context a = record {
      packet = packet_is k r EndingContext c a room [] refl refl;
      sent = sent_is k r EndingContext c a room plans.End plans.End refl;
      suited = both_true (xid_suits k r EndingContext c a room) (both_true (inside_suits k r EndingContext c a room own End refl (λ e. a.asserts) refl a.inside) refl);
      agrees = λ sent is. agrees_still k r EndingContext c a room sent (packet_of End [] c) is refl;
    }

    -- ---- the four stages that ask in the session

    client_long : (stage : Stage) → has_client_at stage ≡ true → (a : Fits (idle_at k r stage) c) → k.client < 2 ^ 64
    client_long stage e a =
        let had = has_client k r stage c a room e in
        let is = had.0 in
        let fits = had.1 in
        omega (arith, is, fits, small)

    reclaiming_made : (a : Fits (idle_at k r Reclaiming) c) → Made k r Reclaiming c (ops.ReclaimComplete false ∷ [])
    unfolding ops_of
    reclaiming_made a =
        let more : List Op = ops.ReclaimComplete false ∷ [] in
        let had = has_session k r Reclaiming c a room refl in record {
          packet = packet_is k r Reclaiming c a room more (session_number k r Reclaiming c a room refl) had.2;
          sent = sent_is k r Reclaiming c a room (plans.Ask (in_session (idle_at k r Reclaiming) ∷ more)) (plans.Ask (ops.Sequence (its_sequence level c.session c.sequence) ∷ more)) (ap (λ (xs : List Op). plans.Ask xs) (ops_same k r Reclaiming c a room refl more));
          suited = both_true (xid_suits k r Reclaiming c a room) (both_true (inside_suits k r Reclaiming c a room own Compound refl (λ e. absurd cc) refl a.inside) (compound_suits k r Reclaiming c a room refl more reclaiming (packet_of Compound more c) refl));
          agrees = λ sent is. compound_agrees k r Reclaiming c a room refl sent (packet_of Compound more c) is refl;
        }

    asking_made : (a : Fits (idle_at k r Asking) c) → Made k r Asking c (to_target r.action ++ asking r.action r.cookie)
    unfolding ops_of
    asking_made a =
        let more : List Op = to_target r.action ++ asking r.action r.cookie in
        let had = has_session k r Asking c a room refl in record {
          packet = packet_is k r Asking c a room more (session_number k r Asking c a room refl) had.2;
          sent = sent_is k r Asking c a room (plans.Ask (in_session (idle_at k r Asking) ∷ more)) (plans.Ask (ops.Sequence (its_sequence level c.session c.sequence) ∷ more)) (ap (λ (xs : List Op). plans.Ask xs) (ops_same k r Asking c a room refl more));
          suited = both_true (xid_suits k r Asking c a room) (both_true (inside_suits k r Asking c a room own Compound refl (λ e. absurd cc) refl a.inside) (compound_suits k r Asking c a room refl more (asking_piece r a.fits.running) (packet_of Compound more c) refl));
          agrees = λ sent is. compound_agrees k r Asking c a room refl sent (packet_of Compound more c) is refl;
        }

    changing_made : (a : Fits (idle_at k r Changing) c) → Made k r Changing c (to_target r.action ++ guard r ∷ change p k r.action)
    unfolding ops_of
    changing_made a =
        let more : List Op = to_target r.action ++ guard r ∷ change p k r.action in
        let had = has_session k r Changing c a room refl in record {
          packet = packet_is k r Changing c a room more (session_number k r Changing c a room refl) had.2;
          sent = sent_is k r Changing c a room (plans.Ask (in_session (idle_at k r Changing) ∷ more)) (plans.Ask (ops.Sequence (its_sequence level c.session c.sequence) ∷ more)) (ap (λ (xs : List Op). plans.Ask xs) (ops_same k r Changing c a room refl more));
          suited = both_true (xid_suits k r Changing c a room) (both_true (inside_suits k r Changing c a room own Compound refl (λ e. absurd cc) refl a.inside) (compound_suits k r Changing c a room refl more (changing_piece p k r (client_long Changing refl a) a.fits.owner a.fits.running) (packet_of Compound more c) refl));
          agrees = λ sent is. compound_agrees k r Changing c a room refl sent (packet_of Compound more c) is refl;
        }

    closing_made : (a : Fits (idle_at k r Closing) c) → Made k r Closing c (walk (names_of r.action) ++ ops.Close 0 r.opened ∷ [])
    unfolding ops_of
    closing_made a =
        let more : List Op = walk (names_of r.action) ++ ops.Close 0 r.opened ∷ [] in
        let had = has_session k r Closing c a room refl in record {
          packet = packet_is k r Closing c a room more (session_number k r Closing c a room refl) had.2;
          sent = sent_is k r Closing c a room (plans.Ask (in_session (idle_at k r Closing) ∷ more)) (plans.Ask (ops.Sequence (its_sequence level c.session c.sequence) ∷ more)) (ap (λ (xs : List Op). plans.Ask xs) (ops_same k r Closing c a room refl more));
          suited = both_true (xid_suits k r Closing c a room) (both_true (inside_suits k r Closing c a room own Compound refl (λ e. absurd cc) refl a.inside) (compound_suits k r Closing c a room refl more (closing_piece r a.fits.running a.opened) (packet_of Compound more c) refl));
          agrees = λ sent is. compound_agrees k r Closing c a room refl sent (packet_of Compound more c) is refl;
        }

    pub made : (stage : Stage) → (a : Fits (idle_at k r stage) c) → (payload : List Op) × Made k r stage c payload
    made Asserting a = ([], asserting a)
    made Exchanging a = ([], exchanging a)
    made Creating a = ([], creating a)
    made Reclaiming a = (ops.ReclaimComplete false ∷ [], reclaiming_made a)
    made Asking a = (to_target r.action ++ asking r.action r.cookie, asking_made a)
    made Changing a = (to_target r.action ++ guard r ∷ change p k r.action, changing_made a)
    made Closing a = (walk (names_of r.action) ++ ops.Close 0 r.opened ∷ [], closing_made a)
    made EndingSession a = ([], ending_session a)
    made EndingClient a = ([], ending_client a)
    made EndingContext a = ([], ending_context a)
