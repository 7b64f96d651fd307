-- Over every schedule the client has the numbers of the client of the law, for which requests act once.
use Rattle.std.proofs.Common.{◌≡◌, ◌⊎◌, inl, inr, ℕ, ◌≤◌, ◌<◌, ◌^◌, ◌==◌, Bool, true, false, cond, ◌&&◌, ◌||◌, List, [], ◌∷◌, length, take, map, Option, Some, None, refl, sym, ap, ◌∙◌, subst, arith}
use Rattle.std.specs.Prelude.{nat_lt, is_none, is_some}
use Rattle.std.proofs.lemmas.Bool.{and_parts, ltb-true, eqb-true}
use Rattle.std.proofs.lemmas.Bool.Decides.{nat_tests}
use Rattle.lnfs_types.specs.declared.event.Event.{Event}
use Rattle.lnfs_calipso.specs.Label.{IsPreorderWithBottom}
use Rattle.lnfs_arguments.specs.declared.numbers.TheConstants.{OWNER_LIMIT}
use Rattle.lnfs_arguments.specs.declared.types.Op.{Op}
use Rattle.lnfs_arguments.specs.Further.{IsLawful as IsLawfulGrammar}
use Rattle.lnfs_policy.specs.Policy.{Policy, dominance}
use Rattle.lnfs_policy.specs.declared.rows.Parent.{Parent}
use Rattle.lnfs_rpc.specs.Replies as rpc
use Rattle.lnfs_gss3.specs.Mechanism.{Signing, IsSized}
use Rattle.lnfs_answers.specs.Asking.{awaits_of}
use Rattle.lnfs_answers.specs.declared.request.Heard.{Heard}
use Rattle.lnfs_answers.specs.declared.request.Heard.TheVariants as heards
use Rattle.lnfs_answers.specs.Replies as replies
use Rattle.lnfs_answers.specs.Replies.{Asked, heard}
use Rattle.lnfs_script.specs.declared.identity.Identity.{Identity}
use Rattle.lnfs_script.specs.Fits.{IdentitySuits}
use Rattle.lnfs_asking.specs.declared.sent.Sent.{Sent}
use Rattle.lnfs_asking.specs.Sending.{sent_of, wanted_of, sought_by}
use Rattle.lnfs_client.specs.declared.known.Known.{Known}
use Rattle.lnfs_client.specs.declared.known.Running.{Running}
use Rattle.lnfs_client.specs.declared.stage.Stage.{Stage}
use Rattle.lnfs_client.specs.declared.stage.Stage.TheVariants.{Asserting, Exchanging, Creating, Reclaiming, Asking, Changing, Closing, EndingSession, EndingClient, EndingContext}
use Rattle.lnfs_client.specs.Machine.{begun, is_mount, ended, awaited_in, awaited, may_ask_in, may_ask, signer_of, request_in, asked, next, turn, heard_by, heard_in, turn_by, started}
use Rattle.lnfs_client.specs.Runs.{may_begin, most_requests}
use Rattle.lnfs_world.specs.declared.numbers.TheConstants.{LAST_NUMBER, LAST_SEQUENCE}
use Rattle.lnfs_operations.specs.Extra.{Extra, AreLawful}
use Rattle.lnfs_step.specs.declared.numbers.TheConstants.{SYSTEM_ERR}
use Rattle.lnfs_step.specs.Step.{granted}
use Rattle.lnfs_step.specs.Wrapping.{called, answer_text, refusal_text}
use Rattle.lnfs_once.specs.Client.{Kind, Assert, Exchange, Create, Compound, Destroy, Leave, Packet, Tells, Made, Granted, Nothing, Client, packet_of, next_request, learned, takes, first_client}
use Rattle.lnfs_once.specs.Server.{Server}
use Rattle.lnfs_once.specs.Schedule.{Reply, State, nth, posted, noted, take_reply, ActsOnce}
use Rattle.lnfs_once.specs.Schedule as law
use Rattle.lnfs_once.specs.Laws.{ClientRows, IsLawful, Comes, Session}
use Rattle.lnfs_once.proofs.Invariant.{Holds, Phase, idle, fresh, answered, Answered, owes}
use Rattle.lnfs_once.proofs.Keeps.{comes, others}
use Rattle.lnfs_once.proofs.Told.{newest_or, given_first}
use Rattle.lnfs_once.proofs.Arrivals.{arrive_holds}
use Rattle.lnfs_once.proofs.Turns.{request_holds, resend_holds, return_holds}
use Rattle.lnfs_once.proofs.Theorem as theorem
use Rattle.lnfs_slots.specs.OneClient.{Seen, When, Writer, before_all, serve, step_server, rows}
use Rattle.lnfs_slots.specs.Written.{alone_of, IsWriter}
use Rattle.lnfs_slots.proofs.First.{bare}
use Rattle.lnfs_slots.proofs.Whole.{lawful}
use Rattle.lnfs_retries.specs.Packets.{Setting, number_of_parent, writer_under, handle_in, granted_by, told_by, ops_as, plan_as, sent_as, asked_as, suits, reads, client_writer}
use Rattle.lnfs_retries.specs.Schedule.{kind_at, packet_in, packet_for, Deed, ClientState, ClientTurn, Begin, Next, Resend, Arrive, Return, Others, asks, arrives, returns, is_taken, client_happens, client_run, client_start, seen_state, sent_of_packet, IsAwaited}
use Rattle.lnfs_retries.proofs.Shapes.{IsShape, other_heard, own_heard}
use Rattle.lnfs_retries.proofs.Openings.{SaidFits, answers_fit}
use Rattle.lnfs_retries.proofs.Pieces.{both_true}
use Rattle.lnfs_retries.proofs.Agreeing.{has_client_at, has_session_at, has_context_at, ContextFits, signer, parent, Waits, WaitsAt, Agrees, begun_agrees, resting, idle_at}
use Rattle.lnfs_retries.proofs.NextPacket.{made}
use Rattle.lnfs_retries.proofs.Returning.{waiting, waiting_at, refused_denied, refused_bad, said_agrees, left_agrees, exchange_agrees, create_agrees, grant_agrees}
use Rattle.lnfs_retries.proofs.Bearing.{Bears, reply_bears, grants}

same_number : (a b : ℕ) → a ≡ b → (a == b) ≡ true
same_number a b e = grind (arith, nat_tests, e)

-- What is heard of the replies to a request for a context. A guest makes none.
pub record HearsGrants (X : Extra) (m : Signing) (p : Policy) (s : Setting) (level : ℕ) (o : Option Parent) (written : IsWriter X m p (writer_under X m p s level o)) : Type 0 where
  pub grants : (q : Packet (List Op)) (suited : suits X m p s level o q ≡ true) (kind : q.kind ≡ Assert) (number : ℕ) → 1 ≤ number → number ≤ LAST_NUMBER
      → (heard m (asked_as X m p s level o (sent_as X m p s level o q)) (answer_text m ((writer_under X m p s level o).wrapping q) q.xid (granted (alone_of X m p (writer_under X m p s level o) q) (number_of_parent o) (written.assert q suited kind).assertion number)) ≡ heards.Granted (handle_in (number_of_parent o) level number))
      × (granted_by (number_of_parent o) level (handle_in (number_of_parent o) level number) ≡ Granted number)
  pub refuses : (q : Packet (List Op)) → suits X m p s level o q ≡ true → q.kind ≡ Assert
      → (at : ℕ) × (heard m (asked_as X m p s level o (sent_as X m p s level o q)) (refusal_text m ((writer_under X m p s level o).wrapping q) q.xid (called SYSTEM_ERR)) ≡ heards.Bad at)

module _ (X : Extra) (owed : AreLawful X) (grammar : IsLawfulGrammar X.grammar) (m : Signing) (sized : IsSized m) (p : Policy) (lattice : IsPreorderWithBottom (dominance p)) (s : Setting) (level : ℕ) (small : level < 2 ^ 32) (known : IdentitySuits p s.who) (short : length s.owner ≤ OWNER_LIMIT) (written : IsWriter X m p (client_writer X m p s level)) (contexts : HearsGrants X m p s level (signer X m p s level) written) where
  abbrev w : Writer (List Op)
  w = client_writer X m p s level

  abbrev S : Server
  S = step_server X m p w

  abbrev N : ClientRows S
  N = rows X m p w

  laws : IsLawful N
  laws = lawful X owed m p lattice w written

  abbrev own : Option Parent
  own = signer X m p s level

  abbrev At : Type 0
  At = ClientState X m p s level

  abbrev Given : Type 0
  Given = Reply (List Op) (Option (List ℕ))

  -- the schedule of the law
  abbrev view : At → Client (List Op) → State S
  view t c = record { client = c; server = t.server; sent = t.sent; given = t.given; acts = t.acts; taken = t.taken }

  -- where a reply comes from
  pub record Came (g : Given) : Type 0 where
    pub v : Seen X
    pub when : When
    pub came : Comes N v g.packet
    pub reply : g.outcome ≡ (serve X m p w v when g.packet).reply

  abbrev AllCame : List Given → Type 0
  AllCame given = (j : ℕ) (g : Given) → nth given j ≡ Some g → Came g

  pub record Stands (t : At) : Type 0 where
    pub client : Client (List Op)
    pub agrees : Agrees X m p s level t.client client
    pub waits : client.awaited ≡ t.waits_for
    pub holds : Holds N (view t client)
    pub came : AllCame t.given

  -- ---- an action begins

  begin_stands : (t : At) → Stands t → (deed : Deed p) → Stands (client_happens X m p s level t (Begin deed))
  begin_stands t stands deed = at (may_begin t.client deed.action) refl
    where
      idle_is : (o : Option Running) → is_none o ≡ true → o ≡ None
      idle_is None e = refl
      idle_is (Some r) e = absurd cc

      at : (b : Bool) → may_begin t.client deed.action ≡ b → Stands (cond b (record t { client = begun deed.action t.client }) t)
      at false e = stands
      at true e =
          let begin = and_parts (is_none t.client.running) (is_mount deed.action || t.client.mounted) e in
          record {
            client = stands.client;
            agrees = begun_agrees X m p s level known t.client stands.client deed.action stands.agrees (idle_is t.client.running begin.0) begin.1 deed.fits;
            waits = stands.waits;
            holds = stands.holds;
            came = stands.came;
          }

  -- ---- a request is made

  -- with the client as it is written out
  next_at : (t : At) (r : Running) → Stands (record t { client = idle_at t.client r r.stage }) → t.client.sent < most_requests → Stands (record t { client = asked m p (idle_at t.client r r.stage); waits_for = Some (packet_for p (idle_at t.client r r.stage) (resting r r.stage)); sent = packet_for p (idle_at t.client r r.stage) (resting r r.stage) ∷ t.sent })
  unfolding asked request_in
  next_at t r stands room =
      let k : Known = t.client in
      let c : Client (List Op) = stands.client in
      let two = made X grammar m sized p s level small k r c room r.stage stands.agrees in
      let payload = two.0 in
      let kind : Kind = kind_at r.stage in
      let q : Packet (List Op) = packet_of kind payload c in
      let same = two.1.packet in
      let idle_now : c.awaited ≡ None = none_of c.awaited stands.agrees.waits in
      let below : nat_lt c.sent LAST_SEQUENCE ≡ true = (let e = stands.agrees.sent in grind (arith, nat_tests, e, room)) in
      let open_to : (nat_lt c.sent LAST_SEQUENCE && suits X m p s level own q) ≡ true = both_true below two.1.suited in
      let t' : At = record t { client = idle_at k r r.stage } in
      let asks_now = request_holds N (view t' c) stands.holds kind payload None idle_now in
      let now : Holds N (record (view t' c) { client = next_request LAST_SEQUENCE kind payload c; sent = q ∷ t.sent }) = subst (λ b. Holds N (cond b (record (view t' c) { client = next_request LAST_SEQUENCE kind payload c; sent = q ∷ t.sent }) (view t' c))) open_to asks_now in
      record {
        client = next_request LAST_SEQUENCE kind payload c;
        agrees = two.1.agrees _ two.1.sent;
        waits = ap (λ q. Some q) (sym same);
        holds = subst (λ (x : Packet (List Op)). Holds N (record (view t' c) { client = next_request LAST_SEQUENCE kind payload c; sent = x ∷ t.sent })) (sym same) now;
        came = stands.came;
      }
    where
      none_of : (a : Option (Packet (List Op))) → WaitsAt X m p s level (resting r r.stage) None a → a ≡ None
      none_of None w = refl
      none_of (Some q) w = absurd w

  abbrev asked_state : At → Known → At
  asked_state t k = record t { client = asked m p k; waits_for = packet_in p k k.running; sent = posted (packet_in p k k.running) t.sent }

  next_stands : (t : At) → Stands t → Stands (asks X m p s level t)
  next_stands t stands = at (nat_lt t.client.sent most_requests && may_ask t.client) refl
    where
      resting_at : (r : Running) (sent : Option Sent) → r.awaited ≡ sent → is_none sent ≡ true → t.client.running ≡ Some r → t.client.sent < most_requests → Stands (asked_state t t.client)
      resting_at r (Some sent) is e running room = absurd cc
      resting_at r None is e running room =
          let same_r : r ≡ resting r r.stage = ap (λ (a : Option Sent). record r { awaited = a }) is in
          let same : t.client ≡ idle_at t.client r r.stage = ap (λ (o : Option Running). record t.client { running = o }) (running ∙ ap (λ r. Some r) same_r) in
          subst (λ (k : Known). Stands (asked_state t k)) (sym same) (next_at t r (subst (λ (k : Known). Stands (record t { client = k })) same stands) room)

      running_at : (o : Option Running) → t.client.running ≡ o → may_ask_in o ≡ true → t.client.sent < most_requests → Stands (asked_state t t.client)
      running_at None is e room = absurd cc
      running_at (Some r) is e room = resting_at r r.awaited refl e is room

      at : (b : Bool) → (nat_lt t.client.sent most_requests && may_ask t.client) ≡ b → Stands (cond b (asked_state t t.client) t)
      at false e = stands
      at true e = let both = and_parts (nat_lt t.client.sent most_requests) (may_ask t.client) e in running_at t.client.running refl both.1 (ltb-true _ _ both.0)

  -- ---- packets

  resend_stands : (t : At) → Stands t → Stands (client_happens X m p s level t Resend)
  resend_stands t stands = record {
    client = stands.client;
    agrees = stands.agrees;
    waits = stands.waits;
    holds = subst (λ (a : Option (Packet (List Op))). Holds N (record (view t stands.client) { sent = posted a t.sent })) stands.waits (resend_holds N (view t stands.client) stands.holds stands.client.awaited refl);
    came = stands.came;
  }

  arrive_stands : (t : At) → Stands t → (j : ℕ) (when : When) → Stands (client_happens X m p s level t (Arrive j when))
  arrive_stands t stands j when = at (nth t.sent j) refl
    where
      at : (q : Option (Packet (List Op))) → nth t.sent j ≡ q → Stands (arrives X m p s level t when q)
      at None e = stands
      at (Some q) e = record {
        client = stands.client;
        agrees = stands.agrees;
        waits = stands.waits;
        holds = arrive_holds N laws (view t stands.client) stands.holds q j e when;
        came = newest_or Came (record { packet = q; outcome = (serve X m p w t.server when q).reply }) t.given (record { v = t.server; when = when; came = comes N (view t stands.client) stands.holds.0 q j e; reply = refl }) stands.came;
      }

  others_stand : (t : At) → Stands t → (event : Event) → Stands (client_happens X m p s level t (Others event))
  others_stand t stands event = record {
    client = stands.client;
    agrees = stands.agrees;
    waits = stands.waits;
    holds = others N laws (view t stands.client) event stands.holds;
    came = stands.came;
  }

  -- ---- what a reply leads to, stage by stage

  abbrev Learns : Kind → Heard → Client (List Op) → Client (List Op)
  Learns kind h c = record (learned kind (told_by (parent X m p s level) level kind h) c) { awaited = None }

  abbrev Fits : Known → Client (List Op) → Type 0
  Fits k c = Agrees X m p s level k c

  -- what is known of what is heard
  pub record Heeds (k : Known) (c : Client (List Op)) (kind : Kind) (h : Heard) : Type 0 where
    pub some : 1 ≤ k.sent
    pub granted : kind ≡ Assert → (handle : List ℕ) → h ≡ heards.Granted handle → (number : ℕ) × (1 ≤ number) × (number ≤ LAST_NUMBER) × (handle ≡ handle_in (parent X m p s level) level number) × (granted_by (parent X m p s level) level handle ≡ Granted number)
    pub exchange : kind ≡ Exchange → (learned Exchange (told_by (parent X m p s level) level Exchange h) c).id ≤ LAST_NUMBER
    pub create : kind ≡ Create → (number : ℕ) → told_by (parent X m p s level) level Create h ≡ Made number → number ≡ 0 → ⊥

  -- a stage in the session, or one that ends it
  plain_took : (k : Known) (r : Running) (stage : Stage) (sent : Sent) (c : Client (List Op)) (a : Fits (waiting_at k r stage sent) c) (xs : List Op) (h : Heard) → has_session_at stage ≡ true → has_client_at stage ≡ true → has_context_at stage ≡ true → IsShape SaidFits (replies.results (map awaits_of xs)) h
      → Fits (next p (ended (waiting_at k r stage sent)) (waiting r stage sent) h).client (record c { awaited = None })
  plain_took k r stage sent c a xs heards.Other e f g shape = absurd shape
  plain_took k r stage sent c a xs (heards.Denied stat) e f g shape = refused_denied X m p s level known k r stage sent c a stat
  plain_took k r stage sent c a xs (heards.Bad at) e f g shape = refused_bad X m p s level known k r stage sent c a at
  plain_took k r stage sent c a xs (heards.Said x) e f g shape = said_agrees X m p s level known k r stage sent c a x e f g shape
  plain_took k r stage sent c a xs (heards.Granted handle) e f g shape = absurd shape
  plain_took k r stage sent c a xs heards.Ended e f g shape = absurd shape

  -- what a request of a kind is compared with
  abbrev wants_at : Kind → Packet (List Op) → replies.Wanted
  wants_at kind q = wanted_of (sought_by (plan_as p s level kind q))

  took : (k : Known) (r : Running) (stage : Stage) (sent : Sent) (c : Client (List Op)) (a : Fits (waiting_at k r stage sent) c) (q : Packet (List Op)) (h : Heard) → IsShape SaidFits (wants_at (kind_at stage) q) h → Heeds k c (kind_at stage) h
      → Fits (next p (ended (waiting_at k r stage sent)) (waiting r stage sent) h).client (Learns (kind_at stage) h c)
  took k r Asserting sent c a q heards.Other shape heeds = absurd shape
  took k r Asserting sent c a q (heards.Denied stat) shape heeds = refused_denied X m p s level known k r Asserting sent c a stat
  took k r Asserting sent c a q (heards.Bad at) shape heeds = refused_bad X m p s level known k r Asserting sent c a at
  took k r Asserting sent c a q (heards.Said x) shape heeds = absurd shape
  took k r Asserting sent c a q (heards.Granted handle) shape heeds = let g = heeds.granted refl handle refl in grant_agrees X m p s level known k r sent c a handle g.0 g.1 g.2 g.3 g.4
  took k r Asserting sent c a q heards.Ended shape heeds = absurd shape
  took k r Exchanging sent c a q heards.Other shape heeds = absurd shape
  took k r Exchanging sent c a q (heards.Denied stat) shape heeds = refused_denied X m p s level known k r Exchanging sent c a stat
  took k r Exchanging sent c a q (heards.Bad at) shape heeds = refused_bad X m p s level known k r Exchanging sent c a at
  took k r Exchanging sent c a q (heards.Said x) shape heeds = exchange_agrees X m p s level known k r sent c a x (heeds.exchange refl)
  took k r Exchanging sent c a q (heards.Granted handle) shape heeds = absurd shape
  took k r Exchanging sent c a q heards.Ended shape heeds = absurd shape
  took k r Creating sent c a q heards.Other shape heeds = absurd shape
  took k r Creating sent c a q (heards.Denied stat) shape heeds = refused_denied X m p s level known k r Creating sent c a stat
  took k r Creating sent c a q (heards.Bad at) shape heeds = refused_bad X m p s level known k r Creating sent c a at
  took k r Creating sent c a q (heards.Said x) shape heeds = create_agrees X m p s level known k r sent c a heeds.some x (heeds.create refl)
  took k r Creating sent c a q (heards.Granted handle) shape heeds = absurd shape
  took k r Creating sent c a q heards.Ended shape heeds = absurd shape
  took k r Reclaiming sent c a q h shape heeds = plain_took k r Reclaiming sent c a (ops_as s level Compound q) h refl refl refl shape
  took k r Asking sent c a q h shape heeds = plain_took k r Asking sent c a (ops_as s level Compound q) h refl refl refl shape
  took k r Changing sent c a q h shape heeds = plain_took k r Changing sent c a (ops_as s level Compound q) h refl refl refl shape
  took k r Closing sent c a q h shape heeds = plain_took k r Closing sent c a (ops_as s level Compound q) h refl refl refl shape
  took k r EndingSession sent c a q h shape heeds = plain_took k r EndingSession sent c a (ops_as s level Destroy q) h refl refl refl shape
  took k r EndingClient sent c a q h shape heeds = plain_took k r EndingClient sent c a (ops_as s level Leave q) h refl refl refl shape
  took k r EndingContext sent c a q heards.Other shape heeds = absurd shape
  took k r EndingContext sent c a q (heards.Denied stat) shape heeds = refused_denied X m p s level known k r EndingContext sent c a stat
  took k r EndingContext sent c a q (heards.Bad at) shape heeds = refused_bad X m p s level known k r EndingContext sent c a at
  took k r EndingContext sent c a q (heards.Said x) shape heeds = absurd shape
  took k r EndingContext sent c a q (heards.Granted handle) shape heeds = absurd shape
  took k r EndingContext sent c a q heards.Ended shape heeds = left_agrees X m p s level known k r EndingContext sent c a

  -- ---- a reply that isn't taken

  unheard : (k : Known) (bytes : List ℕ) → heard_by m p k bytes ≡ heards.Other → (turn m p k bytes).client ≡ k
  unfolding turn next
  unheard k bytes e = ap (λ (h : Heard). (turn_by p k h k.running).client) e ∙ at k.running refl
    where
      at : (o : Option Running) → k.running ≡ o → (turn_by p k heards.Other o).client ≡ k
      at None is = refl
      at (Some r) is = ap (λ (o : Option Running). record k { running = o }) (sym is)

  abbrev returned_to : At → List ℕ → Known → At
  returned_to t bytes n = record t { client = n; waits_for = cond (is_taken X m p s level t.client n) None t.waits_for; taken = cond (is_taken X m p s level t.client n) (noted S t.waits_for (Some bytes) t.taken) t.taken }

  not_both : (o : Option Sent) → (is_some o && is_none o) ≡ false
  not_both None = refl
  not_both (Some sent) = refl

  unchanged : (t : At) → Stands t → (bytes : List ℕ) (n : Known) → n ≡ t.client → Stands (returned_to t bytes n)
  unchanged t stands bytes n e =
      let none : is_taken X m p s level t.client n ≡ false = ap (λ (k : Known). is_taken X m p s level t.client k) e ∙ not_both (awaited t.client) in
      subst (λ (b : Bool). Stands (record t { client = n; waits_for = cond b None t.waits_for; taken = cond b (noted S t.waits_for (Some bytes) t.taken) t.taken })) (sym none) (subst (λ (k : Known). Stands (record t { client = k })) (sym e) stands)

  -- ---- what is awaited

  pub record Awaits (k : Known) (q : Packet (List Op)) : Type 0 where
    pub r : Running
    pub sent : Sent
    pub running : k.running ≡ Some r
    pub awaited_is : r.awaited ≡ Some sent
    pub request : sent ≡ sent_as X m p s level own q
    pub kind : q.kind ≡ kind_at r.stage

  awaits : (k : Known) (q : Packet (List Op)) → Waits X m p s level k.running (Some q) → Awaits k q
  awaits k q waits = at k.running refl waits
    where
      sent_at : (r : Running) (o : Option Sent) → k.running ≡ Some r → r.awaited ≡ o → WaitsAt X m p s level r o (Some q) → Awaits k q
      sent_at r None e f waits = absurd waits
      sent_at r (Some sent) e f waits = record { r = r; sent = sent; running = e; awaited_is = f; request = waits.0; kind = waits.1 }

      at : (o : Option Running) → k.running ≡ o → Waits X m p s level o (Some q) → Awaits k q
      at None e waits = absurd waits
      at (Some r) e waits = sent_at r r.awaited e refl waits

  awaits_none : (o : Option Running) → Waits X m p s level o None → awaited_in o ≡ None
  awaits_none None waits = refl
  awaits_none (Some r) waits = at r.awaited waits
    where
      at : (sent : Option Sent) → WaitsAt X m p s level r sent None → sent ≡ None
      at None waits = refl
      at (Some sent) waits = absurd waits

  sent_xid : (q : Packet (List Op)) → (sent_as X m p s level own q).xid ≡ q.xid
  unfolding sent_of
  sent_xid q = refl

  sent_sought : (q : Packet (List Op)) → wanted_of (sent_as X m p s level own q).sought ≡ wants_at q.kind q
  unfolding sent_of
  sent_sought q = refl

  -- ---- a reply that comes

  module _ (t : At) (stands : Stands t) (j : ℕ) (g : Given) (bytes : List ℕ) (outcome : g.outcome ≡ Some bytes) (there : nth t.given j ≡ Some g) (bears : Bears g.packet.xid (Some bytes)) where
    abbrev c : Client (List Op)
    c = stands.client

    came : Came g
    came = stands.came j g there

    g_suits : suits X m p s level own g.packet ≡ true
    g_suits = came.came.suits

    xid_fits : g.packet.xid < 2 ^ 32
    xid_fits = ltb-true _ _ (and_parts _ _ g_suits).0

    some_same : (a b : List ℕ) → Some a ≡ Some b → a ≡ b
    some_same a b e = cc

    -- it is another's
    other_said : (a : Asked) → (g.packet.xid == a.xid) ≡ false → heard m a bytes ≡ heards.Other
    other_said a e = ap (heard m a) (some_same bytes _ bears.is) ∙ other_heard SaidFits m a g.packet.xid bears.head bears.rest xid_fits e

    -- it is the awaited one's
    own_said : (a : Asked) → g.packet.xid ≡ a.xid → IsShape SaidFits a.wants (heard m a bytes)
    own_said a e =
        let is : bytes ≡ _ = some_same bytes _ bears.is ∙ ap (λ (n : ℕ). rpc.reply_text n bears.head bears.rest) e in
        subst (λ (b : List ℕ). IsShape SaidFits a.wants (heard m a b)) (sym is) (own_heard SaidFits m a bears.head bears.rest (subst (λ (n : ℕ). n < 2 ^ 32) e xid_fits) (answers_fit a.wants))

    none_taken : c.awaited ≡ None → Stands (returned_to t bytes (turn m p t.client bytes).client)
    unfolding heard_by
    none_taken e =
        let waits : Waits X m p s level t.client.running None = subst (Waits X m p s level t.client.running) e stands.agrees.waits in
        unchanged t stands bytes (turn m p t.client bytes).client (unheard t.client bytes (ap (heard_in m p t.client bytes) (awaits_none t.client.running waits)))

    module _ (q : Packet (List Op)) (waited : c.awaited ≡ Some q) where
      its : Awaits t.client q
      its = awaits t.client q (subst (Waits X m p s level t.client.running) waited stands.agrees.waits)

      abbrev K : Known
      K = waiting_at t.client its.r its.r.stage its.sent

      client_is : t.client ≡ K
      client_is = ap (λ (o : Option Running). record t.client { running = o }) (its.running ∙ ap (λ (a : Option Sent). Some (record its.r { awaited = a })) its.awaited_is)

      asked_is : record { xid = its.sent.xid; signer = signer_of p t.client.identity; header = take its.sent.header its.sent.message; wants = wanted_of its.sent.sought } ≡ asked_as X m p s level own (sent_as X m p s level own q)
      asked_is =
          ap (λ (sent : Sent). record { xid = sent.xid; signer = signer_of p t.client.identity; header = take sent.header sent.message; wants = wanted_of sent.sought }) its.request
          ∙ ap (λ (who : Identity). let sent = sent_as X m p s level own q in record { xid = sent.xid; signer = signer_of p who; header = take sent.header sent.message; wants = wanted_of sent.sought }) stands.agrees.identity

      heard_is : heard_by m p K bytes ≡ heard m (asked_as X m p s level own (sent_as X m p s level own q)) bytes
      unfolding heard_by
      heard_is = ap (λ (a : Asked). heard m a bytes) asked_is

      -- under another transaction
      other_taken : (q.xid == g.packet.xid) ≡ false → Stands (returned_to t bytes (turn m p t.client bytes).client)
      other_taken e =
          let own_xid : (sent_as X m p s level own q).xid ≡ q.xid = sent_xid q in
          let apart : (g.packet.xid == (asked_as X m p s level own (sent_as X m p s level own q)).xid) ≡ false = grind (arith, nat_tests, own_xid, e) in
          let none : heard_by m p K bytes ≡ heards.Other = heard_is ∙ other_said (asked_as X m p s level own (sent_as X m p s level own q)) apart in
          unchanged t stands bytes (turn m p t.client bytes).client (ap (λ (k : Known). (turn m p k bytes).client) client_is ∙ unheard K bytes none ∙ sym client_is)

      -- under its own
      module _ (e : q.xid ≡ g.packet.xid) where
        abbrev H : Heard
        H = heard m (asked_as X m p s level own (sent_as X m p s level own q)) bytes

        answered_so : (o : Option (List ℕ)) × Answered N (view t c) q o
        answered_so = at stands.holds.1
          where
            at : Phase N (view t c) → (o : Option (List ℕ)) × Answered N (view t c) q o
            at (idle i) = absurd (let none = i.awaited in cc)
            at (fresh x f) = let same : x ≡ q = (let is = f.awaited in cc) in absurd (given_first x.xid t.given j g there (sym e ∙ ap (λ (y : Packet (List Op)). y.xid) (sym same)) f.unsaid)
            at (answered x o a) = let same : x ≡ q = (let is = a.awaited in cc) in (o, subst (λ (y : Packet (List Op)). Answered N (view t c) y o) same a)

        a_now : Answered N (view t c) q answered_so.0
        a_now = answered_so.1

        packet_is : g.packet ≡ q
        packet_is = a_now.packets j g there (sym e)

        q_suits : suits X m p s level own q ≡ true
        q_suits = a_now.suits

        reads_is : reads X m p s level own q (Some bytes) ≡ told_by (parent X m p s level) level q.kind H
        reads_is = ap (λ (b : Bool). cond b (told_by (parent X m p s level) level q.kind H) Nothing) q_suits

        shape : IsShape SaidFits (wants_at q.kind q) H
        shape = subst (λ (v : replies.Wanted). IsShape SaidFits v H) (sent_sought q) (own_said (asked_as X m p s level own (sent_as X m p s level own q)) (sym e ∙ sym (sent_xid q)))

        -- the schedule of the law, behind the reply
        abbrev settled_to : Option (Packet (List Op)) → Bool → State S
        settled_to a b = record (view t c) { client = cond b (law.settled S a (Some bytes) c) c; taken = cond b (noted S a (Some bytes) t.taken) t.taken }

        holds_now : Holds N (settled_to (Some q) true)
        holds_now =
            let back : Holds N (record (view t c) { client = take_reply S g.packet.xid g.outcome c; taken = cond (takes g.packet.xid c.awaited) (noted S c.awaited g.outcome t.taken) t.taken }) = return_holds N (view t c) stands.holds j g there in
            let out : Holds N (record (view t c) { client = take_reply S g.packet.xid (Some bytes) c; taken = cond (takes g.packet.xid c.awaited) (noted S c.awaited (Some bytes) t.taken) t.taken }) = subst (λ (o : Option (List ℕ)). Holds N (record (view t c) { client = take_reply S g.packet.xid o c; taken = cond (takes g.packet.xid c.awaited) (noted S c.awaited o t.taken) t.taken })) outcome back in
            let awaits_it : Holds N (settled_to (Some q) (q.xid == g.packet.xid)) = subst (λ (a : Option (Packet (List Op))). Holds N (settled_to a (takes g.packet.xid a))) waited out in
            let same : (q.xid == g.packet.xid) ≡ true = same_number q.xid g.packet.xid e in
            subst (λ (b : Bool). Holds N (settled_to (Some q) b)) same awaits_it

        learns_is : record (learned q.kind (reads X m p s level own q (Some bytes)) c) { awaited = None } ≡ Learns q.kind H c
        learns_is = ap (λ (x : Tells). record (learned q.kind x c) { awaited = None }) reads_is

        holds_after : Holds N (record (view t c) { client = Learns q.kind H c; taken = record { packet = q; outcome = Some bytes } ∷ t.taken })
        holds_after = subst (λ (x : Client (List Op)). Holds N (record (view t c) { client = x; taken = record { packet = q; outcome = Some bytes } ∷ t.taken })) learns_is holds_now

        -- ---- what is known of what is heard

        known_below : (kind : Kind) → q.kind ≡ kind → (Learns kind H c).id ≤ LAST_NUMBER
        known_below kind is = subst (λ (k : Kind). (Learns k H c).id ≤ LAST_NUMBER) is (at holds_after.1)
          where
            at : Phase N (record (view t c) { client = Learns q.kind H c; taken = record { packet = q; outcome = Some bytes } ∷ t.taken }) → (Learns q.kind H c).id ≤ LAST_NUMBER
            at (idle i) = let given = (i.fits Create).0.0.0 in let few = holds_after.0.good.numbers in omega (arith, given, few)
            at (fresh x f) = absurd (let none = f.awaited in cc)
            at (answered x o a) = absurd (let none = a.awaited in cc)

        not_none : q.kind ≡ Create → (number : ℕ) → told_by (parent X m p s level) level Create H ≡ Made number → number ≡ 0 → ⊥
        not_none kind number told zero_is =
            let tells : reads X m p s level own q (Some bytes) ≡ Made 0 = reads_is ∙ ap (λ (k : Kind). told_by (parent X m p s level) level k H) kind ∙ told ∙ ap (λ (n : ℕ). Made n) zero_is in
            let owed : owes q.kind (reads X m p s level own q g.outcome) ≡ true = ap (λ (k : Kind). owes k (reads X m p s level own q g.outcome)) kind ∙ ap (λ (o : Option (List ℕ)). owes Create (reads X m p s level own q o)) outcome ∙ ap (owes Create) tells in
            let either : (owes q.kind (reads X m p s level own q g.outcome) || owes q.kind (reads X m p s level own q answered_so.0)) ≡ true = ap (λ (b : Bool). b || owes q.kind (reads X m p s level own q answered_so.0)) owed in
            let alike : g.outcome ≡ answered_so.0 = a_now.alike j g there (sym e) either in
            let first : reads X m p s level own q answered_so.0 ≡ Made 0 = ap (reads X m p s level own q) (sym alike ∙ outcome) ∙ tells in
            a_now.lives 0 kind first (laws.zero t.server stands.holds.0.good Session).1

        was_granted : (kind : q.kind ≡ Assert) (handle : List ℕ) → H ≡ heards.Granted handle → (number : ℕ) × (1 ≤ number) × (number ≤ LAST_NUMBER) × (handle ≡ handle_in (parent X m p s level) level number) × (granted_by (parent X m p s level) level handle ≡ Granted number)
        was_granted kind handle is =
            let reply : Some bytes ≡ (serve X m p w came.v came.when q).reply = sym outcome ∙ came.reply ∙ ap (λ (x : Packet (List Op)). (serve X m p w came.v came.when x).reply) packet_is in
            at (grants X m p w came.v came.when q (written.assert q q_suits kind)) reply
          where
            hears : List ℕ → Heard
            hears b = heard m (asked_as X m p s level own (sent_as X m p s level own q)) b

            same_handle : (a b : List ℕ) → heards.Granted a ≡ heards.Granted b → a ≡ b
            same_handle a b f = cc

            at : (((number : ℕ) × (1 ≤ number) × (number ≤ LAST_NUMBER) × ((serve X m p w came.v came.when q).reply ≡ Some (answer_text m (w.wrapping q) q.xid (granted (alone_of X m p w q) (parent X m p s level) (written.assert q q_suits kind).assertion number)))) ⊎ ((serve X m p w came.v came.when q).reply ≡ Some (refusal_text m (w.wrapping q) q.xid (called SYSTEM_ERR))))
                → Some bytes ≡ (serve X m p w came.v came.when q).reply → (number : ℕ) × (1 ≤ number) × (number ≤ LAST_NUMBER) × (handle ≡ handle_in (parent X m p s level) level number) × (granted_by (parent X m p s level) level handle ≡ Granted number)
            at (inl x) reply =
                let hears_it = contexts.grants q q_suits kind x.0 x.1 x.2 in
                let handle_is : handle ≡ handle_in (parent X m p s level) level x.0 = same_handle handle (handle_in (parent X m p s level) level x.0) (sym is ∙ ap (heard m (asked_as X m p s level own (sent_as X m p s level own q))) (some_same bytes _ (reply ∙ x.3)) ∙ hears_it.0) in
                (x.0, x.1, x.2, handle_is, ap (granted_by (parent X m p s level) level) handle_is ∙ hears_it.1)
            at (inr x) reply =
                let bad = contexts.refuses q q_suits kind in
                absurd (let no : heards.Granted handle ≡ heards.Bad bad.0 = sym is ∙ ap (heard m (asked_as X m p s level own (sent_as X m p s level own q))) (some_same bytes _ (reply ∙ x)) ∙ bad.1 in cc)

        heeds : (kind : Kind) → q.kind ≡ kind → Heeds t.client c kind H
        heeds kind is = record {
          some = let begun = a_now.begun in let last = a_now.xid in let sent = stands.agrees.sent in omega (arith, begun, last, sent);
          granted = λ k. was_granted (is ∙ k);
          exchange = λ k. known_below Exchange (is ∙ k);
          create = λ k. not_none (is ∙ k);
        }

        n_agrees : Fits (next p (ended K) (waiting its.r its.r.stage its.sent) H).client (Learns q.kind H c)
        n_agrees =
            let agrees : Fits K c = subst (λ (k : Known). Fits k c) client_is stands.agrees in
            let there_shape : IsShape SaidFits (wants_at (kind_at its.r.stage) q) H = subst (λ (k : Kind). IsShape SaidFits (wants_at k q) H) its.kind shape in
            subst (λ (k : Kind). Fits (next p (ended K) (waiting its.r its.r.stage its.sent) H).client (Learns k H c)) (sym its.kind) (took t.client its.r its.r.stage its.sent c agrees q H there_shape (heeds (kind_at its.r.stage) its.kind))

        turned : (turn m p K bytes).client ≡ (next p (ended K) (waiting its.r its.r.stage its.sent) H).client
        unfolding turn
        turned = ap (λ (h : Heard). (next p (ended K) (waiting its.r its.r.stage its.sent) h).client) heard_is

        own_taken : Stands (returned_to t bytes (turn m p t.client bytes).client)
        own_taken =
            let n : Known = (turn m p t.client bytes).client in
            let n_is : n ≡ (next p (ended K) (waiting its.r its.r.stage its.sent) H).client = ap (λ (k : Known). (turn m p k bytes).client) client_is ∙ turned in
            let agrees : Fits n (Learns q.kind H c) = subst (λ (k : Known). Fits k (Learns q.kind H c)) (sym n_is) n_agrees in
            let waited_now : awaited t.client ≡ Some its.sent = ap awaited_in its.running ∙ its.awaited_is in
            let free : awaited n ≡ None = awaits_none n.running agrees.waits in
            let taken : is_taken X m p s level t.client n ≡ true = ap (λ (a : Option Sent). is_some a && is_none (awaited n)) waited_now ∙ ap is_none free in
            let waits_for : t.waits_for ≡ Some q = sym stands.waits ∙ waited in
            subst (λ (b : Bool). Stands (record t { client = n; waits_for = cond b None t.waits_for; taken = cond b (noted S t.waits_for (Some bytes) t.taken) t.taken })) (sym taken) (
            subst (λ (a : Option (Packet (List Op))). Stands (record t { client = n; waits_for = None; taken = noted S a (Some bytes) t.taken })) (sym waits_for) (record {
              client = Learns q.kind H c;
              agrees = agrees;
              waits = refl;
              holds = holds_after;
              came = stands.came;
            }))

      some_taken : Stands (returned_to t bytes (turn m p t.client bytes).client)
      some_taken = at (q.xid == g.packet.xid) refl
        where
          at : (b : Bool) → (q.xid == g.packet.xid) ≡ b → Stands (returned_to t bytes (turn m p t.client bytes).client)
          at true e = own_taken (eqb-true _ _ e)
          at false e = other_taken e

    return_at : Stands (returned_to t bytes (turn m p t.client bytes).client)
    return_at = at c.awaited refl
      where
        at : (a : Option (Packet (List Op))) → c.awaited ≡ a → Stands (returned_to t bytes (turn m p t.client bytes).client)
        at None e = none_taken e
        at (Some q) e = some_taken q e

  return_stands : (t : At) → Stands t → (j : ℕ) → Stands (client_happens X m p s level t (Return j))
  return_stands t stands j = at (nth t.given j) refl
    where
      at : (g : Option Given) → nth t.given j ≡ g → Stands (returns X m p s level t g)
      at None e = stands
      at (Some g) e =
          let came = stands.came j g e in
          let bears = reply_bears X m p w written came.v came.when g.packet came.came.suits g.packet.kind refl in
          let bytes : List ℕ = rpc.reply_text g.packet.xid bears.head bears.rest in
          let outcome : g.outcome ≡ Some bytes = came.reply ∙ bears.is in
          subst (λ (o : Option (List ℕ)). Stands (returns X m p s level t (Some (record g { outcome = o })))) (sym outcome) (return_at t stands j g bytes outcome e (record { head = bears.head; rest = bears.rest; is = refl }))

  -- ---- schedules

  happens_stands : (t : At) → Stands t → (x : ClientTurn X m p s level) → Stands (client_happens X m p s level t x)
  happens_stands t stands (Begin deed) = begin_stands t stands deed
  happens_stands t stands Next = next_stands t stands
  happens_stands t stands Resend = resend_stands t stands
  happens_stands t stands (Arrive j when) = arrive_stands t stands j when
  happens_stands t stands (Return j) = return_stands t stands j
  happens_stands t stands (Others event) = others_stand t stands event

  pub run_stands : (turns : List (ClientTurn X m p s level)) (t : At) → Stands t → Stands (client_run X m p s level turns t)
  run_stands [] t stands = stands
  run_stands (x ∷ turns) t stands = run_stands turns (client_happens X m p s level t x) (happens_stands t stands x)

  starts_fits : Agrees X m p s level (started s.level s.who s.owner) first_client
  starts_fits = record {
    identity = refl;
    level_is = refl;
    owner = refl;
    sent = refl;
    context = refl;
    inside = at own;
    waits = tt;
    client = λ h. absurd cc;
    session = λ h. absurd cc;
    fits = record { owner = short; running = tt };
    opened = tt;
    asserts = tt;
  }
    where
      at : (o : Option Parent) → ContextFits o (false ≡ true) 0
      at None = refl
      at (Some under) = (λ h. absurd cc, omega arith)

  start_stands : Stands (client_start X m p s level (before_all X p))
  start_stands = record {
    client = first_client;
    agrees = starts_fits;
    waits = refl;
    holds = theorem.starts N laws (before_all X p) (bare X owed m p lattice w);
    came = λ j g there. absurd cc;
  }

  stands_after : (turns : List (ClientTurn X m p s level)) → Stands (client_run X m p s level turns (client_start X m p s level (before_all X p)))
  stands_after turns = run_stands turns (client_start X m p s level (before_all X p)) start_stands

  -- So requests act once.
  pub acts_once : (turns : List (ClientTurn X m p s level)) → ActsOnce S (seen_state X m p s level (client_run X m p s level turns (client_start X m p s level (before_all X p))))
  acts_once turns =
      let stands = stands_after turns in
      let once : ActsOnce S (view (client_run X m p s level turns (client_start X m p s level (before_all X p))) stands.client) = theorem.law N _ stands.holds.0 in
      record { same = once.same; once = once.once; at_first = once.at_first; taken = once.taken; own = once.own }

  awaited_same : (o : Option Running) (a : Option (Packet (List Op))) → Waits X m p s level o a → awaited_in o ≡ sent_of_packet X m p s level a
  awaited_same None None waits = refl
  awaited_same None (Some q) waits = absurd waits
  awaited_same (Some r) a waits = at r.awaited a waits
    where
      at : (sent : Option Sent) (a : Option (Packet (List Op))) → WaitsAt X m p s level r sent a → sent ≡ sent_of_packet X m p s level a
      at None None waits = refl
      at None (Some q) waits = absurd waits
      at (Some sent) None waits = absurd waits
      at (Some sent) (Some q) waits = ap (λ (x : Sent). Some x) waits.0

  -- The packet that is awaited is the request that the client sends again.
  pub awaits_same : (turns : List (ClientTurn X m p s level)) → IsAwaited X m p s level (client_run X m p s level turns (client_start X m p s level (before_all X p)))
  awaits_same turns =
      let t : At = client_run X m p s level turns (client_start X m p s level (before_all X p)) in
      let stands = stands_after turns in
      awaited_same t.client.running t.waits_for (subst (Waits X m p s level t.client.running) stands.waits stands.agrees.waits)
