-- The ends of a SEQUENCE, by what the clients answered.
use Rattle.std.proofs.Common.{◌≡◌, ◌-◌, ℕ, List, [], Option, Some, None, Ok, Err, refl, sym, ap, ◌∙◌, subst, arith}
use Rattle.std.specs.Prelude.{◌==◌, nat_le, slice_get, option_map}
use Rattle.std.proofs.lemmas.Bool.Decides.{nat_tests}
use Rattle.lnfs_types.specs.declared.event.Moment.{Moment}
use Rattle.lnfs_arguments.specs.declared.types.Op.TheVariants as ops
use Rattle.lnfs_arguments.specs.declared.types.Sequence.{Sequence}
use Rattle.lnfs_world.specs.World.{Id, Client, Session, World, client_at, session_at}
use Rattle.lnfs_world.specs.Outcome.{Site, Place, Outcome, begins_at, done_to}
use Rattle.lnfs_world.specs.Change.{apply_all}
use Rattle.lnfs_operations.specs.declared.Gate.{Gate}
use Rattle.lnfs_operations.specs.declared.Gate.TheVariants as gates
use Rattle.lnfs_operations.specs.Chain.{Answer, Done, Refused, Refusal, refuse, done}
use Rattle.lnfs_operations.specs.Identifiers.{session_named, session_under}
use Rattle.lnfs_operations.specs.Keeping.{next_sequence}
use Rattle.lnfs_operations.specs.Sequence.{Sent, Sequenced, New, Again, in_session, renewing, renewal, begun_in, on_slot, under_session, sequence}
use Rattle.lnfs_operations.proofs.Chains.{demand_any, where_any, in_order_any}
use Rattle.lnfs_operations.proofs.SessionLaws.{session_at-id, session_under-at}
use Rattle.lnfs_operations.specs.Served as Keep
use Rattle.lnfs_operations.specs.Served.{reply_of, sequence_reply, row}
use Rattle.lnfs_session.specs.declared.rows.ClientRef.{ClientRef}
use Rattle.lnfs_session.specs.declared.sequence.SlotRef.{SlotRef}
use Rattle.lnfs_session.specs.Listed.{id_of, session_id_of}
use Rattle.lnfs_session.specs.Standing.{Lists, standing, lists_of}
use Rattle.lnfs_session.specs.Arrived as arrival
use Rattle.lnfs_session.specs.Arrived.{Arrived, arrived, answered_as}
use Rattle.lnfs_operations.specs.declared.Refusal as code
use Rattle.lnfs_engine.specs.declared.place.InSession.{InSession}
use Rattle.lnfs_engine.specs.Places.{StandsIn}
use Rattle.lnfs_engine.specs.Replies.{own_of, Acts}
use Rattle.lnfs_engine.specs.Results.{sequence_result}

module _ (args : Sequence) (sent : Sent) (p : Place) (w : World) (P : Outcome (Answer Sequenced) → Type 0)
    (refused : (gate : Gate) (status : ℕ) → P (refuse p gate status)) (again : (reply : List ℕ) → P (done p (Again reply) []))
    (new : (x : Session) → x.id.level ≡ p.subject → session_at w.sessions x.id ≡ Some x → P (begun_in p w x)) where
  -- what holds of each end holds of the outcome
  pub sequence_any : P (sequence args sent p w)
  sequence_any =
      demand_any P ((session_named args.session).level == p.subject) _ _ (refused _ _) (λ own.
      where_any P (session_under args.session w.sessions) (under_session args sent p w) _ (λ x found.
      let at = session_under-at args.session w.sessions x found in
      let id : x.id ≡ session_named args.session = session_at-id (session_named args.session) w.sessions x at in
      let level : x.id.level ≡ p.subject = grind (arith, nat_tests, own, id) in
      demand_any P (nat_le sent.size x.channel.max_request) _ _ (refused _ _) (λ short.
      demand_any P (nat_le sent.count x.channel.max_operations) _ _ (refused _ _) (λ few.
      where_any P (slice_get x.slots args.slot) (on_slot args sent p w x) _ (λ slot there.
      in_order_any P p slot.sequence (next_sequence slot.sequence) slot.kept args.sequence sent.arguments (λ reply. done p (Again reply) []) (begun_in p w x)
      (λ status. refused gates.Session status) (λ k kept. again k.reply) (λ next. new x level (ap (session_at w.sessions) id ∙ at)))
      (refused _ _))))
      (refused _ _))

-- ---- by what the clients answered

-- a new request stands in a session that is there
pub record IsNew (args : Sequence) (p : Place) (w : World) (o : Outcome (Answer Sequenced)) (id : Id) (slot : ℕ) (client : Id) (room highest : ℕ) : Type 0 where
  pub session : Session
  pub outcome : o ≡ begun_in p w session
  pub level : session.id.level ≡ p.subject
  pub found : session_at w.sessions session.id ≡ Some session
  pub told : arrived args (New session) ≡ arrival.New id slot client room highest

pub is_new : (args : Sequence) (sent : Sent) (p : Place) (w : World) (id : Id) (slot : ℕ) (client : Id) (room highest : ℕ) → Done (arrival.New id slot client room highest) ≡ answered_as (arrived args) (sequence args sent p w).answer → IsNew args p w (sequence args sent p w) id slot client room highest
is_new args sent p w id slot client room highest =
    sequence_any args sent p w (λ o. Done (arrival.New id slot client room highest) ≡ answered_as (arrived args) o.answer → IsNew args p w o id slot client room highest)
    (λ gate status is. absurd (cc)) (λ reply is. absurd (cc))
    (λ x level found is. record { session = x; outcome = refl; level = level; found = found; told = cc })

pub is_again : (args : Sequence) (sent : Sent) (p : Place) (w : World) (reply : List ℕ) → Done (arrival.Again reply) ≡ answered_as (arrived args) (sequence args sent p w).answer → sequence args sent p w ≡ done p (Again reply) []
is_again args sent p w reply =
    sequence_any args sent p w (λ o. Done (arrival.Again reply) ≡ answered_as (arrived args) o.answer → o ≡ done p (Again reply) [])
    (λ gate status is. absurd (cc)) (λ kept is. let same : reply ≡ kept = cc in ap (λ k. done p (Again k) []) (sym same)) (λ x level found is. absurd (cc))

abbrev pub refused_with : Refusal → Answer Arrived
refused_with why = Refused why

pub is_refused : (args : Sequence) (sent : Sent) (p : Place) (w : World) (why : Refusal) → refused_with why ≡ answered_as (arrived args) (sequence args sent p w).answer → sequence args sent p w ≡ refuse p why.gate why.status
is_refused args sent p w why =
    sequence_any args sent p w (λ o. refused_with why ≡ answered_as (arrived args) o.answer → o ≡ refuse p why.gate why.status)
    (λ gate status is. let same : why ≡ record { gate = gate; status = status } = cc in ap (λ (r : Refusal). refuse p r.gate r.status) (sym same)) (λ kept is. absurd (cc)) (λ x level found is. absurd (cc))

-- ---- what it comes to

module _ (site : Site) (args : Sequence) (sent : Sent) (p : Place) (w : World) where
  turned : (o : Outcome (Answer Sequenced)) (v : World) → sequence args sent p w ≡ o → v ≡ done_to w o → Acts (row site sent (ops.Sequence args) p w) (reply_of (ops.Sequence args) (sequence_reply args) o.answer) o.place w v
  turned o v is after = record {
    answer = ap (λ (x : Outcome (Answer Sequenced)). reply_of (ops.Sequence args) (sequence_reply args) x.answer) is;
    place = ap (λ (x : Outcome (Answer Sequenced)). x.place) is;
    world = after ∙ sym (ap (done_to w) is);
  }

  pub acts_new : (id : Id) (slot : ℕ) (client : Id) (room highest : ℕ) (n : IsNew args p w (sequence args sent p w) id slot client room highest) (v : World) → v ≡ apply_all (renewing p.moment (client_at w.clients client)) w → Acts (row site sent (ops.Sequence args) p w) (own_of (ops.Sequence args) (Keep.Slot slot args.sequence) (Ok (sequence_result args highest))) (in_session p n.session) w v
  acts_new id slot client room highest n v renewed =
      let told = n.told in
      let at : args.slot ≡ slot = cc in
      let top : n.session.channel.max_requests - 1 ≡ highest = cc in
      let own : record { level = n.session.id.level; number = n.session.client } ≡ client = cc in
      let after : v ≡ apply_all (renewal p w n.session) w = renewed ∙ (λ i. apply_all (renewing p.moment (client_at w.clients (sym own i))) w) ∙ (λ i. apply_all (renewing p.moment (client_at w.clients (record { level = n.level i; number = n.session.client }))) w) in
      subst (λ r. Acts (row site sent (ops.Sequence args) p w) r (in_session p n.session) w v) (λ i. own_of (ops.Sequence args) (Keep.Slot (at i) args.sequence) (Ok (sequence_result args (top i)))) (turned (begun_in p w n.session) v n.outcome after)

  pub acts_again : (reply : List ℕ) → sequence args sent p w ≡ done p (Again reply) [] → Acts (row site sent (ops.Sequence args) p w) (Keep.Kept reply) p w w
  acts_again reply is = turned (done p (Again reply) []) w is refl

  pub acts_refused : (why : code.Refusal) → sequence args sent p w ≡ refuse p why.gate why.status → Acts (row site sent (ops.Sequence args) p w) (own_of (ops.Sequence args) Keep.Nowhere (Err why)) p w w
  acts_refused why is = turned (refuse p why.gate why.status) w is refl

module _ (level : ℕ) (moment : Moment) (args : Sequence) (w : World) (o : Outcome (Answer Sequenced)) (at : SlotRef) (client : ClientRef) (room highest : ℕ)
    (n : IsNew args (begins_at level moment) w o (session_id_of at.session) at.slot (id_of client) room highest) where
  -- where its result is kept
  abbrev pub behind : InSession
  behind = record { at = at; sequence = args.sequence; client = client; room = room }

  -- the place in the session
  abbrev pub later : Place
  later = record (begins_at level moment) { client = Some client.number; session = Some at.session.number }

  pub new_place : in_session (begins_at level moment) n.session ≡ later
  new_place =
      let told = n.told in
      let id : n.session.id ≡ session_id_of at.session = cc in
      let own : record { level = n.session.id.level; number = n.session.client } ≡ id_of client = cc in
      λ i. record (begins_at level moment) { client = Some (own i).number; session = Some (id i).number }

  pub new_stands : StandsIn later w.sessions behind
  new_stands =
      let told = n.told in
      let id : n.session.id ≡ session_id_of at.session = cc in
      let own : record { level = n.session.id.level; number = n.session.client } ≡ id_of client = cc in
      let most : n.session.channel.max_response ≡ room = cc in
      let level_is : at.session.level ≡ level = ap (λ (x : Id). x.level) (sym id) ∙ n.level in
      record {
        level = level_is;
        client_level = ap (λ (x : Id). x.level) (sym own) ∙ n.level;
        client = refl;
        session = refl;
        room = ap (λ (l : ℕ). option_map (λ (x : Session). x.channel.max_response) (session_at w.sessions (record { level = l; number = at.session.number }))) (sym level_is)
            ∙ ap (λ (x : Id). option_map (λ (y : Session). y.channel.max_response) (session_at w.sessions x)) (sym id)
            ∙ ap (option_map (λ (x : Session). x.channel.max_response)) n.found ∙ ap Some most;
      }

-- what a renewal leaves of the world beside the clients, and of the sessions
pub renewed_stands : (moment : Moment) (o : Option Client) (rest : World) (lists : Lists) → standing rest (lists_of (apply_all (renewing moment o) (standing rest lists))) ≡ apply_all (renewing moment o) (standing rest lists)
renewed_stands moment None rest lists = refl
renewed_stands moment (Some c) rest lists = refl

pub renewed_sessions : (moment : Moment) (o : Option Client) (rest : World) (lists : Lists) → (lists_of (apply_all (renewing moment o) (standing rest lists))).sessions ≡ lists.sessions
renewed_sessions moment None rest lists = refl
renewed_sessions moment (Some c) rest lists = refl
