-- How a request came decides what it does: a new one keeps its result, and any other leaves the state.
use Rattle.std.proofs.Common.{◌≡◌, ◌≤◌, ℕ, Bool, true, false, cond, ◌&&◌, List, [], ◌∷◌, Option, Some, None, refl, sym, ap, ◌∙◌, subst, arith}
use Rattle.std.specs.Prelude.{◌==◌, nat_le, slice_get}
use Rattle.std.specs.Str.{bytes_eq}
use Rattle.std.proofs.lemmas.Bool.Decides.{nat_tests}
use Rattle.lnfs_calipso.specs.Label.{IsPreorderWithBottom}
use Rattle.lnfs_types.specs.declared.event.Moment.{Moment}
use Rattle.lnfs_arguments.specs.declared.types.Op.{Op}
use Rattle.lnfs_arguments.specs.declared.types.Op.TheVariants as ops
use Rattle.lnfs_arguments.specs.declared.types.Compound.{Compound}
use Rattle.lnfs_arguments.specs.declared.types.CreateSession.{CreateSession}
use Rattle.lnfs_arguments.specs.declared.types.Sequence.{Sequence}
use Rattle.lnfs_arguments.specs.declared.statuses.TheConstants.{NFS4ERR_BADSESSION, NFS4ERR_BADSLOT, NFS4ERR_REQ_TOO_BIG, NFS4ERR_TOO_MANY_OPS, NFS4ERR_SEQ_FALSE_RETRY, NFS4ERR_SEQ_MISORDERED, NFS4ERR_STALE_CLIENTID}
use Rattle.lnfs_monitor.specs.declared.rule.Rule.TheVariants.{M9}
use Rattle.lnfs_world.specs.Rows.{inserted}
use Rattle.lnfs_world.specs.World.{Id, Kept as Stored, Client, Slot as SlotRow, Session, World, session_order, client_at, session_at}
use Rattle.lnfs_world.specs.Outcome.{Site, Place, Outcome, begins_at}
use Rattle.lnfs_world.specs.Lawful.{Turn}
use Rattle.lnfs_world.specs.Both.{Both, BothStand}
use Rattle.lnfs_operations.specs.declared.Gate.{Gate}
use Rattle.lnfs_operations.specs.declared.Gate.TheVariants as gates
use Rattle.lnfs_operations.specs.Came as came
use Rattle.lnfs_operations.specs.Came.{Came, where_found, came_again, came_by, came_to_slot, came_in_session, came_on_slot, came_to_client, came_to_record, refused_first, KeepsOnSlot, KeepsInRecord}
use Rattle.lnfs_operations.specs.Chain.{Answer as Answered, refuse, done, demand, where_there}
use Rattle.lnfs_operations.specs.CreateSession.{Created, Again as MadeBefore, made, created, create_session, is_next_of, is_next_created}
use Rattle.lnfs_operations.specs.Extra.{Extra, AreLawful}
use Rattle.lnfs_operations.specs.Identifiers.{client_named, session_named, session_under}
use Rattle.lnfs_operations.specs.InOrder.{sequence_before, in_order}
use Rattle.lnfs_operations.specs.Keeping.{next_sequence}
use Rattle.lnfs_operations.specs.Retries.{Names}
use Rattle.lnfs_operations.specs.Sequence.{Sent, Sequenced, Again, in_session, begun_in, on_slot, under_session, sequence}
use Rattle.lnfs_operations.specs.Served.{Keeper, Nowhere, Record, reply_of, created_reply, under, created_keeper}
use Rattle.lnfs_operations.specs.SlotRule.{Answer, kept_after, served}
use Rattle.lnfs_operations.proofs.CreatedOnce.{created_kept}
use Rattle.lnfs_operations.proofs.Once.{behind_stays, behind_subject, renewed_state, new_begins, keeping, kept_sessions}
use Rattle.lnfs_operations.proofs.Renewals.{renewal_leaves}
use Rattle.lnfs_operations.proofs.Retries.{begun, by_sequence, created_from, by_created, chosen_false}
use Rattle.lnfs_operations.proofs.SessionLaws.{session_at-id, session_under-at}

-- ---- what SEQUENCE comes to

abbrev IsAs : Place → World → Outcome (Answered Sequenced) → Came → Type 0
IsAs p w o came.New = (x : Session) × (o ≡ begun_in p w x)
IsAs p w o (came.Again reply) = o ≡ done p (Again reply) []
IsAs p w o came.Refused = (gate : Gate) × (status : ℕ) × (o ≡ refuse p gate status)

test_as : (p : Place) (w : World) (t : Bool) (gate : Gate) (status : ℕ) (o : Outcome (Answered Sequenced)) (k : Came) → IsAs p w o k → IsAs p w (demand t (refuse p gate status) o) (cond t k came.Refused)
test_as p w true gate status o k is = is
test_as p w false gate status o k is = (gate, status, refl)

found_as : {A : Type 0} (p : Place) (w : World) (a : Option A) (f : A → Outcome (Answered Sequenced)) (g : A → Came) (gate : Gate) (status : ℕ) → ((x : A) → IsAs p w (f x) (g x)) → IsAs p w (where_there a f (refuse p gate status)) (where_found a g)
found_as p w None f g gate status is = (gate, status, refl)
found_as p w (Some x) f g gate status is = is x

order_as : (p : Place) (w : World) (x : Session) (last next : ℕ) (kept : Option Stored) (n : ℕ) (arguments : List ℕ) →
    IsAs p w (in_order p last next kept n arguments (λ reply. done p (Again reply) []) (begun_in p w x)) (came_by last next kept n arguments)
order_as p w x last next kept n arguments = at (cond (n == last) kept None)
  where
    at : (o : Option Stored) → IsAs p w (where_there o (λ k. demand (bytes_eq k.arguments arguments) (refuse p gates.Session NFS4ERR_SEQ_FALSE_RETRY) (done p (Again k.reply) [])) (demand (n == next) (refuse p gates.Session NFS4ERR_SEQ_MISORDERED) (begun_in p w x)))
        (came_again arguments o (cond (n == next) came.New came.Refused))
    at None = test_as p w (n == next) gates.Session NFS4ERR_SEQ_MISORDERED (begun_in p w x) came.New (x, refl)
    at (Some k) = test_as p w (bytes_eq k.arguments arguments) gates.Session NFS4ERR_SEQ_FALSE_RETRY (done p (Again k.reply) []) (came.Again k.reply) refl

sequence_as : (level : ℕ) (moment : Moment) (w : World) (args : Sequence) (sent : Sent) → IsAs (begins_at level moment) w (sequence args sent (begins_at level moment) w) (came_on_slot level w args sent)
sequence_as level moment w args sent =
    let p = begins_at level moment in
    test_as p w ((session_named args.session).level == level) (gates.Monitor M9) NFS4ERR_BADSESSION _ _
    (found_as p w (session_under args.session w.sessions) (under_session args sent p w) (came_in_session args sent) gates.Session NFS4ERR_BADSESSION (λ x.
    test_as p w (nat_le sent.size x.channel.max_request) gates.Session NFS4ERR_REQ_TOO_BIG _ _
    (test_as p w (nat_le sent.count x.channel.max_operations) gates.Session NFS4ERR_TOO_MANY_OPS _ _
    (found_as p w (slice_get x.slots args.slot) (on_slot args sent p w x) (came_to_slot args.sequence sent.arguments) gates.Session NFS4ERR_BADSLOT (λ slot.
    order_as p w x slot.sequence (next_sequence slot.sequence) slot.kept args.sequence sent.arguments)))))

-- ---- what a new request names

new_if : (t : Bool) (k : Came) → cond t k came.Refused ≡ came.New → (t ≡ true) × (k ≡ came.New)
new_if true k e = (refl, e)
new_if false k e = absurd cc

new_found : {A : Type 0} (o : Option A) (f : A → Came) → where_found o f ≡ came.New → (x : A) × (o ≡ Some x) × (f x ≡ came.New)
new_found None f e = absurd cc
new_found (Some x) f e = (x, refl, e)

new_by : (last next : ℕ) (kept : Option Stored) (n : ℕ) (arguments : List ℕ) → came_by last next kept n arguments ≡ came.New → (n == next) ≡ true
new_by last next kept n arguments e = at (cond (n == last) kept None) e
  where
    never : (t : Bool) (reply : List ℕ) → cond t (came.Again reply) came.Refused ≡ came.New → (n == next) ≡ true
    never true reply e = absurd cc
    never false reply e = absurd cc

    at : (o : Option Stored) → came_again arguments o (cond (n == next) came.New came.Refused) ≡ came.New → (n == next) ≡ true
    at None e = (new_if (n == next) came.New e).0
    at (Some k) e = never (bytes_eq k.arguments arguments) k.reply e

-- a slot, that accepts it
pub record IsNewOn (level : ℕ) (w : World) (args : Sequence) (sent : Sent) : Type 0 where
  pub session : Session
  pub slot : SlotRow
  pub names : Names level w args sent session slot
  pub few : sent.count ≤ session.channel.max_operations
  pub next : args.sequence ≡ next_sequence slot.sequence

pub new_on : (level : ℕ) (w : World) (args : Sequence) (sent : Sent) → came_on_slot level w args sent ≡ came.New → IsNewOn level w args sent
new_on level w args sent e =
    let own = new_if ((session_named args.session).level == level) _ e in
    let (x, found, in_it) = new_found (session_under args.session w.sessions) (came_in_session args sent) own.1 in
    let short = new_if (nat_le sent.size x.channel.max_request) _ in_it in
    let few = new_if (nat_le sent.count x.channel.max_operations) _ short.1 in
    let (slot, there, on_it) = new_found (slice_get x.slots args.slot) (came_to_slot args.sequence sent.arguments) few.1 in
    let next = new_by slot.sequence (next_sequence slot.sequence) slot.kept args.sequence sent.arguments on_it in
    record {
      session = x;
      slot = slot;
      names = record { own = grind (arith, nat_tests, own.0); session = found; size = grind (arith, nat_tests, short.0); slot = there };
      few = grind (arith, nat_tests, few.0);
      next = grind (arith, nat_tests, next);
    }

-- a record of a client
pub record IsNewTo (level : ℕ) (w : World) (args : CreateSession) : Type 0 where
  pub client : Client
  pub own : (client_named args.client).level ≡ level
  pub found : client_at w.clients (client_named args.client) ≡ Some client
  pub next : args.sequence ≡ client.sequence

pub new_to : (level : ℕ) (w : World) (args : CreateSession) (arguments : List ℕ) → came_to_record level w args arguments ≡ came.New → IsNewTo level w args
new_to level w args arguments e =
    let own = new_if ((client_named args.client).level == level) _ e in
    let (c, found, to_it) = new_found (client_at w.clients (client_named args.client)) (came_to_client args arguments) own.1 in
    let next = new_by (sequence_before c.sequence) c.sequence c.kept args.sequence arguments to_it in
    record { client = c; own = grind (arith, nat_tests, own.0); found = found; next = grind (arith, nat_tests, next) }

-- ---- a COMPOUND on a slot

module _ (X : Extra) (site : Site) (sent : Sent) (c : Compound) (level : ℕ) (moment : Moment) (b : Both X.Row) (args : Sequence) (rest : List Op) (minor : c.minor ≡ 2) (is : c.ops ≡ ops.Sequence args ∷ rest) where
  abbrev p : Place
  p = begins_at level moment

  -- what is served where SEQUENCE comes to this
  ran_as : (o : Outcome (Answered Sequenced)) → sequence args sent p b.world ≡ o → served X site sent c p b ≡ kept_after sent c (begun X site sent c args rest b o)
  unfolding served
  ran_as o e = ap (kept_after sent c) (by_sequence X site sent c level moment b args rest minor is ∙ ap (begun X site sent c args rest b) e)

  came_as : (k : Came) → came_on_slot level b.world args sent ≡ k → IsAs p b.world (sequence args sent p b.world) k
  came_as k e = subst (IsAs p b.world (sequence args sent p b.world)) e (sequence_as level moment b.world args sent)

  pub slot_again : (reply : List ℕ) → came_on_slot level b.world args sent ≡ came.Again reply →
      served X site sent c p b ≡ record { answer = record { result = reply; denial = None }; place = p; state = b }
  unfolding begun
  slot_again reply e = ran_as (done p (Again reply) []) (came_as (came.Again reply) e)

  pub slot_refused : came_on_slot level b.world args sent ≡ came.Refused →
      (gate : Gate) × (status : ℕ) × (served X site sent c p b ≡ record { answer = refused_first c (ops.Sequence args) gate status; place = p; state = b })
  unfolding begun
  slot_refused e = let (gate, status, o) = came_as came.Refused e in (gate, status, ran_as (refuse p gate status) o)

  module _ (owed : AreLawful X) (lattice : IsPreorderWithBottom site.dom) (stands : BothStand X.Fact site.dom p b) where
    -- the sessions behind a new one
    new_sessions : (x : Session) (slot : SlotRow) → Names level b.world args sent x slot → sent.count ≤ x.channel.max_operations → args.sequence ≡ next_sequence slot.sequence →
        let now = served X site sent c p b in
        now.state.world.sessions ≡ inserted session_order (keeping x args.slot args.sequence (record { arguments = sent.arguments; reply = now.answer.result })) b.world.sessions
    unfolding begun
    new_sessions x slot names few next =
        let started = new_begins X owed site lattice sent c level moment b args x slot stands names few next in
        let v = renewed_state X owed site lattice sent c p b x in
        let r = begun X site sent c args rest b (begun_in p b.world x) in
        let first = ran_as (begun_in p b.world x) started.0 in
        let behind = behind_stays X owed site lattice sent c rest _ [] (in_session p x) v started.1 in
        let stay = behind.0 ∙ (renewal_leaves p b.world x).sessions in
        let subject = behind_subject X owed site lattice sent c rest _ [] (in_session p x) v started.1 in
        let id : x.id ≡ session_named args.session = session_at-id (session_named args.session) b.world.sessions x (session_under-at args.session b.world.sessions x names.session) in
        let own : x.id.level ≡ level = ap (λ (i : Id). i.level) id ∙ names.own in
        let there : session_at b.world.sessions x.id ≡ Some x = ap (session_at b.world.sessions) id ∙ session_under-at args.session b.world.sessions x names.session in
        let kept : Stored = record { arguments = sent.arguments; reply = (kept_after sent c r).answer.result } in
        let after = kept_sessions r.place r.state.world level x args.slot args.sequence kept behind.1 subject own (ap (λ xs. session_at xs x.id) stay ∙ there)
        ∙ ap (inserted session_order (keeping x args.slot args.sequence kept)) stay in
        subst (λ (t : Turn Answer (Both X.Row)). t.state.world.sessions ≡ inserted session_order (keeping x args.slot args.sequence (record { arguments = sent.arguments; reply = t.answer.result })) b.world.sessions) (sym first) after

    pub slot_new : came_on_slot level b.world args sent ≡ came.New →
        KeepsOnSlot args sent.arguments (served X site sent c p b).answer.result b.world (served X site sent c p b).state.world
    slot_new e = let on = new_on level b.world args sent e in record {
      session = on.session;
      slot = on.slot;
      session_is = on.names.session;
      slot_is = on.names.slot;
      next = on.next;
      sessions = new_sessions on.session on.slot on.names on.few on.next;
    }

-- ---- what CREATE_SESSION comes to

-- by whether it brings the next sequence of its record
abbrev IsMade : Place → Outcome (Answered Created) → Bool → Came → Type 0
IsMade p o next came.New = Unit {0}
IsMade p o next (came.Again reply) = o ≡ done p (MadeBefore reply) []
IsMade p o next came.Refused = (gate : Gate) × (status : ℕ) × (o ≡ refuse p gate status) × (next ≡ false)

test_made : (p : Place) (t : Bool) (gate : Gate) (status : ℕ) (o : Outcome (Answered Created)) (next : Bool) (k : Came) → IsMade p o next k → IsMade p (demand t (refuse p gate status) o) (t && next) (cond t k came.Refused)
test_made p true gate status o next k is = is
test_made p false gate status o next k is = (gate, status, refl, refl)

found_made : (p : Place) (a : Option Client) (f : Client → Outcome (Answered Created)) (g : Client → Came) (n : ℕ) (gate : Gate) (status : ℕ) → ((c : Client) → IsMade p (f c) (n == c.sequence) (g c)) → IsMade p (where_there a f (refuse p gate status)) (is_next_of n a) (where_found a g)
found_made p None f g n gate status is = (gate, status, refl, refl)
found_made p (Some c) f g n gate status is = is c

before_not_next : (n : ℕ) → (sequence_before n == n) ≡ false
before_not_next n = grind (arith, nat_tests)

order_made : (p : Place) (last next : ℕ) (kept : Option Stored) (n : ℕ) (arguments : List ℕ) (new : Outcome (Answered Created)) → ((n == last) ≡ true → (n == next) ≡ false) →
    IsMade p (in_order p last next kept n arguments (λ reply. done p (MadeBefore reply) []) new) (n == next) (came_by last next kept n arguments)
order_made p last next kept n arguments new apart = at (n == last) refl kept
  where
    other : (t : Bool) → IsMade p (demand t (refuse p gates.Session NFS4ERR_SEQ_MISORDERED) new) t (cond t came.New came.Refused)
    other true = tt
    other false = (gates.Session, NFS4ERR_SEQ_MISORDERED, refl, refl)

    told : (t : Bool) (reply : List ℕ) → (n == next) ≡ false → IsMade p (demand t (refuse p gates.Session NFS4ERR_SEQ_FALSE_RETRY) (done p (MadeBefore reply) [])) (n == next) (cond t (came.Again reply) came.Refused)
    told true reply not = refl
    told false reply not = (gates.Session, NFS4ERR_SEQ_FALSE_RETRY, refl, not)

    at : (t : Bool) → (n == last) ≡ t → (o : Option Stored) → IsMade p (where_there (cond t o None) (λ k. demand (bytes_eq k.arguments arguments) (refuse p gates.Session NFS4ERR_SEQ_FALSE_RETRY) (done p (MadeBefore k.reply) [])) (demand (n == next) (refuse p gates.Session NFS4ERR_SEQ_MISORDERED) new)) (n == next)
        (came_again arguments (cond t o None) (cond (n == next) came.New came.Refused))
    at true is None = other (n == next)
    at true is (Some k) = told (bytes_eq k.arguments arguments) k.reply (apart is)
    at false is o = other (n == next)

create_as : (level : ℕ) (moment : Moment) (w : World) (args : CreateSession) (arguments : List ℕ) → IsMade (begins_at level moment) (create_session args arguments (begins_at level moment) w) (is_next_created args (begins_at level moment) w) (came_to_record level w args arguments)
create_as level moment w args arguments =
    let p = begins_at level moment in
    test_made p ((client_named args.client).level == level) (gates.Monitor M9) NFS4ERR_STALE_CLIENTID _ _ _
    (found_made p (client_at w.clients (client_named args.client)) (created args arguments p w) (came_to_client args arguments) args.sequence gates.Session NFS4ERR_STALE_CLIENTID (λ c.
    order_made p (sequence_before c.sequence) c.sequence c.kept args.sequence arguments (made args p w c) (λ last.
    let same : args.sequence ≡ sequence_before c.sequence = grind (arith, nat_tests, last) in
    ap (λ n. n == c.sequence) same ∙ before_not_next c.sequence)))

-- ---- a CREATE_SESSION

module _ (X : Extra) (site : Site) (sent : Sent) (c : Compound) (level : ℕ) (moment : Moment) (b : Both X.Row) (args : CreateSession) (minor : c.minor ≡ 2) (count : c.count ≡ 1) where
  abbrev at_first : Place
  at_first = begins_at level moment

  -- what is served where CREATE_SESSION comes to this
  made_as : (rest : List Op) (o : Outcome (Answered Created)) (keeper : Keeper) → c.ops ≡ ops.CreateSession args ∷ rest → create_session args sent.arguments at_first b.world ≡ o → created_keeper args at_first b.world ≡ keeper →
      served X site sent c at_first b ≡ kept_after sent c (created_from X site sent c args rest b (record { answer = under keeper (reply_of (ops.CreateSession args) (created_reply level args) o.answer); place = o.place; changes = o.changes }))
  unfolding served
  made_as rest o keeper is e k =
      ap (kept_after sent c) (by_created X site sent c level moment b args rest minor count is
      ∙ (λ i. created_from X site sent c args rest b (record { answer = under (k i) (reply_of (ops.CreateSession args) (created_reply level args) (e i).answer); place = (e i).place; changes = (e i).changes })))

  came_made : (k : Came) → came_to_record level b.world args sent.arguments ≡ k → IsMade at_first (create_session args sent.arguments at_first b.world) (is_next_created args at_first b.world) k
  came_made k e = subst (IsMade at_first (create_session args sent.arguments at_first b.world) (is_next_created args at_first b.world)) e (create_as level moment b.world args sent.arguments)

  pub record_again : (rest : List Op) (reply : List ℕ) → c.ops ≡ ops.CreateSession args ∷ rest → came_to_record level b.world args sent.arguments ≡ came.Again reply →
      served X site sent c at_first b ≡ record { answer = record { result = reply; denial = None }; place = at_first; state = b }
  unfolding created_from
  record_again rest reply is e = made_as rest (done at_first (MadeBefore reply) []) (created_keeper args at_first b.world) is (came_made (came.Again reply) e) refl

  pub record_refused : (rest : List Op) → c.ops ≡ ops.CreateSession args ∷ rest → came_to_record level b.world args sent.arguments ≡ came.Refused →
      (gate : Gate) × (status : ℕ) × (served X site sent c at_first b ≡ record { answer = refused_first c (ops.CreateSession args) gate status; place = at_first; state = b })
  unfolding created_from
  record_refused rest is e =
      let (gate, status, o, not) = came_made came.Refused e in
      (gate, status, made_as rest (refuse at_first gate status) Nowhere is o (chosen_false (is_next_created args at_first b.world) (Record (client_named args.client).number) Nowhere not))

  pub record_new : c.ops ≡ ops.CreateSession args ∷ [] → came_to_record level b.world args sent.arguments ≡ came.New →
      KeepsInRecord args sent.arguments (served X site sent c at_first b).answer.result b.world (served X site sent c at_first b).state.world
  record_new is e =
      let to = new_to level b.world args sent.arguments e in
      let left = created_kept X site sent c args level moment b to.client to.own to.found to.next minor count is in
      record {
        before = to.client;
        after = record left.row { sequence = next_sequence left.row.sequence; kept = Some (record { arguments = sent.arguments; reply = (served X site sent c at_first b).answer.result }) };
        before_is = to.found;
        after_is = left.there;
        next = to.next;
        sequence = ap next_sequence left.sequence;
        keeps = refl;
      }
