-- A new COMPOUND on the slot of its session: that slot keeps its result. All other sessions stay, and contexts and last
-- numbers; and records of clients but for their lease, and whether they have reclaimed.
use Rattle.std.proofs.Common.{◌≡◌, ◌≤◌, ℕ, zero, suc, true, cond, List, [], ◌∷◌, Option, Some, None, refl, sym, ◌∙◌, ap, subst, arith}
use Rattle.std.specs.Prelude.{slice_get}
use Rattle.lnfs_calipso.specs.Label.{IsPreorderWithBottom}
use Rattle.lnfs_types.specs.declared.event.Moment.{Moment}
use Rattle.lnfs_arguments.specs.declared.types.Op.{Op}
use Rattle.lnfs_arguments.specs.declared.types.Op.TheVariants as ops
use Rattle.lnfs_arguments.specs.declared.types.Compound.{Compound}
use Rattle.lnfs_arguments.specs.declared.types.Sequence.{Sequence}
use Rattle.lnfs_world.specs.Rows.{inserted}
use Rattle.lnfs_world.specs.World.{Id, Kept as Stored, Slot as SlotRow, Session, World, session_order, same_id, session_at}
use Rattle.lnfs_world.specs.Change.{apply_all}
use Rattle.lnfs_world.specs.Outcome.{Site, Place, begins_at}
use Rattle.lnfs_world.specs.Lawful.{Turn}
use Rattle.lnfs_world.specs.Both.{Both, BothStand}
use Rattle.lnfs_operations.specs.Identifiers.{session_named}
use Rattle.lnfs_operations.specs.Keeping.{next_sequence, with_slot, kept_in, kept_under}
use Rattle.lnfs_operations.specs.Sequence.{Sent, in_session, begun_in, sequence}
use Rattle.lnfs_operations.specs.Extra.{Extra, AreLawful}
use Rattle.lnfs_operations.specs.Retries.{Names}
use Rattle.lnfs_operations.specs.Served.{operation}
use Rattle.lnfs_operations.specs.SlotRule.{Answer, Ran, run_all, kept_after, served}
use Rattle.lnfs_operations.proofs.KeepingLaws.{session_at-inserted}
use Rattle.lnfs_operations.proofs.SessionLaws.{session_at-id, session_under-at}
use Rattle.lnfs_operations.proofs.Renewals.{renewal_leaves}
use Rattle.lnfs_operations.proofs.Retries.{begun, by_sequence}
use Rattle.lnfs_operations.proofs.Once.{behind_stays, behind_subject, renewed_state, new_begins, keeping, kept_sessions}
use Rattle.lnfs_slots.specs.OneClient.{is_keeping}
use Rattle.lnfs_slots.proofs.Behind.{AreCore, renewed_core, behind_core}
use Rattle.lnfs_slots.proofs.Steady.{Steady, steady_through}

slot_set : (n : ℕ) (row : SlotRow) (xs : List SlotRow) (old : SlotRow) → slice_get xs n ≡ Some old → slice_get (with_slot n row xs) n ≡ Some row
slot_set n row [] old is = absurd (grind arith)
slot_set zero row (x ∷ xs) old is = refl
slot_set (suc n) row (x ∷ xs) old is = slot_set n row xs old is

-- what stays of a world
pub record LeavesRecords (w v : World) : Type 0 where
  pub clients : AreCore w.clients v.clients
  pub steady : Steady w v

-- the keeping of a result changes sessions alone
kept_leaves : (q : Place) (slot : ℕ) (row : SlotRow) (o : Option ℕ) (w v : World) → LeavesRecords w v → LeavesRecords w (apply_all (kept_under q slot row o v.sessions) v)
kept_leaves q slot row None w v before = before
kept_leaves q slot row (Some number) w v before = at (session_at v.sessions (record { level = q.subject; number = number }))
  where
    at : (o : Option Session) → LeavesRecords w (apply_all (kept_in q slot row o) v)
    at None = before
    at (Some x) = record { clients = before.clients; steady = record { contexts = before.steady.contexts; last_clients = before.steady.last_clients; last_sessions = before.steady.last_sessions; last_contexts = before.steady.last_contexts } }

module _ (X : Extra) (owed : AreLawful X) (site : Site) (lattice : IsPreorderWithBottom site.dom) (sent : Sent) (c : Compound) (level : ℕ) (moment : Moment) (b : Both X.Row) (args : Sequence) (rest : List Op) (x : Session) (slot : SlotRow) (stands : BothStand X.Fact site.dom (begins_at level moment) b) (minor : c.minor ≡ 2) (is : c.ops ≡ ops.Sequence args ∷ rest) (names : Names level b.world args sent x slot) (few : sent.count ≤ x.channel.max_operations) (next : args.sequence ≡ next_sequence slot.sequence) where
  abbrev p : Place
  p = begins_at level moment

  abbrev now : Turn Answer (Both X.Row)
  now = served X site sent c p b

  abbrev pub used : Session
  used = keeping x args.slot args.sequence (record { arguments = sent.arguments; reply = now.answer.result })

  -- the state in which the operations behind the SEQUENCE begin
  abbrev inside : Both X.Row
  inside = renewed_state X owed site lattice sent c p b x

  started : (sequence args sent p b.world ≡ begun_in p b.world x) × BothStand X.Fact site.dom (in_session p x) inside
  started = new_begins X owed site lattice sent c level moment b args x slot stands names few next

  abbrev ran_in : Ran (Both X.Row)
  ran_in = begun X site sent c args rest b (begun_in p b.world x)

  ran : run_all (operation X site sent c) c p b ≡ ran_in
  ran = by_sequence X site sent c level moment b args rest minor is ∙ ap (begun X site sent c args rest b) started.0

  first : now ≡ kept_after sent c ran_in
  unfolding served
  first = ap (kept_after sent c) ran

  pub acts : is_keeping (run_all (operation X site sent c) c p b).keeper ≡ true
  unfolding begun
  acts = ap (λ (r : Ran (Both X.Row)). is_keeping r.keeper) ran

  pub id : x.id ≡ session_named args.session
  id = session_at-id (session_named args.session) b.world.sessions x (session_under-at args.session b.world.sessions x names.session)

  there : session_at b.world.sessions x.id ≡ Some x
  there = ap (session_at b.world.sessions) id ∙ session_under-at args.session b.world.sessions x names.session

  -- the sessions afterwards
  sessions : now.state.world.sessions ≡ inserted session_order used b.world.sessions
  unfolding begun
  sessions =
      let behind = behind_stays X owed site lattice sent c rest _ [] (in_session p x) inside started.1 in
      let stay = behind.0 ∙ (renewal_leaves p b.world x).sessions in
      let subject = behind_subject X owed site lattice sent c rest _ [] (in_session p x) inside started.1 in
      let own : x.id.level ≡ level = ap (λ (i : Id). i.level) id ∙ names.own in
      let kept : Stored = record { arguments = sent.arguments; reply = (kept_after sent c ran_in).answer.result } in
      let after = kept_sessions ran_in.place ran_in.state.world level x args.slot args.sequence kept behind.1 subject own (ap (λ xs. session_at xs x.id) stay ∙ there)
      ∙ ap (inserted session_order (keeping x args.slot args.sequence kept)) stay in
      subst (λ (t : Turn Answer (Both X.Row)). t.state.world.sessions ≡ inserted session_order (keeping x args.slot args.sequence (record { arguments = sent.arguments; reply = t.answer.result })) b.world.sessions) (sym first) after

  -- the session keeps the result, and every other is as before
  pub session_now : (i : Id) → session_at now.state.world.sessions i ≡ cond (same_id i x.id) (Some used) (session_at b.world.sessions i)
  session_now i = ap (λ xs. session_at xs i) sessions ∙ session_at-inserted used b.world.sessions i

  pub slot_now : slice_get used.slots args.slot ≡ Some (record { sequence = args.sequence; kept = Some (record { arguments = sent.arguments; reply = now.answer.result }) })
  slot_now = slot_set args.slot (record { sequence = args.sequence; kept = Some (record { arguments = sent.arguments; reply = now.answer.result }) }) x.slots slot names.slot

  -- records of clients, contexts and last numbers afterwards
  pub records_now : LeavesRecords b.world now.state.world
  unfolding begun
  records_now =
      let left = renewal_leaves p b.world x in
      let behind = behind_core X owed site lattice sent c rest _ [] (in_session p x) inside started.1 in
      let renewed : Steady b.world inside.world = record { contexts = left.contexts; last_clients = ap (λ l. l.clients) left.lasts; last_sessions = ap (λ l. l.sessions) left.lasts; last_contexts = ap (λ l. l.contexts) left.lasts } in
      let inner : LeavesRecords b.world ran_in.state.world = record { clients = λ i. behind.0 i ∙ renewed_core p b.world x i; steady = steady_through b.world inside.world ran_in.state.world renewed behind.1 } in
      let kept : Stored = record { arguments = sent.arguments; reply = (kept_after sent c ran_in).answer.result } in
      let after = kept_leaves ran_in.place args.slot (record { sequence = args.sequence; kept = Some kept }) ran_in.place.session b.world ran_in.state.world inner in
      subst (λ (t : Turn Answer (Both X.Row)). LeavesRecords b.world t.state.world) (sym first) after
