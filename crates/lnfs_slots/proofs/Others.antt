-- A COMPOUND that names nothing of an owner leaves the owner's rows, but for leases and whether clients have reclaimed.
use Rattle.std.proofs.Common.{◌≡◌, ℕ, Bool, true, false, cond, not, List, [], ◌∷◌, Option, Some, None, refl, sym, ap, ◌∙◌, subst, arith}
use Rattle.std.specs.Prelude.{◌==◌}
use Rattle.std.specs.Option.{option_map}
use Rattle.std.specs.Str.{bytes_eq}
use Rattle.std.proofs.lemmas.Bool.{and_parts}
use Rattle.std.proofs.lemmas.Bool.Decides.{nat_tests}
use Rattle.lnfs_calipso.specs.Label.{IsPreorderWithBottom}
use Rattle.lnfs_types.specs.declared.event.Moment.{Moment}
use Rattle.lnfs_arguments.specs.declared.types.Op.{Op}
use Rattle.lnfs_arguments.specs.declared.types.Op.TheVariants as ops
use Rattle.lnfs_arguments.specs.declared.types.Compound.{Compound}
use Rattle.lnfs_arguments.specs.declared.types.CreateSession.{CreateSession}
use Rattle.lnfs_arguments.specs.declared.types.Sequence.{Sequence}
use Rattle.lnfs_results.specs.declared.types.OpResult.{OpResult}
use Rattle.lnfs_results.specs.declared.types.OpResult.TheVariants as results
use Rattle.lnfs_world.specs.World.{Id, Kept as Stored, Client as ClientRow, Session as SessionRow, World, same_id, client_at, session_at, last_of}
use Rattle.lnfs_world.specs.Change.{apply_all}
use Rattle.lnfs_world.specs.Outcome.{Site, Place, Outcome, begins_at, done_to}
use Rattle.lnfs_world.specs.Lawful.{Turn}
use Rattle.lnfs_world.specs.Both.{Both, both_seen, BothStand}
use Rattle.lnfs_world.proofs.Keys.{id_same}
use Rattle.lnfs_operations.specs.Admission.{admission}
use Rattle.lnfs_operations.specs.Came as came
use Rattle.lnfs_operations.specs.Came.{Came, came_on_slot}
use Rattle.lnfs_operations.specs.Chain.{Refusal}
use Rattle.lnfs_operations.specs.CreateSession.{create_session, is_next_of, is_next_created}
use Rattle.lnfs_operations.specs.DestroyClientId.{is_busy, destroy_clientid}
use Rattle.lnfs_operations.specs.DestroySession.{destroy_session}
use Rattle.lnfs_operations.specs.ExchangeId.{Arguments, exchange_id}
use Rattle.lnfs_operations.specs.Extra.{Extra, AreLawful}
use Rattle.lnfs_operations.specs.Identifiers.{client_named, session_named, session_under}
use Rattle.lnfs_operations.specs.Keeping.{kept_under, kept_of}
use Rattle.lnfs_operations.specs.Sequence.{Sent}
use Rattle.lnfs_operations.specs.Served.{Keeper, Nowhere, Slot, Record, Reply, Own, Kept, success, told_reply, reply_of, created_reply, created_keeper, under, row_in, admitted, operation}
use Rattle.lnfs_operations.specs.SlotRule.{Answer, Ran, run_behind, run_all, result_of, keep_in, kept_after, served}
use Rattle.lnfs_operations.proofs.CameLaws.{IsNewOn, new_on, slot_again, slot_refused}
use Rattle.lnfs_operations.proofs.Chains.{demand_any, where_any}
use Rattle.lnfs_operations.proofs.CreateSessionLaws.{created_any}
use Rattle.lnfs_operations.proofs.ExchangeIdLaws.{exchange_id_any}
use Rattle.lnfs_operations.proofs.Once.{admitted_any, behind_stays, behind_subject}
use Rattle.lnfs_operations.proofs.Retries.{chosen_false, of_version}
use Rattle.lnfs_operations.proofs.ServedLaws.{operation_lawful}
use Rattle.lnfs_operations.proofs.SessionLaws.{session_under-at}
use Rattle.lnfs_operations.proofs.SlotRules.{followed_any}
use Rattle.lnfs_slots.specs.OneClient.{at_level, is_owner, is_session}
use Rattle.lnfs_slots.proofs.Apart.{own, own_session, IsApart, IsStrange, apart_itself, apart_through, strange_still, same_owners}
use Rattle.lnfs_slots.proofs.Behind.{AreCore, core, behind_core}
use Rattle.lnfs_slots.proofs.Cores.{none_there}
use Rattle.lnfs_slots.proofs.Due as due
use Rattle.lnfs_slots.proofs.Keepers.{keeper_of, replied_keeper, followed_keeper, behind_keeper}
use Rattle.lnfs_slots.proofs.OtherOps.{exchange_apart, create_apart, destroy_apart, leave_apart, keep_apart}

module _ (owner : List ℕ) (level : ℕ) where
  own_core : (o : Option ClientRow) → own owner level (option_map core o) ≡ own owner level o
  own_core None = refl
  own_core (Some c) = refl

  -- records that keep their core are as before
  pub records_core : (w u : World) → AreCore w.clients u.clients → (n : ℕ) → own owner level (client_at u.clients (at_level level n)) ≡ own owner level (client_at w.clients (at_level level n))
  records_core w u kept n = sym (own_core (client_at u.clients (at_level level n))) ∙ ap (own owner level) (kept (at_level level n)) ∙ own_core (client_at w.clients (at_level level n))

-- what an operation at a level must not name of an owner
abbrev pub Spares : (owner : List ℕ) (level subject : ℕ) → World → Op → Type 0
Spares owner level subject w (ops.ExchangeId verifier name flags implementation) = subject ≡ level → bytes_eq name owner ≡ false
Spares owner level subject w (ops.CreateSession args) = (client_named args.client).level ≡ subject → IsStrange owner level w (client_named args.client)
Spares owner level subject w (ops.DestroyClientId client) = (client_named client).level ≡ subject → IsStrange owner level w (client_named client)
Spares owner level subject w (ops.DestroySession session) = (session_named session).level ≡ subject → (session_named session).level ≡ level → own_session owner level w (session_at w.sessions (session_named session)) ≡ None
Spares owner level subject w (ops.Sequence args) = (session_named args.session).level ≡ subject → (session_named args.session).level ≡ level → own_session owner level w (session_at w.sessions (session_named args.session)) ≡ None
Spares owner level subject w op = Unit {0}

module _ (X : Extra) (owed : AreLawful X) (site : Site) (lattice : IsPreorderWithBottom site.dom) (sent : Sent) (c : Compound) (owner : List ℕ) (level : ℕ) (subject : ℕ) (moment : Moment) (b : Both X.Row) (stands : BothStand X.Fact site.dom (begins_at subject moment) b) where
  abbrev p : Place
  p = begins_at subject moment

  abbrev Apart : World → World → Type 0
  Apart w u = IsApart owner level w u

  abbrev Stays : Type 0
  Stays = Apart b.world (served X site sent c p b).state.world

  -- the operations behind the first
  behind_apart : (os : List Op) (r : OpResult) (q : Place) (v : Both X.Row) → BothStand X.Fact site.dom q v → Apart v.world (run_behind (operation X site sent c) (r ∷ []) os q v).state.world
  behind_apart os r q v standing =
      let kept = behind_core X owed site lattice sent c os r [] q v standing in
      let stay = behind_stays X owed site lattice sent c os r [] q v standing in
      let u : World = (run_behind (operation X site sent c) (r ∷ []) os q v).state.world in
      record {
        records = records_core owner level v.world u kept.0;
        sessions = λ n. ap (λ ss. own_session owner level u (session_at ss (at_level level n))) stay.0 ∙ same_owners owner level v.world u (records_core owner level v.world u kept.0) (session_at v.world.sessions (at_level level n));
        contexts = kept.1.contexts;
        absent = λ n below gone. none_there (client_at u.clients (at_level level n)) (client_at v.world.clients (at_level level n)) (kept.0 (at_level level n)) gone;
        absent_session = λ n below gone. ap (λ ss. session_at ss (at_level level n)) stay.0 ∙ gone;
        clients_rise = let same : last_of level u.lasts.clients ≡ last_of level v.world.lasts.clients = ap (last_of level) kept.1.last_clients in omega arith;
        sessions_rise = let same : last_of level u.lasts.sessions ≡ last_of level v.world.lasts.sessions = ap (last_of level) kept.1.last_sessions in omega arith;
        numbers = λ bound. let same : last_of level u.lasts.clients ≡ last_of level v.world.lasts.clients = ap (last_of level) kept.1.last_clients in omega arith;
      }

  -- where a result may be kept
  abbrev Fine : Keeper → Type 0
  Fine Nowhere = Unit {0}
  Fine (Slot slot sequence) = Unit {0}
  Fine (Record client) = IsStrange owner level b.world (record { level = subject; number = client })

  abbrev Lone : Place → Both X.Row → Type 0
  Lone q v = Apart b.world v.world × (q.session ≡ None) × (q.subject ≡ subject)

  keep_by : (k : Keeper) (kept : Stored) (q : Place) (v : World) → Apart b.world v → q.session ≡ None → q.subject ≡ subject → Fine k → Apart b.world (done_to v (keep_in k kept q v))
  keep_by Nowhere kept q v before lone same fine = before
  keep_by (Slot slot sequence) kept q v before lone same fine = subst (λ o. Apart b.world (apply_all (kept_under q slot (record { sequence = sequence; kept = Some kept }) o v.sessions) v)) (sym lone) before
  keep_by (Record client) kept q v before lone same fine =
      let i : Id = record { level = subject; number = client } in
      let after : Apart v (apply_all (kept_of kept (client_at v.clients i)) v) = keep_apart owner level i kept v (strange_still owner level b.world v i before fine) in
      subst (λ s. Apart b.world (apply_all (kept_of kept (client_at v.clients (record { level = s; number = client }))) v)) (sym same) (apart_through owner level b.world v _ before after)

  kept_apart : (r : Ran (Both X.Row)) → Lone r.place r.state → Fine r.keeper → Apart b.world (kept_after sent c r).state.world
  kept_apart r left fine = keep_by r.keeper (record { arguments = sent.arguments; reply = result_of c r.results r.again }) r.place r.state.world left.0 left.1 left.2 fine

  -- by the first operation
  by_first : (op : Op) (rest : List Op) → c.minor ≡ 2 → c.ops ≡ op ∷ rest → Lone (operation X site sent c [] op p b).place (operation X site sent c [] op p b).state → Fine (keeper_of (operation X site sent c [] op p b).answer) → Stays
  unfolding served run_behind
  by_first op rest minor is first fine =
      let t = operation X site sent c [] op p b in
      let r = run_behind (operation X site sent c) [] (op ∷ rest) p b in
      let after = (operation_lawful X owed site lattice sent c [] op).stands p b stands in
      let left : Lone r.place r.state = followed_any site.dom (both_seen X.level_of site.dom) (BothStand X.Fact site.dom) Lone [] op t.place t.state t.answer (λ results. run_behind (operation X site sent c) results rest t.place t.state) first
      (λ last.
      let stay = behind_stays X owed site lattice sent c rest last [] t.place t.state after in
      let same = behind_subject X owed site lattice sent c rest last [] t.place t.state after in
      (apart_through owner level b.world t.state.world _ first.0 (behind_apart rest last t.place t.state after), stay.1 ∙ first.1, same ∙ first.2)) in
      let keeper : r.keeper ≡ keeper_of t.answer = followed_keeper [] op t.place t.state t.answer (λ results. run_behind (operation X site sent c) results rest t.place t.state) (λ last. behind_keeper X site sent c rest last [] t.place t.state) in
      subst (λ (r : Ran (Both X.Row)). Apart b.world (kept_after sent c r).state.world) (sym (of_version X site sent c p b (op ∷ rest) minor is)) (kept_apart r left (subst Fine (sym keeper) fine))

  -- one that is admitted there
  if_admitted : (op : Op) → Lone (row_in X site sent op p b).place (row_in X site sent op p b).state → Lone (operation X site sent c [] op p b).place (operation X site sent c [] op p b).state
  if_admitted op left = admitted_any Lone op (admission X.grammar c [] op p b.world) p b (row_in X site sent op p b) (apart_itself owner level b.world, refl, refl) left

  if_kept : (op : Op) → Fine (keeper_of (row_in X site sent op p b).answer) → Fine (keeper_of (operation X site sent c [] op p b).answer)
  if_kept op fine = at (admission X.grammar c [] op p b.world)
    where
      at : (o : Option Refusal) → Fine (keeper_of (admitted op p b o (row_in X site sent op p b)).answer)
      at None = fine
      at (Some why) = tt

  -- the place stays in no session
  abbrev PlaceStays : {A : Type 0} → Outcome A → Type 0
  PlaceStays o = (o.place.session ≡ None) × (o.place.subject ≡ subject)

  exchange_place : (args : Arguments) → PlaceStays (exchange_id args p b.world)
  exchange_place args = exchange_id_any (λ o. PlaceStays o) args p b.world (λ gate status. (refl, refl)) (λ t. (refl, refl)) (refl, refl)

  create_place : (args : CreateSession) → PlaceStays (create_session args sent.arguments p b.world)
  create_place args =
      demand_any (λ o. PlaceStays o) ((client_named args.client).level == subject) _ _ (refl, refl) (λ own.
      where_any (λ o. PlaceStays o) (client_at b.world.clients (client_named args.client)) _ _ (λ d found.
      created_any (λ o. PlaceStays o) args sent.arguments p b.world d (λ gate status. (refl, refl)) (λ k kept. (refl, refl)) (λ large. (refl, refl))) (refl, refl))

  destroy_place : (session : List ℕ) → PlaceStays (destroy_session session p b.world)
  destroy_place session =
      demand_any (λ o. PlaceStays o) ((session_named session).level == subject) _ _ (refl, refl) (λ own.
      where_any (λ o. PlaceStays o) (session_under session b.world.sessions) _ _ (λ y found. (refl, refl)) (refl, refl))

  leave_place : (client : ℕ) → PlaceStays (destroy_clientid client p b.world)
  leave_place client =
      demand_any (λ o. PlaceStays o) ((client_named client).level == subject) _ _ (refl, refl) (λ own.
      where_any (λ o. PlaceStays o) (client_at b.world.clients (client_named client)) _ _ (λ d found.
      demand_any (λ o. PlaceStays o) (not (is_busy d.id b.world)) _ _ (refl, refl) (λ idle. (refl, refl))) (refl, refl))

  -- what a CREATE_SESSION's answer is kept in
  create_fine : (args : CreateSession) → ((client_named args.client).level ≡ subject → IsStrange owner level b.world (client_named args.client)) → Fine (keeper_of (row_in X site sent (ops.CreateSession args) p b).answer)
  create_fine args strange = under_fine (reply_of (ops.CreateSession args) (created_reply subject args) (create_session args sent.arguments p b.world).answer)
    where
      keeper_fine : (t : Bool) → is_next_created args p b.world ≡ t → Fine (cond t (Record (client_named args.client).number) Nowhere)
      keeper_fine true e =
          let parts = and_parts ((client_named args.client).level == subject) (is_next_of args.sequence (client_at b.world.clients (client_named args.client))) e in
          let own_level : (client_named args.client).level ≡ subject = let first = parts.0 in grind (arith, nat_tests, first) in
          let same : client_named args.client ≡ record { level = subject; number = (client_named args.client).number } = (λ k. record { level = own_level k; number = (client_named args.client).number }) in
          subst (IsStrange owner level b.world) same (strange own_level)
      keeper_fine false e = tt

      under_fine : (x : Reply) → Fine (keeper_of (under (created_keeper args p b.world) x))
      under_fine (Own other keeper) = keeper_fine (is_next_created args p b.world) refl
      under_fine (Kept reply) = tt

  -- a SEQUENCE of another's session
  on_slot : (args : Sequence) (rest : List Op) → c.minor ≡ 2 → c.ops ≡ ops.Sequence args ∷ rest → Spares owner level subject b.world (ops.Sequence args) → Stays
  on_slot args rest minor is spared = at (came_on_slot subject b.world args sent) refl
    where
      as_new : IsNewOn subject b.world args sent → Stays
      as_new on =
          let left = due.records_now X owed site lattice sent c subject moment b args rest on.session on.slot stands minor is on.names on.few on.next in
          let x : SessionRow = on.session in
          let y : SessionRow = due.used X owed site lattice sent c subject moment b args rest on.session on.slot stands minor is on.names on.few on.next in
          let u : World = (served X site sent c p b).state.world in
          let now = due.session_now X owed site lattice sent c subject moment b args rest on.session on.slot stands minor is on.names on.few on.next in
          let id : x.id ≡ session_named args.session = due.id X owed site lattice sent c subject moment b args rest on.session on.slot stands minor is on.names on.few on.next in
          let records = records_core owner level b.world u left.clients in
          let there : session_at b.world.sessions (session_named args.session) ≡ Some x = session_under-at args.session b.world.sessions x on.names.session in
          let strange : x.id.level ≡ level → own_session owner level b.world (Some x) ≡ None = (λ own_level. ap (own_session owner level b.world) (sym there) ∙ spared on.names.own (sym (ap (λ (i : Id). i.level) id) ∙ own_level)) in
          let same = same_owners owner level b.world u records in
          let at_session : (n : ℕ) (t : Bool) → same_id (at_level level n) x.id ≡ t → own_session owner level u (cond t (Some y) (session_at b.world.sessions (at_level level n))) ≡ own_session owner level b.world (session_at b.world.sessions (at_level level n)) = sessions_at u x y records there id strange refl in
          record {
            records = records;
            sessions = λ n. ap (own_session owner level u) (now (at_level level n)) ∙ at_session n (same_id (at_level level n) x.id) refl;
            contexts = left.steady.contexts;
            absent = λ n below gone. none_there (client_at u.clients (at_level level n)) (client_at b.world.clients (at_level level n)) (left.clients (at_level level n)) gone;
            absent_session = λ n below gone. now (at_level level n) ∙ still_none x y there id n gone (same_id (at_level level n) x.id) refl;
            clients_rise = let e : last_of level u.lasts.clients ≡ last_of level b.world.lasts.clients = ap (last_of level) left.steady.last_clients in omega arith;
            sessions_rise = let e : last_of level u.lasts.sessions ≡ last_of level b.world.lasts.sessions = ap (last_of level) left.steady.last_sessions in omega arith;
            numbers = λ bound. let e : last_of level u.lasts.clients ≡ last_of level b.world.lasts.clients = ap (last_of level) left.steady.last_clients in omega arith;
          }
        where
          other_none : (x y : SessionRow) (t : Bool) → cond t (Some x) None ≡ None → cond t (Some y) None ≡ None
          other_none x y true e = absurd cc
          other_none x y false e = refl

          sessions_at : (u : World) (x y : SessionRow) → ((n : ℕ) → own owner level (client_at u.clients (at_level level n)) ≡ own owner level (client_at b.world.clients (at_level level n))) → session_at b.world.sessions (session_named args.session) ≡ Some x → x.id ≡ session_named args.session → (x.id.level ≡ level → own_session owner level b.world (Some x) ≡ None) → y.client ≡ x.client →
              (n : ℕ) (t : Bool) → same_id (at_level level n) x.id ≡ t → own_session owner level u (cond t (Some y) (session_at b.world.sessions (at_level level n))) ≡ own_session owner level b.world (session_at b.world.sessions (at_level level n))
          sessions_at u x y records there id strange client n true e =
              let same : at_level level n ≡ x.id = id_same (at_level level n) x.id e in
              let own_level : x.id.level ≡ level = ap (λ (i : Id). i.level) (sym same) in
              let none : own_session owner level b.world (Some x) ≡ None = strange own_level in
              same_owners owner level b.world u records (Some y)
              ∙ ap (λ k. cond (is_owner owner (client_at b.world.clients (at_level level k))) (Some y) None) client
              ∙ other_none x y (is_session owner level b.world x) none
              ∙ sym (ap (λ i. own_session owner level b.world (session_at b.world.sessions i)) (same ∙ id) ∙ ap (own_session owner level b.world) there ∙ none)
          sessions_at u x y records there id strange client n false e = same_owners owner level b.world u records (session_at b.world.sessions (at_level level n))

          still_none : (x y : SessionRow) → session_at b.world.sessions (session_named args.session) ≡ Some x → x.id ≡ session_named args.session → (n : ℕ) → session_at b.world.sessions (at_level level n) ≡ None → (t : Bool) → same_id (at_level level n) x.id ≡ t → cond t (Some y) (session_at b.world.sessions (at_level level n)) ≡ None
          still_none x y there id n gone true e =
              let both : Some x ≡ None = sym there ∙ ap (session_at b.world.sessions) (sym (id_same (at_level level n) x.id e ∙ id)) ∙ gone in
              absurd cc
          still_none x y there id n gone false e = gone

      at : (k : Came) → came_on_slot subject b.world args sent ≡ k → Stays
      at came.New e = as_new (new_on subject b.world args sent e)
      at (came.Again reply) e = subst (λ (t : Turn Answer (Both X.Row)). Apart b.world t.state.world) (sym (slot_again X site sent c subject moment b args rest minor is reply e)) (apart_itself owner level b.world)
      at came.Refused e =
          let (gate, status, is_so) = slot_refused X site sent c subject moment b args rest minor is e in
          subst (λ (t : Turn Answer (Both X.Row)). Apart b.world t.state.world) (sym is_so) (apart_itself owner level b.world)

  nothing : Lone p b
  nothing = (apart_itself owner level b.world, refl, refl)

  by_op : (op : Op) (rest : List Op) → c.minor ≡ 2 → c.ops ≡ op ∷ rest → Spares owner level subject b.world op → Stays
  by_op (ops.ExchangeId verifier name flags implementation) rest minor is spared =
      let place = exchange_place (record { verifier = verifier; owner = name; flags = flags }) in
      by_first (ops.ExchangeId verifier name flags implementation) rest minor is
      (if_admitted (ops.ExchangeId verifier name flags implementation) (exchange_apart owner level (record { verifier = verifier; owner = name; flags = flags }) p b.world stands.world.facts spared, place.0, place.1))
      (if_kept (ops.ExchangeId verifier name flags implementation) (subst Fine (sym (replied_keeper (ops.ExchangeId verifier name flags implementation) (told_reply subject) (λ x. refl) (exchange_id (record { verifier = verifier; owner = name; flags = flags }) p b.world).answer)) tt))
  by_op (ops.CreateSession args) rest minor is spared =
      let place = create_place args in
      by_first (ops.CreateSession args) rest minor is
      (if_admitted (ops.CreateSession args) (create_apart owner level site.dom args sent.arguments subject moment b.world stands.world.facts spared, place.0, place.1))
      (if_kept (ops.CreateSession args) (create_fine args spared))
  by_op (ops.DestroySession session) rest minor is spared =
      let place = destroy_place session in
      by_first (ops.DestroySession session) rest minor is
      (if_admitted (ops.DestroySession session) (destroy_apart owner level session p b.world spared, place.0, place.1))
      (if_kept (ops.DestroySession session) (subst Fine (sym (replied_keeper (ops.DestroySession session) (λ x. success results.DestroySession Nowhere) (λ x. refl) (destroy_session session p b.world).answer)) tt))
  by_op (ops.Sequence args) rest minor is spared = on_slot args rest minor is spared
  by_op (ops.DestroyClientId client) rest minor is spared =
      let place = leave_place client in
      by_first (ops.DestroyClientId client) rest minor is
      (if_admitted (ops.DestroyClientId client) (leave_apart owner level client p b.world stands.world.facts spared, place.0, place.1))
      (if_kept (ops.DestroyClientId client) (subst Fine (sym (replied_keeper (ops.DestroyClientId client) (λ x. success results.DestroyClientId Nowhere) (λ x. refl) (destroy_clientid client p b.world).answer)) tt))
  by_op (ops.Outside number status) rest minor is spared = by_first (ops.Outside number status) rest minor is (if_admitted (ops.Outside number status) nothing) (if_kept (ops.Outside number status) tt)
  by_op (ops.ReclaimComplete one_fs) rest minor is spared = by_first (ops.ReclaimComplete one_fs) rest minor is nothing tt
  by_op (ops.PutFh handle) rest minor is spared = by_first (ops.PutFh handle) rest minor is nothing tt
  by_op ops.PutRootFh rest minor is spared = by_first ops.PutRootFh rest minor is nothing tt
  by_op ops.GetFh rest minor is spared = by_first ops.GetFh rest minor is nothing tt
  by_op ops.SaveFh rest minor is spared = by_first ops.SaveFh rest minor is nothing tt
  by_op ops.RestoreFh rest minor is spared = by_first ops.RestoreFh rest minor is nothing tt
  by_op (ops.Lookup name) rest minor is spared = by_first (ops.Lookup name) rest minor is nothing tt
  by_op ops.LookupP rest minor is spared = by_first ops.LookupP rest minor is nothing tt
  by_op (ops.GetAttr asked) rest minor is spared = by_first (ops.GetAttr asked) rest minor is nothing tt
  by_op (ops.Verify given) rest minor is spared = by_first (ops.Verify given) rest minor is nothing tt
  by_op (ops.NVerify given) rest minor is spared = by_first (ops.NVerify given) rest minor is nothing tt
  by_op (ops.Access bits) rest minor is spared = by_first (ops.Access bits) rest minor is nothing tt
  by_op (ops.ReadDir cookie verifier dircount maxcount asked) rest minor is spared = by_first (ops.ReadDir cookie verifier dircount maxcount asked) rest minor is nothing tt
  by_op ops.ReadLink rest minor is spared = by_first ops.ReadLink rest minor is nothing tt
  by_op (ops.Create what name given) rest minor is spared = by_first (ops.Create what name given) rest minor is nothing tt
  by_op (ops.Link name) rest minor is spared = by_first (ops.Link name) rest minor is nothing tt
  by_op (ops.Remove name) rest minor is spared = by_first (ops.Remove name) rest minor is nothing tt
  by_op (ops.Rename old new) rest minor is spared = by_first (ops.Rename old new) rest minor is nothing tt
  by_op (ops.SetAttr id given) rest minor is spared = by_first (ops.SetAttr id given) rest minor is nothing tt
  by_op (ops.Open seqid access deny client name making claim) rest minor is spared = by_first (ops.Open seqid access deny client name making claim) rest minor is nothing tt
  by_op (ops.Close seqid id) rest minor is spared = by_first (ops.Close seqid id) rest minor is nothing tt
  by_op (ops.Read id offset count) rest minor is spared = by_first (ops.Read id offset count) rest minor is nothing tt
  by_op (ops.Write id offset stable content) rest minor is spared = by_first (ops.Write id offset stable content) rest minor is nothing tt
  by_op (ops.Commit offset count) rest minor is spared = by_first (ops.Commit offset count) rest minor is nothing tt
  by_op (ops.Extra number arguments) rest minor is spared = by_first (ops.Extra number arguments) rest minor is nothing tt

  by_ops : (os : List Op) → c.minor ≡ 2 → c.ops ≡ os → ((op : Op) (rest : List Op) → c.ops ≡ op ∷ rest → Spares owner level subject b.world op) → Stays
  unfolding served run_behind
  by_ops [] minor is spared = subst (λ (r : Ran (Both X.Row)). Apart b.world (kept_after sent c r).state.world) (sym (of_version X site sent c p b [] minor is)) (apart_itself owner level b.world)
  by_ops (op ∷ rest) minor is spared = by_op op rest minor is (spared op rest is)

  pub served_apart : ((op : Op) (rest : List Op) → c.ops ≡ op ∷ rest → Spares owner level subject b.world op) → Stays
  unfolding served run_all
  served_apart spared = at (c.minor == 2) refl
    where
      at : (t : Bool) → (c.minor == 2) ≡ t → Stays
      at true is = by_ops c.ops (grind (arith, nat_tests, is)) refl spared
      at false is = subst (λ (r : Ran (Both X.Row)). Apart b.world (kept_after sent c r).state.world) (sym (chosen_false (c.minor == 2) _ _ is)) (apart_itself owner level b.world)
