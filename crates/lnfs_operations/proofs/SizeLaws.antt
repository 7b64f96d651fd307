-- A COMPOUND that is served keeps the bounds of all rows, and its result is short.
use Rattle.std.proofs.Common.{◌≡◌, ◌≤◌, ◌+◌, ℕ, suc, Bool, true, false, cond, List, [], ◌∷◌, length, Option, Some, None, refl, sym, subst, arith, not, ap, ◌∙◌}
use Rattle.lnfs_world.specs.World.{last_of, Slot as SlotRow, World, client_at, Session}
use Rattle.lnfs_world.specs.World as world
use Rattle.lnfs_arguments.specs.declared.types.Op.TheVariants as ops
use Rattle.lnfs_results.specs.declared.types.OpResult.TheVariants as results
use Rattle.lnfs_operations.specs.declared.Gate.TheVariants as gates
use Rattle.lnfs_operations.specs.Served.{row_in, Slot, Record, Nowhere, Own, Kept, under, Reply, admitted, operation, Keeper, success, failure, reply_of, created_reply, told_reply, create_session_in}
use Rattle.lnfs_operations.specs.Sequence.{sequence, Again, Sent, Sequenced, begun_in, on_slot}
use Rattle.lnfs_operations.specs.SlotRule.{Ran, followed, served, run_behind, own_reply, new_result, result_of, run_all}
use Rattle.std.specs.Prelude.{◌==◌, nat_le, IfSome, if◌then◌else◌, slice_get}
use Rattle.lnfs_types.specs.declared.event.Moment.{Moment}
use Rattle.lnfs_operations.specs.Chain.{done, refuse, Answer, Refusal}
use Rattle.lnfs_operations.specs.Identifiers.{client_named, session_named, session_under}
use Rattle.lnfs_operations.specs.DestroyClientId.{destroy_clientid, is_busy}
use Rattle.std.proofs.lemmas.Bool.Decides.{nat_tests}
use Rattle.lnfs_operations.specs.ExchangeId.{Arguments, exchange_id}
use Rattle.lnfs_world.specs.Outcome.{begins_at, Place, Site, Outcome}
use Rattle.lnfs_operations.specs.Keeping.{next_sequence}
use Rattle.lnfs_operations.specs.declared.Gate.{Gate}
use Rattle.lnfs_monitor.specs.declared.rule.Rule.TheVariants.{M9}
use Rattle.lnfs_arguments.specs.declared.types.Op.{Op}
use Rattle.lnfs_arguments.specs.declared.types.Compound.{Compound}
use Rattle.lnfs_results.specs.declared.types.OpResult.{OpResult}
use Rattle.lnfs_results.specs.Texts.{result_text}
use Rattle.lnfs_world.specs.Lawful.{Turn, Deed}
use Rattle.lnfs_world.specs.Both.{Both, both_seen, BothStand}
use Rattle.lnfs_arguments.specs.declared.statuses.TheConstants.{NFS4ERR_NOT_ONLY_OP, NFS4ERR_MINOR_VERS_MISMATCH, NFS4ERR_OP_NOT_IN_SESSION, NFS4ERR_BADSESSION, NFS4ERR_STALE_CLIENTID, NFS4ERR_CLIENTID_BUSY, NFS4ERR_BADSLOT, NFS4ERR_REQ_TOO_BIG, NFS4ERR_TOO_MANY_OPS}
use Rattle.lnfs_operations.specs.Results.{failed}
use Rattle.lnfs_operations.specs.Sizes.{IsRead, Sizes, FitsResponse, LabelsFit, is_level, IsOpRead}
use Rattle.lnfs_operations.specs.Bounds.{Bounds}
use Rattle.std.specs.List.{AllByRecursion}
use Rattle.lnfs_arguments.specs.declared.types.Sequence.{Sequence}
use Rattle.lnfs_arguments.specs.declared.types.CreateSession.{CreateSession}
use Rattle.lnfs_operations.specs.CreateSession.{create_session, Created, is_next_created}
use Rattle.lnfs_operations.specs.DestroySession.{destroy_session}
use Rattle.lnfs_calipso.specs.Label.{IsPreorderWithBottom}
use Rattle.lnfs_operations.specs.Extra.{AreLawful, Extra}
use Rattle.lnfs_operations.specs.Retries.{Names}
use Rattle.lnfs_operations.proofs.SessionLaws.{session_under-at}
use Rattle.lnfs_operations.proofs.Retries.{begun, on_named, by_sequence}
use Rattle.lnfs_operations.specs.declared.numbers.TheConstants.{MOST_CREATED, MOST_SIZE}
use Rattle.lnfs_operations.specs.Admission.{unless, or_else}
use Rattle.lnfs_operations.proofs.Lengths.{failed_short, told_short, created_short, destroyed_short, ended_short, one_short, none_short}
use Rattle.lnfs_operations.proofs.Chains.{demand_any, where_any, in_order_any}
use Rattle.lnfs_operations.proofs.ExchangeIdLaws.{exchange_id_any}
use Rattle.lnfs_operations.proofs.CreateSessionLaws.{created_any}
use Rattle.lnfs_operations.proofs.Rooms.{slot_ends, refused_fits}
use Rattle.lnfs_operations.proofs.BoundLaws.{run_keeps, kept_within}
use Rattle.lnfs_operations.proofs.ServedLaws.{operation_lawful}
use Rattle.lnfs_operations.proofs.SlotRules.{all_stand}
use Rattle.lnfs_operations.proofs.SizeChanges.{client_fits, session_fits, slot_fits, FitsSlot, FitsIn, keep_sizes}

-- ---- SEQUENCE

-- what holds of each end holds of the outcome: a refusal, the result that is kept, or a new request
pub sequence_any : (P : Outcome (Answer Sequenced) → Type 0) (level : ℕ) (moment : Moment) (w : World) (args : Sequence) (sent : Sent) →
    ((gate : Gate) (status : ℕ) → P (refuse (begins_at level moment) gate status)) →
    ((x : Session) (slot : SlotRow) (k : world.Kept) → Names level w args sent x slot → slot.kept ≡ Some k → P (done (begins_at level moment) (Again k.reply) [])) →
    ((x : Session) (slot : SlotRow) → Names level w args sent x slot → sent.count ≤ x.channel.max_operations → args.sequence ≡ next_sequence slot.sequence → P (begun_in (begins_at level moment) w x)) →
    P (sequence args sent (begins_at level moment) w)
sequence_any P level moment w args sent refused told is =
    let p = begins_at level moment in
    demand_any P ((session_named args.session).level == level) _ _ (refused (gates.Monitor M9) NFS4ERR_BADSESSION) (λ own.
    where_any P (session_under args.session w.sessions) _ _ (λ x found.
    demand_any P (nat_le sent.size x.channel.max_request) _ _ (refused gates.Session NFS4ERR_REQ_TOO_BIG) (λ short.
    demand_any P (nat_le sent.count x.channel.max_operations) _ _ (refused gates.Session NFS4ERR_TOO_MANY_OPS) (λ few.
    where_any P (slice_get x.slots args.slot) _ _ (λ slot there.
    let names : Names level w args sent x slot = record { own = grind (arith, nat_tests, own); session = found; size = grind (arith, nat_tests, short); slot = there } in
    in_order_any P p slot.sequence (next_sequence slot.sequence) slot.kept args.sequence sent.arguments (λ reply. done p (Again reply) []) (begun_in p w x) (λ status. refused gates.Session status) (λ k kept. told x slot k names kept) (λ next. is x slot names (grind (arith, nat_tests, few)) (grind (arith, nat_tests, next))))
    (refused gates.Session NFS4ERR_BADSLOT)))) (refused gates.Session NFS4ERR_BADSESSION))

-- ---- operations that stand alone

module _ (c : Compound) (read : IsRead c) (sent : Sent) where
  -- a short result, which no slot keeps
  abbrev Lone : Reply → Type 0
  Lone (Own own Nowhere) = length (result_text own.result) ≤ 96
  Lone (Own own (Slot slot sequence)) = ⊥
  Lone (Own own (Record client)) = length (result_text own.result) ≤ 96
  Lone (Kept reply) = length reply ≤ MOST_CREATED

  -- one that a client's record may keep
  created_fits : (result : List ℕ) → length result ≤ MOST_CREATED → FitsResponse MOST_SIZE result
  created_fits result short = omega (arith, short)

  -- what holds at the end of a run: its result is short, and fits where it is kept
  record Fits {Row : Type 0} (r : Ran (Both Row)) : Type 0 where
    short : FitsResponse MOST_SIZE (result_of c r.results r.again)
    kept : FitsIn sent.count r.keeper (result_of c r.results r.again) r.place r.state

  lone_under : (b : Bool) (number : ℕ) (x : Reply) → Lone x → Lone (under (cond b (Record number) Nowhere) x)
  lone_under true number (Own own Nowhere) lone = lone
  lone_under true number (Own own (Record client)) lone = lone
  lone_under true number (Own own (Slot slot sequence)) lone = absurd lone
  lone_under false number (Own own Nowhere) lone = lone
  lone_under false number (Own own (Record client)) lone = lone
  lone_under false number (Own own (Slot slot sequence)) lone = absurd lone
  lone_under b number (Kept reply) lone = lone

  one_fits : (result : OpResult) → length (result_text result) ≤ 96 → length (new_result c (result ∷ [])) ≤ MOST_CREATED
  one_fits result one = one_short _ c.tag result read.tag one

  module _ {Row : Type 0} (deeds : (so_far : List OpResult) → Op → Deed Reply (Both Row)) where
    own_fits : (op : Op) (p : Place) (b : Both Row) (result : OpResult) (o : Option Refusal) (keeper : Keeper) → Lone (Own (record { result = result; refusal = o }) keeper) → Fits (own_reply [] op p b result o keeper (λ results. run_behind deeds results [] p b))
    unfolding run_behind
    own_fits op p b result None Nowhere one = record { short = created_fits (new_result c (result ∷ [])) (one_fits result one); kept = tt }
    own_fits op p b result None (Record client) one = record { short = created_fits (new_result c (result ∷ [])) (one_fits result one); kept = one_fits result one }
    own_fits op p b result None (Slot slot sequence) one = absurd one
    own_fits op p b result (Some why) Nowhere one = record { short = created_fits (new_result c (result ∷ [])) (one_fits result one); kept = tt }
    own_fits op p b result (Some why) (Record client) one = record { short = created_fits (new_result c (result ∷ [])) (one_fits result one); kept = one_fits result one }
    own_fits op p b result (Some why) (Slot slot sequence) one = absurd one

    lone_fits : (op : Op) (p : Place) (b : Both Row) (x : Reply) → Lone x → Fits (followed [] op p b x (λ results. run_behind deeds results [] p b))
    lone_fits op p b (Own own keeper) lone = own_fits op p b own.result own.refusal keeper lone
    lone_fits op p b (Kept reply) lone = record { short = omega (arith, lone); kept = tt }

    failure_fits : (op : Op) (p : Place) (b : Both Row) (why : Refusal) → Fits (followed [] op p b (failure op why) (λ results. run_behind deeds results [] p b))
    failure_fits op p b why =
        let one = one_fits (failed op why.status) (omega (arith, failed_short op why.status)) in
        record { short = omega (arith, one); kept = tt }

    -- one that has to be the only operation
    alone_fits : (op : Op) (rest : List Op) (p : Place) (b : Both Row) (t : Turn Reply (Both Row)) → suc (length rest) ≤ c.count → Lone t.answer → (alone : Bool) → (c.count == 1) ≡ alone →
        let u = admitted op p b (or_else (unless alone gates.Session NFS4ERR_NOT_ONLY_OP) None) t in
        Fits (followed [] op u.place u.state u.answer (λ results. run_behind deeds results rest u.place u.state))
    alone_fits op [] p b t few lone true is = lone_fits op t.place t.state t.answer lone
    alone_fits op (next ∷ rest) p b t few lone true is = absurd (grind (arith, nat_tests, is, few))
    alone_fits op rest p b t few lone false is = failure_fits op p b (record { gate = gates.Session; status = NFS4ERR_NOT_ONLY_OP })

  -- ---- what they answer

  refused_lone : (op : Op) (why : Refusal) → Lone (failure op why)
  refused_lone op why = omega (arith, failed_short op why.status)

  exchange_id_lone : (op : Op) (args : Arguments) (p : Place) (w : World) → Lone (reply_of op (told_reply p.subject) (exchange_id args p w).answer)
  exchange_id_lone op args p w = exchange_id_any (λ o. Lone (reply_of op (told_reply p.subject) o.answer)) args p w
      (λ gate status. refused_lone op (record { gate = gate; status = status })) (λ t. told_short p.subject t) (told_short p.subject (record { number = last_of p.subject w.lasts.clients + 1; sequence = 1; confirmed = false }))

  create_session_lone : (args : CreateSession) (p : Place) (w : World) → Sizes w → Lone (create_session_in sent args p w).answer
  create_session_lone args p w sizes =
      let op = ops.CreateSession args in
      let P = λ (o : Outcome (Answer Created)). Lone (reply_of op (created_reply p.subject args) o.answer) in
      lone_under (is_next_created args p w) (client_named args.client).number (reply_of op (created_reply p.subject args) (create_session args sent.arguments p w).answer)
      (demand_any P ((client_named args.client).level == p.subject) _ _ (refused_lone op (record { gate = gates.Monitor M9; status = NFS4ERR_STALE_CLIENTID })) (λ own.
      where_any P (client_at w.clients (client_named args.client)) _ _ (λ client found.
      created_any P args sent.arguments p w client (λ gate status. refused_lone op (record { gate = gate; status = status }))
      (λ k kept. subst (λ (o : Option world.Kept). IfSome o (λ kept. length kept.reply ≤ MOST_CREATED)) kept (client_fits w sizes (client_named args.client) client found).kept)
      (λ large. created_short p.subject _ args.sequence 0 _ _ refl refl)) (refused_lone op (record { gate = gates.Session; status = NFS4ERR_STALE_CLIENTID }))))

  destroy_session_lone : (session : List ℕ) (p : Place) (w : World) → Lone (reply_of (ops.DestroySession session) (λ _. success results.DestroySession Nowhere) (destroy_session session p w).answer)
  destroy_session_lone session p w =
      let op = ops.DestroySession session in
      let P = λ (o : Outcome (Answer (Unit {0}))). Lone (reply_of op (λ _. success results.DestroySession Nowhere) o.answer) in
      demand_any P ((session_named session).level == p.subject) _ _ (refused_lone op (record { gate = gates.Monitor M9; status = NFS4ERR_BADSESSION })) (λ own.
      where_any P (session_under session w.sessions) _ _ (λ x found. destroyed_short) (refused_lone op (record { gate = gates.Session; status = NFS4ERR_BADSESSION })))

  destroy_clientid_lone : (client : ℕ) (p : Place) (w : World) → Lone (reply_of (ops.DestroyClientId client) (λ _. success results.DestroyClientId Nowhere) (destroy_clientid client p w).answer)
  destroy_clientid_lone client p w =
      let op = ops.DestroyClientId client in
      let P = λ (o : Outcome (Answer (Unit {0}))). Lone (reply_of op (λ _. success results.DestroyClientId Nowhere) o.answer) in
      demand_any P ((client_named client).level == p.subject) _ _ (refused_lone op (record { gate = gates.Monitor M9; status = NFS4ERR_STALE_CLIENTID })) (λ own.
      where_any P (client_at w.clients (client_named client)) _ _ (λ d found.
      demand_any P (not (is_busy d.id w)) _ _ (refused_lone op (record { gate = gates.Session; status = NFS4ERR_CLIENTID_BUSY })) (λ idle. ended_short)) (refused_lone op (record { gate = gates.Session; status = NFS4ERR_STALE_CLIENTID })))

  -- ---- a COMPOUND

  module _ (X : Extra) (owed : AreLawful X) (site : Site) (lattice : IsPreorderWithBottom site.dom) (labels : LabelsFit site) (level : ℕ) (moment : Moment) (b : Both X.Row) (stands : BothStand X.Fact site.dom (begins_at level moment) b) (known : is_level site level ≡ true) (bounds : Bounds site b.world) where
    abbrev deeds : (so_far : List OpResult) → Op → Deed Reply (Both X.Row)
    deeds = operation X site sent c

    sequence_fits : (args : Sequence) (rest : List Op) → AllByRecursion IsOpRead rest → Fits (begun X site sent c args rest b (sequence args sent (begins_at level moment) b.world))
    unfolding begun
    sequence_fits args rest arguments = sequence_any (λ o. Fits (begun X site sent c args rest b o)) level moment b.world args sent
        (λ gate status. failure_fits deeds (ops.Sequence args) (begins_at level moment) b (record { gate = gate; status = status }))
        (λ x slot k names kept.
        let fitting = session_fits b.world bounds.sizes (session_named args.session) x (session_under-at args.session b.world.sessions x names.session) in
        let fits = subst (λ (o : Option world.Kept). IfSome o (λ kept. FitsResponse x.channel.max_response kept.reply)) kept (slot_fits x.channel.max_response args.slot x.slots slot fitting.kept names.slot) in
        record { short = omega (arith, fits, fitting.granted.response.1); kept = tt })
        (λ x slot names few next.
        let fitting = session_fits b.world bounds.sizes (session_named args.session) x (session_under-at args.session b.world.sessions x names.session) in
        let ends = slot_ends X owed site lattice labels sent c level moment b args rest x slot stands known bounds arguments names few next read.tag fitting.granted.response.0 in
        let r = begun X site sent c args rest b (begun_in (begins_at level moment) b.world x) in
        record { short = omega (arith, ends.0, fitting.granted.response.1); kept = subst (λ (o : Option Session). IfSome o (FitsSlot sent.count (result_of c r.results r.again))) (sym ends.1) (record { short = ends.0; few = few }) })

    -- on a slot that is named a result leaves room in a response of its session, be the COMPOUND new, a retry or
    -- out of order
    named_fits : (args : Sequence) (rest : List Op) → AllByRecursion IsOpRead rest → (x : Session) (slot : SlotRow) → Names level b.world args sent x slot → sent.count ≤ x.channel.max_operations →
        let r = begun X site sent c args rest b (on_slot args sent (begins_at level moment) b.world x slot) in
        FitsResponse x.channel.max_response (result_of c r.results r.again)
    unfolding begun
    named_fits args rest arguments x slot names few =
        let p = begins_at level moment in
        let fitting = session_fits b.world bounds.sizes (session_named args.session) x (session_under-at args.session b.world.sessions x names.session) in
        in_order_any (λ o. let r = begun X site sent c args rest b o in FitsResponse x.channel.max_response (result_of c r.results r.again)) p slot.sequence (next_sequence slot.sequence) slot.kept args.sequence sent.arguments (λ reply. done p (Again reply) []) (begun_in p b.world x)
        (λ status. omega (arith, fitting.granted.response.0, one_fits (failed (ops.Sequence args) status) (omega (arith, failed_short (ops.Sequence args) status))))
        (λ k kept. subst (λ (o : Option world.Kept). IfSome o (λ kept. FitsResponse x.channel.max_response kept.reply)) kept (slot_fits x.channel.max_response args.slot x.slots slot fitting.kept names.slot))
        (λ next. (slot_ends X owed site lattice labels sent c level moment b args rest x slot stands known bounds arguments names few (grind (arith, nat_tests, next)) read.tag fitting.granted.response.0).0)

    -- one that has to stand behind a SEQUENCE
    behind_sequence : (op : Op) (rest : List Op) → Fits (followed [] op (begins_at level moment) b (failure op (record { gate = gates.Session; status = NFS4ERR_OP_NOT_IN_SESSION })) (λ results. run_behind deeds results rest (begins_at level moment) b))
    behind_sequence op rest = failure_fits deeds op (begins_at level moment) b (record { gate = gates.Session; status = NFS4ERR_OP_NOT_IN_SESSION })

    from_fits : (os : List Op) → AllByRecursion IsOpRead os → length os ≤ c.count → Fits (run_behind deeds [] os (begins_at level moment) b)
    unfolding run_behind begun
    from_fits [] each few = record { short = omega (arith, none_short (if c.minor == 2 then 0 else NFS4ERR_MINOR_VERS_MISMATCH) c.tag read.tag); kept = tt }
    from_fits (ops.Sequence args ∷ rest) each few = sequence_fits args rest each.1
    from_fits (ops.ExchangeId verifier owner flags implementation ∷ rest) each few =
        let op = ops.ExchangeId verifier owner flags implementation in
        alone_fits deeds op rest (begins_at level moment) b (row_in X site sent op (begins_at level moment) b) few (exchange_id_lone op (record { verifier = verifier; owner = owner; flags = flags }) (begins_at level moment) b.world) (c.count == 1) refl
    from_fits (ops.CreateSession args ∷ rest) each few =
        alone_fits deeds (ops.CreateSession args) rest (begins_at level moment) b (row_in X site sent (ops.CreateSession args) (begins_at level moment) b) few (create_session_lone args (begins_at level moment) b.world bounds.sizes) (c.count == 1) refl
    from_fits (ops.DestroySession session ∷ rest) each few =
        alone_fits deeds (ops.DestroySession session) rest (begins_at level moment) b (row_in X site sent (ops.DestroySession session) (begins_at level moment) b) few (destroy_session_lone session (begins_at level moment) b.world) (c.count == 1) refl
    from_fits (ops.DestroyClientId client ∷ rest) each few =
        alone_fits deeds (ops.DestroyClientId client) rest (begins_at level moment) b (row_in X site sent (ops.DestroyClientId client) (begins_at level moment) b) few (destroy_clientid_lone client (begins_at level moment) b.world) (c.count == 1) refl
    from_fits (ops.ReclaimComplete one_fs ∷ rest) each few = failure_fits deeds (ops.ReclaimComplete one_fs) (begins_at level moment) b (record { gate = gates.Session; status = NFS4ERR_OP_NOT_IN_SESSION })
    from_fits (ops.PutFh handle ∷ rest) each few = behind_sequence (ops.PutFh handle) rest
    from_fits (ops.PutRootFh ∷ rest) each few = behind_sequence ops.PutRootFh rest
    from_fits (ops.GetFh ∷ rest) each few = behind_sequence ops.GetFh rest
    from_fits (ops.SaveFh ∷ rest) each few = behind_sequence ops.SaveFh rest
    from_fits (ops.RestoreFh ∷ rest) each few = behind_sequence ops.RestoreFh rest
    from_fits (ops.Lookup name ∷ rest) each few = behind_sequence (ops.Lookup name) rest
    from_fits (ops.LookupP ∷ rest) each few = behind_sequence ops.LookupP rest
    from_fits (ops.GetAttr asked ∷ rest) each few = behind_sequence (ops.GetAttr asked) rest
    from_fits (ops.Verify given ∷ rest) each few = behind_sequence (ops.Verify given) rest
    from_fits (ops.NVerify given ∷ rest) each few = behind_sequence (ops.NVerify given) rest
    from_fits (ops.Access bits ∷ rest) each few = behind_sequence (ops.Access bits) rest
    from_fits (ops.ReadDir cookie verifier dircount maxcount asked ∷ rest) each few = behind_sequence (ops.ReadDir cookie verifier dircount maxcount asked) rest
    from_fits (ops.ReadLink ∷ rest) each few = behind_sequence ops.ReadLink rest
    from_fits (ops.Create what name given ∷ rest) each few = behind_sequence (ops.Create what name given) rest
    from_fits (ops.Link name ∷ rest) each few = behind_sequence (ops.Link name) rest
    from_fits (ops.Remove name ∷ rest) each few = behind_sequence (ops.Remove name) rest
    from_fits (ops.Rename old new ∷ rest) each few = behind_sequence (ops.Rename old new) rest
    from_fits (ops.SetAttr id given ∷ rest) each few = behind_sequence (ops.SetAttr id given) rest
    from_fits (ops.Open seqid access deny client owner making claim ∷ rest) each few = behind_sequence (ops.Open seqid access deny client owner making claim) rest
    from_fits (ops.Close seqid id ∷ rest) each few = behind_sequence (ops.Close seqid id) rest
    from_fits (ops.Write id offset stable content ∷ rest) each few = behind_sequence (ops.Write id offset stable content) rest
    from_fits (ops.Read id offset count ∷ rest) each few = behind_sequence (ops.Read id offset count) rest
    from_fits (ops.Commit offset count ∷ rest) each few = behind_sequence (ops.Commit offset count) rest
    from_fits (ops.Outside number status ∷ rest) each few = failure_fits deeds (ops.Outside number status) (begins_at level moment) b (record { gate = gates.Outside; status = status })
    from_fits (ops.Extra number arguments ∷ rest) each few = behind_sequence (ops.Extra number arguments) rest

    run_fits : Fits (run_all deeds c (begins_at level moment) b)
    unfolding run_all
    run_fits = at (c.minor == 2) (from_fits c.ops read.arguments read.operations) (omega (arith, none_short (if c.minor == 2 then 0 else NFS4ERR_MINOR_VERS_MISMATCH) c.tag read.tag))
      where
        at : (same : Bool) → Fits (run_behind deeds [] c.ops (begins_at level moment) b) → FitsResponse MOST_SIZE (new_result c []) → Fits (cond same (run_behind deeds [] c.ops (begins_at level moment) b) (record { place = begins_at level moment; state = b; results = []; denial = Some (record { place = 0; number = 0; gate = gates.Outside; status = NFS4ERR_MINOR_VERS_MISMATCH }); again = None; keeper = Nowhere }))
        at true run none = run
        at false run none = record { short = none; kept = tt }

-- ---- the whole

module _ (X : Extra) (owed : AreLawful X) (site : Site) (lattice : IsPreorderWithBottom site.dom) (labels : LabelsFit site) (sent : Sent) (c : Compound) (level : ℕ) (moment : Moment) (b : Both X.Row) (stands : BothStand X.Fact site.dom (begins_at level moment) b) (known : is_level site level ≡ true) (bounds : Bounds site b.world) (read : IsRead c) where
  pub served_bounds : Bounds site (served X site sent c (begins_at level moment) b).state.world
  unfolding served
  served_bounds =
      let p = begins_at level moment in
      let r = run_all (operation X site sent c) c p b in
      let kept : world.Kept = record { arguments = sent.arguments; reply = result_of c r.results r.again } in
      let ends = all_stand site.dom (both_seen X.level_of site.dom) (BothStand X.Fact site.dom) (operation X site sent c) (operation_lawful X owed site lattice sent c) c p b stands in
      let keeps = run_keeps X owed site lattice labels sent c read.arguments p b stands known bounds in
      let within = kept_within X owed site lattice labels sent c r kept ends.0 keeps in
      let sizes = keep_sizes r.place r.state keeps.bounds.sizes sent.count kept r.keeper (run_fits c read sent X owed site lattice labels level moment b stands known bounds).kept in
      record { sizes = sizes; rows = within.rows; counts = within.counts }

  -- where the result is kept, it fits, and its COMPOUND counts few operations
  pub kept_fits : let r = run_all (operation X site sent c) c (begins_at level moment) b in FitsIn sent.count r.keeper (result_of c r.results r.again) r.place r.state
  kept_fits = (run_fits c read sent X owed site lattice labels level moment b stands known bounds).kept

  pub served_short : FitsResponse MOST_SIZE (served X site sent c (begins_at level moment) b).answer.result
  unfolding served
  served_short = (run_fits c read sent X owed site lattice labels level moment b stands known bounds).short

  pub fits_named : (args : Sequence) (rest : List Op) (x : Session) (slot : SlotRow) → c.minor ≡ 2 → c.ops ≡ ops.Sequence args ∷ rest → Names level b.world args sent x slot →
      FitsResponse x.channel.max_response (served X site sent c (begins_at level moment) b).answer.result
  unfolding served
  fits_named args rest x slot minor is names = at (nat_le sent.count x.channel.max_operations) refl
    where
      at : (b′ : Bool) → nat_le sent.count x.channel.max_operations ≡ b′ → FitsResponse x.channel.max_response (served X site sent c (begins_at level moment) b).answer.result
      at true is-few =
          let few : sent.count ≤ x.channel.max_operations = grind (arith, nat_tests, is-few) in
          let ran = by_sequence X site sent c level moment b args rest minor is ∙ ap (begun X site sent c args rest b) (on_named level moment b.world args sent x slot names few) in
          subst (λ (r : Ran (Both X.Row)). FitsResponse x.channel.max_response (result_of c r.results r.again)) (sym ran)
          (named_fits c read sent X owed site lattice labels level moment b stands known bounds args rest (subst (AllByRecursion IsOpRead) is read.arguments).1 x slot names few)
      at false is-many =
          let fitting = session_fits b.world bounds.sizes (session_named args.session) x (session_under-at args.session b.world.sessions x names.session) in
          refused_fits X owed site lattice labels sent c level moment b args rest x slot minor is names (grind (arith, nat_tests, is-many)) read.tag fitting.granted.response.0
