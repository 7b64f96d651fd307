-- A result on an accepted slot leaves room for its wrapping in a response of its session.
use Rattle.std.proofs.Common.{◌≡◌, ◌≤◌, ◌<◌, ◌+◌, ◌-◌, ℕ, Bool, true, false, cond, List, [], ◌∷◌, ◌++◌, length, Option, Some, None, refl, sym, ap, ◌∙◌, subst, arith, drop}
use Rattle.std.specs.Prelude.{nat_le, ◌==◌, if◌then◌else◌}
use Rattle.std.proofs.lemmas.Bool.Decides.{nat_tests}
use Rattle.lnfs_calipso.specs.Label.{IsPreorderWithBottom}
use Rattle.lnfs_types.specs.declared.event.Moment.{Moment}
use Rattle.lnfs_arguments.specs.Further.{Further}
use Rattle.lnfs_arguments.specs.declared.types.Op.{Op}
use Rattle.lnfs_arguments.specs.declared.types.Op.TheVariants as ops
use Rattle.lnfs_arguments.specs.declared.types.Compound.{Compound}
use Rattle.lnfs_arguments.specs.declared.types.Sequence.{Sequence}
use Rattle.lnfs_arguments.specs.declared.statuses.TheConstants.{NFS4ERR_NOTSUPP, NFS4ERR_NOT_ONLY_OP, NFS4ERR_SEQUENCE_POS, NFS4ERR_REP_TOO_BIG, NFS4ERR_TOO_MANY_OPS, NFS4ERR_MINOR_VERS_MISMATCH}
use Rattle.lnfs_results.specs.Answering.{op_bound}
use Rattle.lnfs_results.specs.declared.types.OpResult.{OpResult}
use Rattle.lnfs_results.specs.declared.types.OpResult.TheVariants as results
use Rattle.lnfs_results.specs.Numbered.{status_of_all}
use Rattle.lnfs_results.specs.Texts.{result_text}
use Rattle.lnfs_world.specs.World.{Id, Slot as SlotRow, Session, session_at}
use Rattle.lnfs_world.specs.Outcome.{Site, Place, Outcome, begins_at, done_to}
use Rattle.lnfs_world.specs.Lawful.{Turn, deed_of}
use Rattle.lnfs_world.specs.Both.{Both, BothStand, on_world}
use Rattle.lnfs_operations.specs.declared.Gate.TheVariants as gates
use Rattle.lnfs_operations.specs.declared.numbers.TheConstants.{RESERVED_ROOM, LEAST_SIZE}
use Rattle.lnfs_operations.specs.Chain.{Answer as Answered, Refusal}
use Rattle.lnfs_operations.specs.Identifiers.{session_named, session_under}
use Rattle.lnfs_operations.specs.Keeping.{next_sequence}
use Rattle.lnfs_operations.specs.Sequence.{Sent, Sequenced, in_session, begun_in}
use Rattle.lnfs_operations.specs.Extra.{Extra, AreLawful, further_deed}
use Rattle.lnfs_operations.specs.Results.{failed, status_said}
use Rattle.lnfs_operations.specs.Admission.{used, fits, unless, session_behind, room_refusal}
use Rattle.lnfs_operations.specs.Served.{Keeper, Nowhere, Slot, Record, Reply, Own, Kept, success, failure, reply_of, further_reply, row, row_in, admitted, where_admitted, operation}
use Rattle.lnfs_operations.specs.SlotRule.{Answer, Ran, kept_by, own_reply, followed, run_behind, new_result, result_of, served}
use Rattle.lnfs_operations.specs.Retries.{Names}
use Rattle.lnfs_operations.specs.Sizes.{Sizes, FitsResponse, LabelsFit, is_level, IsOpRead}
use Rattle.lnfs_operations.specs.Bounds.{Bounds}
use Rattle.std.specs.List.{AllByRecursion}
use Rattle.lnfs_operations.proofs.ServedLaws.{operation_lawful}
use Rattle.lnfs_operations.proofs.SessionLaws.{session_at-id, session_under-at}
use Rattle.lnfs_operations.proofs.Renewals.{renewal_leaves}
use Rattle.lnfs_operations.proofs.Retries.{begun, by_sequence, refused_again}
use Rattle.lnfs_operations.proofs.ReadingRows.{is_reading}
use Rattle.lnfs_operations.proofs.ShortRows.{Short, ShortBy, row_short}
use Rattle.lnfs_operations.proofs.ChangingRows.{is_changing}
use Rattle.lnfs_operations.proofs.ShortChanges.{changing_short}
use Rattle.lnfs_operations.proofs.BoundLaws.{operation_bounds}
use Rattle.lnfs_operations.proofs.Once.{reclaim_any, operation_stays, renewed_state, new_begins, behind_stays, behind_subject}
use Rattle.lnfs_xdr.proofs.Sizes.{length-opaque}
use Rattle.lnfs_operations.proofs.Lengths.{used_more, text_length, one_short, failed_short, said_short, reclaimed_short, sequence_short}
use Rattle.std.specs.Str.{bytes_eq}
use Rattle.std.proofs.lemmas.List.{length-drop}
use Rattle.lnfs_world.proofs.Keys.{bytes_same}

-- ---- each operation

module _ (c : Compound) (most : ℕ) where
  -- Behind an operation that succeeds the reserved room is left; one that is refused takes of it no more than
  -- a refusal has.
  abbrev GoodBy : List OpResult → OpResult → Option Refusal → Type 0
  GoodBy rs result None = RESERVED_ROOM + used c (rs ++ result ∷ []) ≤ most
  GoodBy rs result (Some why) = 116 + used c (rs ++ result ∷ []) ≤ most

  abbrev Good : List OpResult → Reply → Type 0
  Good rs (Own own keeper) = GoodBy rs own.result own.refusal
  Good rs (Kept reply) = ⊥

  failure_good : (rs : List OpResult) (op : Op) (why : Refusal) → RESERVED_ROOM + used c rs ≤ most → Good rs (failure op why)
  failure_good rs op why room = omega (arith, room, used_more c rs (failed op why.status), failed_short op why.status)

  by_good : (rs : List OpResult) (result : OpResult) (o : Option Refusal) → RESERVED_ROOM + used c rs + length (result_text result) ≤ most → GoodBy rs result o
  by_good rs result None room = omega (arith, room, used_more c rs result)
  by_good rs result (Some why) room = omega (arith, room, used_more c rs result)

  -- what is within the bound for which there is room
  short_good : (rs : List OpResult) (x : Further) (op : Op) (y : Reply) → RESERVED_ROOM + used c rs ≤ most → RESERVED_ROOM + used c rs + op_bound x op ≤ most → Short x op y → Good rs y
  short_good rs x op (Own own keeper) before room short = at own.refusal short
    where
      at : (o : Option Refusal) → ShortBy x op own.result o → GoodBy rs own.result o
      at None short = omega (arith, room, short, used_more c rs own.result)
      at (Some why) short = omega (arith, before, short, used_more c rs own.result)
  short_good rs x op (Kept reply) before room short = absurd short

  -- behind the test of room
  roomy : {S : Type 0} (rs : List OpResult) (op : Op) (p : Place) (a : S) (t : Turn Reply S) (room : ℕ) (x : Session) → x.channel.max_response ≡ most → RESERVED_ROOM + used c rs ≤ most → (RESERVED_ROOM + used c rs + room ≤ most → Good rs t.answer) → (b : Bool) → nat_le (RESERVED_ROOM + used c rs + room) x.channel.max_response ≡ b → Good rs (admitted op p a (unless b gates.Room NFS4ERR_REP_TOO_BIG) t).answer
  roomy rs op p a t room x is before good true test = good (grind (arith, nat_tests, is, test))
  roomy rs op p a t room x is before good false test = failure_good rs op (record { gate = gates.Room; status = NFS4ERR_REP_TOO_BIG }) before

  -- ---- the run

  -- no result that was kept is told, and room is left for the wrapping
  abbrev Ends : {S : Type 0} → Ran S → Type 0
  Ends r = (r.again ≡ None) × (116 + used c r.results ≤ most)

  kept_ends : {S : Type 0} (keeper : Keeper) (r : Ran S) → Ends r → Ends (kept_by keeper r)
  kept_ends Nowhere r e = e
  kept_ends (Slot slot sequence) r e = (e.0, e.1)
  kept_ends (Record client) r e = (e.0, e.1)

  own_ends : {S : Type 0} (rs : List OpResult) (op : Op) (p : Place) (a : S) (result : OpResult) (o : Option Refusal) (keeper : Keeper) (f : List OpResult → Ran S) → GoodBy rs result o → (RESERVED_ROOM + used c (rs ++ result ∷ []) ≤ most → Ends (f (rs ++ result ∷ []))) → Ends (own_reply rs op p a result o keeper f)
  own_ends rs op p a result None keeper f good rest = kept_ends keeper (f (rs ++ result ∷ [])) (rest good)
  own_ends rs op p a result (Some why) keeper f good rest = (refl, good)

  followed_ends : {S : Type 0} (rs : List OpResult) (op : Op) (p : Place) (a : S) (x : Reply) (f : List OpResult → Ran S) → Good rs x → ((result : OpResult) → RESERVED_ROOM + used c (rs ++ result ∷ []) ≤ most → Ends (f (rs ++ result ∷ []))) → Ends (followed rs op p a x f)
  followed_ends rs op p a (Own own keeper) f good rest = own_ends rs op p a own.result own.refusal keeper f good (rest own.result)
  followed_ends rs op p a (Kept reply) f good rest = absurd good

  module _ (X : Extra) (owed : AreLawful X) (site : Site) (lattice : IsPreorderWithBottom site.dom) (labels : LabelsFit site) (sent : Sent) (x : Session) (is : x.channel.max_response ≡ most) where
    -- the place stands in the session
    abbrev In : Place → Both X.Row → Type 0
    In p b = session_behind p p.session b.world.sessions ≡ Some x

    behind_room : (rs : List OpResult) (op : Op) (p : Place) (b : Both X.Row) (t : Turn Reply (Both X.Row)) → In p b → RESERVED_ROOM + used c rs ≤ most → (RESERVED_ROOM + used c rs + op_bound X.grammar op ≤ most → Good rs t.answer) → Good rs (admitted op p b (room_refusal X.grammar c rs op p b.world) t).answer
    behind_room rs op p b t inside before good =
        subst (λ o. Good rs (admitted op p b (unless (fits (RESERVED_ROOM + used c rs + op_bound X.grammar op) o) gates.Room NFS4ERR_REP_TOO_BIG) t).answer) (sym inside)
        (roomy rs op p b t (op_bound X.grammar op) x is before good (nat_le (RESERVED_ROOM + used c rs + op_bound X.grammar op) x.channel.max_response) refl)

    extra_good : (serves : Bool) (r : OpResult) (rs : List OpResult) (number : ℕ) (arguments : List ℕ) (p : Place) (b : Both X.Row) → BothStand X.Fact site.dom p b → In p b → RESERVED_ROOM + used c (r ∷ rs) ≤ most →
        let own = cond serves (further_reply number (further_deed X site number arguments)) (on_world (deed_of (row site sent (ops.Extra number arguments)))) in
        Good (r ∷ rs) (where_admitted X c (r ∷ rs) (ops.Extra number arguments) own p b).answer
    extra_good true r rs number arguments p b stands inside before =
        behind_room (r ∷ rs) (ops.Extra number arguments) p b (further_reply number (further_deed X site number arguments) p b) inside before (λ room.
        let said = (further_deed X site number arguments p b).answer in
        let tame = owed.tame site lattice number arguments p b stands in
        by_good (r ∷ rs) (results.Extra number (status_said said.refusal) said.bytes) said.refusal (omega (arith, room, said_short number (status_said said.refusal) said.bytes (X.grammar.bound number arguments) tame.bound)))
    extra_good false r rs number arguments p b stands inside before =
        behind_room (r ∷ rs) (ops.Extra number arguments) p b (on_world (deed_of (row site sent (ops.Extra number arguments))) p b) inside before (λ room. failure_good (r ∷ rs) (ops.Extra number arguments) (record { gate = gates.Outside; status = NFS4ERR_NOTSUPP }) before)

    reading_good : (r : OpResult) (rs : List OpResult) (op : Op) (p : Place) (b : Both X.Row) → is_reading op ≡ true → In p b → Sizes b.world → RESERVED_ROOM + used c (r ∷ rs) ≤ most →
        Good (r ∷ rs) (admitted op p b (room_refusal X.grammar c (r ∷ rs) op p b.world) (on_world (deed_of (row site sent op)) p b)).answer
    reading_good r rs op p b reads inside sizes before =
        behind_room (r ∷ rs) op p b (on_world (deed_of (row site sent op)) p b) inside before (λ room.
        short_good (r ∷ rs) X.grammar op (row site sent op p b.world).answer before room (row_short X.grammar site labels sent p b.world sizes op reads))

    changing_good : (r : OpResult) (rs : List OpResult) (op : Op) (p : Place) (b : Both X.Row) → is_changing op ≡ true → In p b → RESERVED_ROOM + used c (r ∷ rs) ≤ most →
        Good (r ∷ rs) (admitted op p b (room_refusal X.grammar c (r ∷ rs) op p b.world) (on_world (deed_of (row site sent op)) p b)).answer
    changing_good r rs op p b changes inside before =
        behind_room (r ∷ rs) op p b (on_world (deed_of (row site sent op)) p b) inside before (λ room.
        short_good (r ∷ rs) X.grammar op (row site sent op p b.world).answer before room (changing_short X.grammar site sent p b.world op changes))

    operation_good : (r : OpResult) (rs : List OpResult) (op : Op) (p : Place) (b : Both X.Row) → BothStand X.Fact site.dom p b → In p b → Sizes b.world → RESERVED_ROOM + used c (r ∷ rs) ≤ most → Good (r ∷ rs) (operation X site sent c (r ∷ rs) op p b).answer
    operation_good r rs (ops.ReclaimComplete one_fs) p b stands inside sizes before =
        behind_room (r ∷ rs) (ops.ReclaimComplete one_fs) p b (row_in X site sent (ops.ReclaimComplete one_fs) p b) inside before (λ room.
        reclaim_any (λ o. Good (r ∷ rs) (reply_of (ops.ReclaimComplete one_fs) (λ _. success results.ReclaimComplete Nowhere) o.answer)) one_fs p b.world
        (λ status. failure_good (r ∷ rs) (ops.ReclaimComplete one_fs) (record { gate = gates.Session; status = status }) before)
        (by_good (r ∷ rs) results.ReclaimComplete None (omega (arith, room, reclaimed_short)))
        (λ client. by_good (r ∷ rs) results.ReclaimComplete None (omega (arith, room, reclaimed_short))))
    operation_good r rs (ops.PutFh handle) p b stands inside sizes before = reading_good r rs (ops.PutFh handle) p b refl inside sizes before
    operation_good r rs ops.PutRootFh p b stands inside sizes before = reading_good r rs ops.PutRootFh p b refl inside sizes before
    operation_good r rs ops.GetFh p b stands inside sizes before = reading_good r rs ops.GetFh p b refl inside sizes before
    operation_good r rs ops.SaveFh p b stands inside sizes before = reading_good r rs ops.SaveFh p b refl inside sizes before
    operation_good r rs ops.RestoreFh p b stands inside sizes before = reading_good r rs ops.RestoreFh p b refl inside sizes before
    operation_good r rs (ops.Lookup name) p b stands inside sizes before = reading_good r rs (ops.Lookup name) p b refl inside sizes before
    operation_good r rs ops.LookupP p b stands inside sizes before = reading_good r rs ops.LookupP p b refl inside sizes before
    operation_good r rs (ops.GetAttr asked) p b stands inside sizes before = reading_good r rs (ops.GetAttr asked) p b refl inside sizes before
    operation_good r rs (ops.Verify given) p b stands inside sizes before = reading_good r rs (ops.Verify given) p b refl inside sizes before
    operation_good r rs (ops.NVerify given) p b stands inside sizes before = reading_good r rs (ops.NVerify given) p b refl inside sizes before
    operation_good r rs (ops.Access bits) p b stands inside sizes before = reading_good r rs (ops.Access bits) p b refl inside sizes before
    operation_good r rs (ops.ReadDir cookie verifier dircount maxcount asked) p b stands inside sizes before = reading_good r rs (ops.ReadDir cookie verifier dircount maxcount asked) p b refl inside sizes before
    operation_good r rs ops.ReadLink p b stands inside sizes before = reading_good r rs ops.ReadLink p b refl inside sizes before
    operation_good r rs (ops.Create what name given) p b stands inside sizes before = changing_good r rs (ops.Create what name given) p b refl inside before
    operation_good r rs (ops.Link name) p b stands inside sizes before = changing_good r rs (ops.Link name) p b refl inside before
    operation_good r rs (ops.Remove name) p b stands inside sizes before = changing_good r rs (ops.Remove name) p b refl inside before
    operation_good r rs (ops.Rename old new) p b stands inside sizes before = changing_good r rs (ops.Rename old new) p b refl inside before
    operation_good r rs (ops.SetAttr id given) p b stands inside sizes before = changing_good r rs (ops.SetAttr id given) p b refl inside before
    operation_good r rs (ops.Read id offset count) p b stands inside sizes before = reading_good r rs (ops.Read id offset count) p b refl inside sizes before
    operation_good r rs (ops.Commit offset count) p b stands inside sizes before = reading_good r rs (ops.Commit offset count) p b refl inside sizes before
    operation_good r rs (ops.Open seqid access deny client owner making claim) p b stands inside sizes before = changing_good r rs (ops.Open seqid access deny client owner making claim) p b refl inside before
    operation_good r rs (ops.Close seqid id) p b stands inside sizes before = changing_good r rs (ops.Close seqid id) p b refl inside before
    operation_good r rs (ops.Write id offset stable content) p b stands inside sizes before = changing_good r rs (ops.Write id offset stable content) p b refl inside before
    operation_good r rs (ops.Outside number status) p b stands inside sizes before =
        behind_room (r ∷ rs) (ops.Outside number status) p b (row_in X site sent (ops.Outside number status) p b) inside before (λ room. failure_good (r ∷ rs) (ops.Outside number status) (record { gate = gates.Outside; status = status }) before)
    operation_good r rs (ops.Extra number arguments) p b stands inside sizes before = extra_good (X.grammar.serves number) r rs number arguments p b stands inside before
    operation_good r rs (ops.ExchangeId verifier owner flags implementation) p b stands inside sizes before = failure_good (r ∷ rs) (ops.ExchangeId verifier owner flags implementation) (record { gate = gates.Session; status = NFS4ERR_NOT_ONLY_OP }) before
    operation_good r rs (ops.CreateSession args) p b stands inside sizes before = failure_good (r ∷ rs) (ops.CreateSession args) (record { gate = gates.Session; status = NFS4ERR_NOT_ONLY_OP }) before
    operation_good r rs (ops.DestroySession session) p b stands inside sizes before = failure_good (r ∷ rs) (ops.DestroySession session) (record { gate = gates.Session; status = NFS4ERR_NOT_ONLY_OP }) before
    operation_good r rs (ops.DestroyClientId client) p b stands inside sizes before = failure_good (r ∷ rs) (ops.DestroyClientId client) (record { gate = gates.Session; status = NFS4ERR_NOT_ONLY_OP }) before
    operation_good r rs (ops.Sequence args) p b stands inside sizes before = failure_good (r ∷ rs) (ops.Sequence args) (record { gate = gates.Session; status = NFS4ERR_SEQUENCE_POS }) before

    stays_in : (p q : Place) (b v : Both X.Row) → In p b → v.world.sessions ≡ b.world.sessions → q.session ≡ p.session → q.subject ≡ p.subject → In q v
    stays_in p q b v inside sessions session subject = (λ i. session_behind (record p { subject = subject i }) (session i) (sessions i)) ∙ inside

    pub behind_ends : (os : List Op) → AllByRecursion IsOpRead os → (r : OpResult) (rs : List OpResult) (p : Place) (b : Both X.Row) → BothStand X.Fact site.dom p b → is_level site p.subject ≡ true → In p b → Bounds site b.world → RESERVED_ROOM + used c (r ∷ rs) ≤ most → Ends (run_behind (operation X site sent c) (r ∷ rs) os p b)
    unfolding run_behind
    behind_ends [] read r rs p b stands level inside bounds before = (refl, omega (arith, before))
    behind_ends (op ∷ os) read r rs p b stands level inside bounds before =
        let t = operation X site sent c (r ∷ rs) op p b in
        let law = operation_lawful X owed site lattice sent c (r ∷ rs) op in
        let stays = operation_stays X owed site lattice sent c r rs op p b stands in
        let kept = operation_bounds X owed site lattice labels sent c p b stands level bounds (r ∷ rs) op read.0 in
        let there : is_level site t.place.subject ≡ true = ap (is_level site) (law.subject p b stands) ∙ level in
        followed_ends (r ∷ rs) op t.place t.state t.answer (λ results. run_behind (operation X site sent c) results os t.place t.state) (operation_good r rs op p b stands inside bounds.sizes before)
        (λ result room. behind_ends os read.1 r (rs ++ result ∷ []) t.place t.state (law.stands p b stands) there (stays_in p t.place b t.state inside stays.0 stays.1 (law.subject p b stands)) kept room)

-- ---- a COMPOUND

-- The last four bytes of an id that names a session are there, so the others are.
pub session_length : (bytes : List ℕ) (sessions : List Session) (x : Session) → session_under bytes sessions ≡ Some x → length bytes ≡ 16
session_length bytes sessions x found = at (bytes_eq (drop 12 bytes) (0 ∷ 0 ∷ 0 ∷ 0 ∷ [])) refl found
  where
    at : (b : Bool) → bytes_eq (drop 12 bytes) (0 ∷ 0 ∷ 0 ∷ 0 ∷ []) ≡ b → cond b (session_at sessions (session_named bytes)) None ≡ Some x → length bytes ≡ 16
    at true is e = omega (arith, length-drop 12 bytes, ap length (bytes_same (drop 12 bytes) (0 ∷ 0 ∷ 0 ∷ 0 ∷ []) is))
    at false is e = absurd (grind arith)

module _ (X : Extra) (owed : AreLawful X) (site : Site) (lattice : IsPreorderWithBottom site.dom) (labels : LabelsFit site) (sent : Sent) (c : Compound) where
  result_fits : (r : Ran (Both X.Row)) (most : ℕ) → r.again ≡ None → 116 + used c r.results ≤ most → FitsResponse most (result_of c r.results r.again)
  result_fits r most none room =
      let same : result_of c r.results r.again ≡ new_result c r.results = ap (result_of c r.results) none in
      omega (arith, room, ap length same, text_length (if c.minor == 2 then status_of_all r.results else NFS4ERR_MINOR_VERS_MISMATCH) c.tag r.results, text_length 0 c.tag r.results)

  -- the run behind a SEQUENCE that names a slot under its next sequence: what it keeps leaves room in a response
  pub slot_ends : (level : ℕ) (moment : Moment) (b : Both X.Row) (args : Sequence) (rest : List Op) (x : Session) (slot : SlotRow) → BothStand X.Fact site.dom (begins_at level moment) b → is_level site level ≡ true → Bounds site b.world → AllByRecursion IsOpRead rest →
      Names level b.world args sent x slot → sent.count ≤ x.channel.max_operations → args.sequence ≡ next_sequence slot.sequence → length c.tag ≤ 1024 → LEAST_SIZE ≤ x.channel.max_response →
      let r = begun X site sent c args rest b (begun_in (begins_at level moment) b.world x) in
      (FitsResponse x.channel.max_response (result_of c r.results r.again)) × (session_behind r.place r.place.session r.state.world.sessions ≡ Some x)
  unfolding begun
  slot_ends level moment b args rest x slot stands is bounds read names few next tag least =
      let p = begins_at level moment in
      let result = results.Sequence args.session args.sequence args.slot (x.channel.max_requests - 1) (x.channel.max_requests - 1) 0 in
      let started = new_begins X owed site lattice sent c level moment b args x slot stands names few next in
      let v = renewed_state X owed site lattice sent c p b x in
      let left = (renewal_leaves p b.world x).sessions in
      let kept : Bounds site v.world = subst (λ (o : Outcome (Answered Sequenced)). Bounds site (done_to b.world o)) started.0 (operation_bounds X owed site lattice labels sent c p b stands is bounds [] (ops.Sequence args) tt) in
      let id : x.id ≡ session_named args.session = session_at-id (session_named args.session) b.world.sessions x (session_under-at args.session b.world.sessions x names.session) in
      let found : session_at b.world.sessions x.id ≡ Some x = ap (session_at b.world.sessions) id ∙ session_under-at args.session b.world.sessions x names.session in
      let own : x.id.level ≡ level = ap (λ (i : Id). i.level) id ∙ names.own in
      let inside : session_behind (in_session p x) (Some x.id.number) v.world.sessions ≡ Some x = (λ i. session_at (left i) (record { level = sym own i; number = x.id.number })) ∙ found in
      let room : RESERVED_ROOM + used c (result ∷ []) ≤ x.channel.max_response = omega (arith, least, tag, length-opaque c.tag, text_length 0 c.tag [], used_more c [] result, sequence_short args.session args.sequence args.slot (x.channel.max_requests - 1) (x.channel.max_requests - 1) 0 (session_length args.session b.world.sessions x names.session)) in
      let ends = behind_ends c x.channel.max_response X owed site lattice labels sent x refl rest read result [] (in_session p x) v started.1 is inside kept room in
      let stays = behind_stays X owed site lattice sent c rest result [] (in_session p x) v started.1 in
      let subject = behind_subject X owed site lattice sent c rest result [] (in_session p x) v started.1 in
      let r = begun X site sent c args rest b (begun_in p b.world x) in (
        result_fits r x.channel.max_response ends.0 ends.1,
        stays_in c x.channel.max_response X owed site lattice labels sent x refl (in_session p x) r.place v r.state inside stays.0 stays.1 subject,
      )

  -- the refusal of one that counts too many operations is short
  pub refused_fits : (level : ℕ) (moment : Moment) (b : Both X.Row) (args : Sequence) (rest : List Op) (x : Session) (slot : SlotRow) → c.minor ≡ 2 → c.ops ≡ ops.Sequence args ∷ rest →
      Names level b.world args sent x slot → x.channel.max_operations < sent.count → length c.tag ≤ 1024 → LEAST_SIZE ≤ x.channel.max_response →
      FitsResponse x.channel.max_response (served X site sent c (begins_at level moment) b).answer.result
  refused_fits level moment b args rest x slot minor is names many tag least =
      let op = ops.Sequence args in
      let result = failed op NFS4ERR_TOO_MANY_OPS in
      let same = ap (λ (t : Turn Answer (Both X.Row)). length t.answer.result) (refused_again X site sent c level moment b args rest x slot minor is names many) in
      let one = one_short (if c.minor == 2 then status_of_all (result ∷ []) else NFS4ERR_MINOR_VERS_MISMATCH) c.tag result tag (omega (arith, failed_short op NFS4ERR_TOO_MANY_OPS)) in
      omega (arith, least, same, one)

  pub fits_on_slot : (level : ℕ) (moment : Moment) (b : Both X.Row) (args : Sequence) (rest : List Op) (x : Session) (slot : SlotRow) → BothStand X.Fact site.dom (begins_at level moment) b → is_level site level ≡ true → Bounds site b.world → AllByRecursion IsOpRead rest → c.minor ≡ 2 → c.ops ≡ ops.Sequence args ∷ rest →
      Names level b.world args sent x slot → args.sequence ≡ next_sequence slot.sequence → length c.tag ≤ 1024 → LEAST_SIZE ≤ x.channel.max_response →
      FitsResponse x.channel.max_response (served X site sent c (begins_at level moment) b).answer.result
  unfolding served
  fits_on_slot level moment b args rest x slot stands known bounds read minor is names next tag least = at (nat_le sent.count x.channel.max_operations) refl
    where
      at : (b′ : Bool) → nat_le sent.count x.channel.max_operations ≡ b′ → FitsResponse x.channel.max_response (served X site sent c (begins_at level moment) b).answer.result
      at true is-few =
          let few : sent.count ≤ x.channel.max_operations = grind (arith, nat_tests, is-few) in
          let started = new_begins X owed site lattice sent c level moment b args x slot stands names few next in
          let ran = by_sequence X site sent c level moment b args rest minor is ∙ ap (begun X site sent c args rest b) started.0 in
          subst (λ (r : Ran (Both X.Row)). FitsResponse x.channel.max_response (result_of c r.results r.again)) (sym ran)
          (slot_ends level moment b args rest x slot stands known bounds read names few next tag least).0
      at false is-many = refused_fits level moment b args rest x slot minor is names (grind (arith, nat_tests, is-many)) tag least
