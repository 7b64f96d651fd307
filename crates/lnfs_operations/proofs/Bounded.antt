-- The result of each operation is within its bound.
use Rattle.std.proofs.Common.{◌≡◌, ◌≤◌, ◌+◌, ℕ, Bool, true, false, cond, not, List, [], length, Option, Some, None, refl, ap, arith}
use Rattle.std.specs.Prelude.{◌==◌, nat_le, slice_get}
use Rattle.std.proofs.lemmas.List.{length-append}
use Rattle.lnfs_calipso.specs.Label.{IsPreorderWithBottom}
use Rattle.lnfs_xdr.specs.Format.{padding}
use Rattle.lnfs_xdr.proofs.Sizes.{length-word, length-long, length-padded, length-opaque}
use Rattle.lnfs_arguments.specs.Further.{Further}
use Rattle.lnfs_arguments.specs.declared.types.Op.{Op}
use Rattle.lnfs_arguments.specs.declared.types.Op.TheVariants as ops
use Rattle.lnfs_arguments.specs.declared.types.Compound.{Compound}
use Rattle.lnfs_arguments.specs.declared.statuses.TheConstants.{NFS4ERR_BADSESSION, NFS4ERR_BADSLOT, NFS4ERR_REQ_TOO_BIG, NFS4ERR_TOO_MANY_OPS, NFS4ERR_STALE_CLIENTID, NFS4ERR_CLIENTID_BUSY, NFS4ERR_NOTSUPP}
use Rattle.lnfs_results.specs.declared.types.OpResult.{OpResult}
use Rattle.lnfs_results.specs.declared.types.OpResult.TheVariants as results
use Rattle.lnfs_results.specs.Texts.{fields_text, result_text}
use Rattle.lnfs_monitor.specs.declared.rule.Rule.TheVariants.{M9}
use Rattle.lnfs_world.specs.World.{World, client_at, last_of}
use Rattle.lnfs_world.specs.Outcome.{Site, Place, Outcome}
use Rattle.lnfs_world.specs.Lawful.{Turn, deed_of}
use Rattle.lnfs_world.specs.Both.{Both, BothStand, on_world}
use Rattle.lnfs_operations.specs.declared.Gate.TheVariants as gates
use Rattle.lnfs_operations.specs.Chain.{Answer, Refusal, done}
use Rattle.lnfs_operations.specs.Identifiers.{client_named, session_named, session_under}
use Rattle.lnfs_operations.specs.Keeping.{next_sequence}
use Rattle.lnfs_operations.specs.ExchangeId.{Told}
use Rattle.lnfs_operations.specs.CreateSession.{Created, create_session}
use Rattle.lnfs_operations.specs.DestroyClientId.{is_busy}
use Rattle.lnfs_operations.specs.Sequence.{Sent, Sequenced, Again, begun_in}
use Rattle.lnfs_operations.specs.Extra.{Extra, AreLawful, Said, further_deed}
use Rattle.lnfs_operations.specs.Results.{failed, told_result, server_name, status_said}
use Rattle.lnfs_operations.specs.Admission.{admission}
use Rattle.lnfs_operations.specs.Served.{Keeper, Nowhere, Reply, Own, Kept, success, failure, told_reply, created_reply, created_keeper, sequence_reply, reply_of, under, said_reply, further_reply, row, row_in, admitted, operation}
use Rattle.lnfs_operations.specs.Sizes.{Sizes, LabelsFit}
use Rattle.lnfs_operations.specs.Bounded.{most_of, IsBounded}
use Rattle.lnfs_operations.proofs.Chains.{demand_any, where_any, in_order_any}
use Rattle.lnfs_operations.proofs.ExchangeIdLaws.{exchange_id_any}
use Rattle.lnfs_operations.proofs.CreateSessionLaws.{created_any}
use Rattle.lnfs_operations.proofs.Lengths.{failed_short, said_short, reclaimed_short, created_short}
use Rattle.lnfs_operations.proofs.ReadingRows.{is_reading}
use Rattle.lnfs_operations.proofs.ShortRows.{Short, ShortBy, row_short}
use Rattle.lnfs_operations.proofs.ChangingRows.{is_changing}
use Rattle.lnfs_operations.proofs.ShortChanges.{changing_short}
use Rattle.lnfs_operations.proofs.Once.{reclaim_any}
use Rattle.lnfs_operations.proofs.Rooms.{session_length}

-- ---- results

told_bounded : (level : ℕ) (t : Told) → length (result_text (told_result level t)) ≤ 80
unfolding result_text fields_text
told_bounded level t = simp (length-append, length-word, length-long) (omega (arith, length-opaque server_name))

sequence_bounded : (session : List ℕ) (a b d e f : ℕ) → length session ≡ 16 → length (result_text (results.Sequence session a b d e f)) ≤ 44
unfolding result_text fields_text
sequence_bounded session a b d e f is =
    let none : padding (length session) ≡ 0 = ap padding is in
    simp (length-append, length-word) (omega (arith, is, none, length-padded session))

destroyed_bounded : length (result_text results.DestroySession) ≤ 8
unfolding result_text fields_text
destroyed_bounded = simp (length-append, length-word) (omega arith)

ended_bounded : length (result_text results.DestroyClientId) ≤ 8
unfolding result_text fields_text
ended_bounded = simp (length-append, length-word) (omega arith)

further_failed : (number : ℕ) (arguments : List ℕ) (status room : ℕ) → 8 ≤ room → length (result_text (failed (ops.Extra number arguments) status)) ≤ room
unfolding result_text fields_text
further_failed number arguments status room enough = simp (length-append, length-word) (omega (arith, enough))

-- ---- refusals

-- a further operation has room for its number and its status
abbrev HasRoom : Further → Op → Type 0
HasRoom x (ops.Extra number arguments) = 8 ≤ x.bound number arguments
HasRoom x op = Unit {0}

failure_bounded : (x : Further) (op : Op) (why : Refusal) → HasRoom x op → IsBounded x op (failure op why)
failure_bounded x (ops.Extra number arguments) why room = further_failed number arguments why.status (x.bound number arguments) room
failure_bounded x op why room = failed_short op why.status

admitted_bounded : {S : Type 0} (x : Further) (op : Op) (p : Place) (a : S) (o : Option Refusal) (t : Turn Reply S) → HasRoom x op → IsBounded x op t.answer → IsBounded x op (admitted op p a o t).answer
admitted_bounded x op p a None t room is = is
admitted_bounded x op p a (Some why) t room is = failure_bounded x op why room

-- ---- each operation

abbrev is_further : Op → Bool
is_further (ops.Extra number arguments) = true
is_further op = false

refusal_most : (x : Further) (op : Op) (why : Refusal) → is_further op ≡ false → 12 ≤ most_of x op (Some why)
refusal_most x (ops.Extra number arguments) why is = absurd (grind arith)
refusal_most x op why is = omega arith

short_bounded : (x : Further) (op : Op) (y : Reply) → is_further op ≡ false → Short x op y → IsBounded x op y
short_bounded x op (Own own keeper) table short = at own.refusal short
  where
    at : (o : Option Refusal) → ShortBy x op own.result o → length (result_text own.result) ≤ most_of x op o
    at None short = short
    at (Some why) short = omega (arith, short, refusal_most x op why table)
short_bounded x op (Kept reply) table short = absurd short

under_bounded : (x : Further) (op : Op) (keeper : Keeper) (y : Reply) → IsBounded x op y → IsBounded x op (under keeper y)
under_bounded x op keeper (Own own other) is = is
under_bounded x op keeper (Kept reply) is = tt

module _ (x : Further) (site : Site) (spells : LabelsFit site) (sent : Sent) (p : Place) (w : World) (sizes : Sizes w) where
  -- an operation that reads or changes nodes
  on_nodes : (op : Op) (reads changes : Bool) → is_reading op ≡ reads → is_changing op ≡ changes → is_further op ≡ false → (cond reads true changes) ≡ true → IsBounded x op (row site sent op p w).answer
  on_nodes op true changes reading changing table is = short_bounded x op (row site sent op p w).answer table (row_short x site spells sent p w sizes op reading)
  on_nodes op false true reading changing table is = short_bounded x op (row site sent op p w).answer table (changing_short x site sent p w op changing)
  on_nodes op false false reading changing table is = absurd (grind arith)

  row_bounded : (op : Op) → HasRoom x op → IsBounded x op (row site sent op p w).answer
  row_bounded (ops.ExchangeId verifier owner flags implementation) room =
      let op = ops.ExchangeId verifier owner flags implementation in
      exchange_id_any (λ o. IsBounded x op (reply_of op (told_reply p.subject) o.answer)) (record { verifier = verifier; owner = owner; flags = flags }) p w
      (λ gate status. failure_bounded x op (record { gate = gate; status = status }) room) (λ t. told_bounded p.subject t) (told_bounded p.subject (record { number = last_of p.subject w.lasts.clients + 1; sequence = 1; confirmed = false }))
  row_bounded (ops.CreateSession args) room =
      let op = ops.CreateSession args in
      let P = λ (o : Outcome (Answer Created)). IsBounded x op (reply_of op (created_reply p.subject args) o.answer) in
      under_bounded x op (created_keeper args p w) (reply_of op (created_reply p.subject args) (create_session args sent.arguments p w).answer)
      (demand_any P ((client_named args.client).level == p.subject) _ _ (failure_bounded x op (record { gate = gates.Monitor M9; status = NFS4ERR_STALE_CLIENTID }) room) (λ own.
      where_any P (client_at w.clients (client_named args.client)) _ _ (λ client found.
      created_any P args sent.arguments p w client (λ gate status. failure_bounded x op (record { gate = gate; status = status }) room) (λ k kept. tt)
      (λ large. created_short p.subject _ args.sequence 0 _ _ refl refl)) (failure_bounded x op (record { gate = gates.Session; status = NFS4ERR_STALE_CLIENTID }) room)))
  row_bounded (ops.DestroySession session) room =
      let op = ops.DestroySession session in
      let P = λ (o : Outcome (Answer (Unit {0}))). IsBounded x op (reply_of op (λ _. success results.DestroySession Nowhere) o.answer) in
      demand_any P ((session_named session).level == p.subject) _ _ (failure_bounded x op (record { gate = gates.Monitor M9; status = NFS4ERR_BADSESSION }) room) (λ own.
      where_any P (session_under session w.sessions) _ _ (λ s found. destroyed_bounded) (failure_bounded x op (record { gate = gates.Session; status = NFS4ERR_BADSESSION }) room))
  row_bounded (ops.Sequence args) room =
      let op = ops.Sequence args in
      let P = λ (o : Outcome (Answer Sequenced)). IsBounded x op (reply_of op (sequence_reply args) o.answer) in
      demand_any P ((session_named args.session).level == p.subject) _ _ (failure_bounded x op (record { gate = gates.Monitor M9; status = NFS4ERR_BADSESSION }) room) (λ own.
      where_any P (session_under args.session w.sessions) _ _ (λ s found.
      demand_any P (nat_le sent.size s.channel.max_request) _ _ (failure_bounded x op (record { gate = gates.Session; status = NFS4ERR_REQ_TOO_BIG }) room) (λ short.
      demand_any P (nat_le sent.count s.channel.max_operations) _ _ (failure_bounded x op (record { gate = gates.Session; status = NFS4ERR_TOO_MANY_OPS }) room) (λ few.
      where_any P (slice_get s.slots args.slot) _ _ (λ slot there.
      in_order_any P p slot.sequence (next_sequence slot.sequence) slot.kept args.sequence sent.arguments (λ reply. done p (Again reply) []) (begun_in p w s) (λ status. failure_bounded x op (record { gate = gates.Session; status = status }) room) (λ k kept. tt)
      (λ next. sequence_bounded args.session _ _ _ _ _ (session_length args.session w.sessions s found)))
      (failure_bounded x op (record { gate = gates.Session; status = NFS4ERR_BADSLOT }) room)))) (failure_bounded x op (record { gate = gates.Session; status = NFS4ERR_BADSESSION }) room))
  row_bounded (ops.DestroyClientId client) room =
      let op = ops.DestroyClientId client in
      let P = λ (o : Outcome (Answer (Unit {0}))). IsBounded x op (reply_of op (λ _. success results.DestroyClientId Nowhere) o.answer) in
      demand_any P ((client_named client).level == p.subject) _ _ (failure_bounded x op (record { gate = gates.Monitor M9; status = NFS4ERR_STALE_CLIENTID }) room) (λ own.
      where_any P (client_at w.clients (client_named client)) _ _ (λ d found.
      demand_any P (not (is_busy d.id w)) _ _ (failure_bounded x op (record { gate = gates.Session; status = NFS4ERR_CLIENTID_BUSY }) room) (λ idle. ended_bounded)) (failure_bounded x op (record { gate = gates.Session; status = NFS4ERR_STALE_CLIENTID }) room))
  row_bounded (ops.ReclaimComplete one_fs) room =
      let op = ops.ReclaimComplete one_fs in
      reclaim_any (λ o. IsBounded x op (reply_of op (λ _. success results.ReclaimComplete Nowhere) o.answer)) one_fs p w
      (λ status. failure_bounded x op (record { gate = gates.Session; status = status }) room) reclaimed_short (λ client. reclaimed_short)
  row_bounded (ops.Outside number status) room = failure_bounded x (ops.Outside number status) (record { gate = gates.Outside; status = status }) room
  row_bounded (ops.Extra number arguments) room = failure_bounded x (ops.Extra number arguments) (record { gate = gates.Outside; status = NFS4ERR_NOTSUPP }) room
  row_bounded op room = on_nodes op _ _ refl refl refl refl

-- ---- in a COMPOUND

module _ (X : Extra) (owed : AreLawful X) (site : Site) (lattice : IsPreorderWithBottom site.dom) (spells : LabelsFit site) (sent : Sent) (c : Compound) (so_far : List OpResult) (p : Place) (b : Both X.Row) (stands : BothStand X.Fact site.dom p b) (sizes : Sizes b.world) where
  has_room : (op : Op) → HasRoom X.grammar op
  has_room (ops.Extra number arguments) = omega (arith, (owed.tame site lattice number arguments p b stands).bound)
  has_room op = tt

  said_bounded : (number : ℕ) (arguments : List ℕ) (said : Said) → length said.bytes + 8 ≤ X.grammar.bound number arguments → IsBounded X.grammar (ops.Extra number arguments) (said_reply number said)
  said_bounded number arguments said within = at said.refusal
    where
      at : (o : Option Refusal) → length (result_text (results.Extra number (status_said said.refusal) said.bytes)) ≤ most_of X.grammar (ops.Extra number arguments) o
      at None = said_short number (status_said said.refusal) said.bytes (X.grammar.bound number arguments) within
      at (Some why) = said_short number (status_said said.refusal) said.bytes (X.grammar.bound number arguments) within

  extra_bounded : (serves : Bool) (number : ℕ) (arguments : List ℕ) → IsBounded X.grammar (ops.Extra number arguments) (cond serves (further_reply number (further_deed X site number arguments)) (on_world (deed_of (row site sent (ops.Extra number arguments)))) p b).answer
  extra_bounded true number arguments = said_bounded number arguments (further_deed X site number arguments p b).answer (owed.tame site lattice number arguments p b stands).bound
  extra_bounded false number arguments = row_bounded X.grammar site spells sent p b.world sizes (ops.Extra number arguments) (has_room (ops.Extra number arguments))

  row_in_bounded : (op : Op) → IsBounded X.grammar op (row_in X site sent op p b).answer
  row_in_bounded (ops.Extra number arguments) = extra_bounded (X.grammar.serves number) number arguments
  row_in_bounded op = row_bounded X.grammar site spells sent p b.world sizes op tt

  pub operation_bounded : (op : Op) → IsBounded X.grammar op (operation X site sent c so_far op p b).answer
  operation_bounded op = admitted_bounded X.grammar op p b (admission X.grammar c so_far op p b.world) (row_in X site sent op p b) (has_room op) (row_in_bounded op)
