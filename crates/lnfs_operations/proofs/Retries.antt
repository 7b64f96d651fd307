-- A COMPOUND that comes again on its slot gets its first result, and nothing changes.
use Rattle.std.proofs.Common.{◌≡◌, ◌≤◌, ◌<◌, ℕ, Bool, true, false, cond, List, [], ◌∷◌, Option, Some, None, refl, ap, ◌∙◌, arith}
use Rattle.std.specs.Prelude.{◌==◌, nat_le}
use Rattle.std.specs.Str.{bytes_eq}
use Rattle.std.proofs.lemmas.Bool.Decides.{nat_tests}
use Rattle.lnfs_arguments.specs.declared.types.Op.{Op}
use Rattle.lnfs_arguments.specs.declared.types.Op.TheVariants as ops
use Rattle.lnfs_arguments.specs.declared.types.Compound.{Compound}
use Rattle.lnfs_arguments.specs.declared.types.Sequence.{Sequence}
use Rattle.lnfs_arguments.specs.declared.statuses.TheConstants.{NFS4ERR_BADSESSION, NFS4ERR_BADSLOT, NFS4ERR_REQ_TOO_BIG, NFS4ERR_TOO_MANY_OPS, NFS4ERR_SEQ_FALSE_RETRY, NFS4ERR_SEQ_MISORDERED}
use Rattle.lnfs_types.specs.declared.event.Moment.{Moment}
use Rattle.lnfs_world.specs.World.{Kept as Stored, Slot as SlotRow, Session, World}
use Rattle.lnfs_world.specs.Outcome.{Site, Place, Outcome, begins_at, done_to}
use Rattle.lnfs_world.specs.Both.{Both, both}
use Rattle.lnfs_world.proofs.Keys.{bytes_itself}
use Rattle.lnfs_operations.specs.declared.Gate.TheVariants as gates
use Rattle.lnfs_monitor.specs.declared.rule.Rule.TheVariants.{M9}
use Rattle.lnfs_operations.specs.Chain.{Answer as Answered, refuse, done, demand, where_there}
use Rattle.lnfs_operations.specs.Identifiers.{session_named}
use Rattle.lnfs_operations.specs.Keeping.{next_sequence}
use Rattle.lnfs_operations.specs.InOrder.{in_order}
use Rattle.lnfs_operations.specs.Sequence.{Sent, Sequenced, Again, begun_in, on_slot, under_session, sequence}
use Rattle.lnfs_operations.specs.Extra.{Extra}
use Rattle.lnfs_operations.specs.Served.{operation, reply_of, sequence_reply}
use Rattle.lnfs_operations.specs.SlotRule.{Ran, followed, run_behind, run_all, kept_after, served}
use Rattle.lnfs_operations.specs.Accepted.{too_many}
use Rattle.lnfs_operations.specs.Retries.{Names}
use Rattle.lnfs_world.specs.Lawful.{deed_of}
use Rattle.lnfs_world.specs.Both.{on_world}
use Rattle.lnfs_world.specs.World.{Client, client_at}
use Rattle.lnfs_arguments.specs.declared.types.CreateSession.{CreateSession}
use Rattle.lnfs_arguments.specs.declared.statuses.TheConstants.{NFS4ERR_STALE_CLIENTID, NFS4ERR_NOT_ONLY_OP}
use Rattle.lnfs_operations.specs.Identifiers.{client_named}
use Rattle.lnfs_operations.specs.InOrder.{sequence_before}
use Rattle.lnfs_operations.specs.CreateSession.{Created, Again as MadeBefore, made, created, create_session}
use Rattle.lnfs_operations.specs.Admission.{or_else, unless}
use Rattle.lnfs_operations.specs.Served.{Reply, under, created_keeper, created_reply, create_session_in, row, admitted}

-- ---- SEQUENCE

pub chosen_true : {A : Type 0} (b : Bool) (x y : A) → b ≡ true → cond b x y ≡ x
chosen_true true x y e = refl
chosen_true false x y e = absurd (grind arith)

pub chosen_false : {A : Type 0} (b : Bool) (x y : A) → b ≡ false → cond b x y ≡ y
chosen_false true x y e = absurd (grind arith)
chosen_false false x y e = refl

equal_itself : (n : ℕ) → n == n ≡ true
equal_itself n = grind (arith, nat_tests)

-- what SEQUENCE comes to on the slot that it names, by how many operations its COMPOUND counts
counted : (level : ℕ) (moment : Moment) (w : World) (args : Sequence) (sent : Sent) (x : Session) (slot : SlotRow) → Names level w args sent x slot →
    sequence args sent (begins_at level moment) w
    ≡ demand (nat_le sent.count x.channel.max_operations) (refuse (begins_at level moment) gates.Session NFS4ERR_TOO_MANY_OPS) (on_slot args sent (begins_at level moment) w x slot)
counted level moment w args sent x slot names =
    let p = begins_at level moment in
    chosen_true ((session_named args.session).level == level) _ (refuse p (gates.Monitor M9) NFS4ERR_BADSESSION) (grind (arith, nat_tests, names.own))
    ∙ ap (λ o. where_there o (under_session args sent p w) (refuse p gates.Session NFS4ERR_BADSESSION)) names.session
    ∙ chosen_true (nat_le sent.size x.channel.max_request) _ (refuse p gates.Session NFS4ERR_REQ_TOO_BIG) (grind (arith, nat_tests, names.size))
    ∙ ap (λ o. demand (nat_le sent.count x.channel.max_operations) (refuse p gates.Session NFS4ERR_TOO_MANY_OPS) (where_there o (on_slot args sent p w x) (refuse p gates.Session NFS4ERR_BADSLOT))) names.slot

pub on_named : (level : ℕ) (moment : Moment) (w : World) (args : Sequence) (sent : Sent) (x : Session) (slot : SlotRow) → Names level w args sent x slot → sent.count ≤ x.channel.max_operations → sequence args sent (begins_at level moment) w ≡ on_slot args sent (begins_at level moment) w x slot
on_named level moment w args sent x slot names few =
    counted level moment w args sent x slot names
    ∙ chosen_true (nat_le sent.count x.channel.max_operations) _ (refuse (begins_at level moment) gates.Session NFS4ERR_TOO_MANY_OPS) (grind (arith, nat_tests, few))

on_many : (level : ℕ) (moment : Moment) (w : World) (args : Sequence) (sent : Sent) (x : Session) (slot : SlotRow) → Names level w args sent x slot → x.channel.max_operations < sent.count → sequence args sent (begins_at level moment) w ≡ refuse (begins_at level moment) gates.Session NFS4ERR_TOO_MANY_OPS
on_many level moment w args sent x slot names many =
    counted level moment w args sent x slot names
    ∙ chosen_false (nat_le sent.count x.channel.max_operations) (on_slot args sent (begins_at level moment) w x slot) _ (grind (arith, nat_tests, many))

in_order_again : {R : Type 0} (p : Place) (last next : ℕ) (k : Stored) (sequence : ℕ) (arguments : List ℕ) (again : List ℕ → Outcome (Answered R)) (new : Outcome (Answered R)) → (sequence == last) ≡ true → bytes_eq k.arguments arguments ≡ true → in_order p last next (Some k) sequence arguments again new ≡ again k.reply
in_order_again {R} p last next k sequence arguments again new same bytes = at (sequence == last) same
  where
    at : (b : Bool) → b ≡ true → where_there {X = Stored} (cond b (Some k) None) (λ j. demand (bytes_eq j.arguments arguments) (refuse p gates.Session NFS4ERR_SEQ_FALSE_RETRY) (again j.reply)) (demand (sequence == next) (refuse p gates.Session NFS4ERR_SEQ_MISORDERED) new) ≡ again k.reply
    at true e = chosen_true (bytes_eq k.arguments arguments) (again k.reply) (refuse p gates.Session NFS4ERR_SEQ_FALSE_RETRY) bytes
    at false e = absurd (grind arith)

pub in_order_new : {R : Type 0} (p : Place) (last next : ℕ) (o : Option Stored) (sequence : ℕ) (arguments : List ℕ) (again : List ℕ → Outcome (Answered R)) (new : Outcome (Answered R)) → (sequence == last) ≡ false → (sequence == next) ≡ true → in_order p last next o sequence arguments again new ≡ new
in_order_new {R} p last next o sequence arguments again new apart is = at (sequence == last) apart
  where
    at : (b : Bool) → b ≡ false → where_there {X = Stored} (cond b o None) (λ j. demand (bytes_eq j.arguments arguments) (refuse p gates.Session NFS4ERR_SEQ_FALSE_RETRY) (again j.reply)) (demand (sequence == next) (refuse p gates.Session NFS4ERR_SEQ_MISORDERED) new) ≡ new
    at false e = chosen_true (sequence == next) new (refuse p gates.Session NFS4ERR_SEQ_MISORDERED) is
    at true e = absurd (grind arith)

slot_again : (p : Place) (w : World) (args : Sequence) (sent : Sent) (x : Session) (reply : List ℕ) (slot : SlotRow) → slot ≡ record { sequence = args.sequence; kept = Some (record { arguments = sent.arguments; reply = reply }) } → on_slot args sent p w x slot ≡ done p (Again reply) []
slot_again p w args sent x reply slot is =
    let k : Stored = record { arguments = sent.arguments; reply = reply } in
    ap (on_slot args sent p w x) is
    ∙ in_order_again p args.sequence (next_sequence args.sequence) k args.sequence sent.arguments (λ reply. done p (Again reply) []) (begun_in p w x) (equal_itself args.sequence) (bytes_itself sent.arguments)

next_apart : (n : ℕ) → (next_sequence n == n) ≡ false
next_apart n = grind (arith, nat_tests)

pub slot_new : (p : Place) (w : World) (args : Sequence) (sent : Sent) (x : Session) (slot : SlotRow) → args.sequence ≡ next_sequence slot.sequence → on_slot args sent p w x slot ≡ begun_in p w x
slot_new p w args sent x slot next =
    in_order_new p slot.sequence (next_sequence slot.sequence) slot.kept args.sequence sent.arguments (λ reply. done p (Again reply) []) (begun_in p w x)
    (ap (λ n. n == slot.sequence) next ∙ next_apart slot.sequence) (ap (λ n. n == next_sequence slot.sequence) next ∙ equal_itself (next_sequence slot.sequence))

-- ---- a retry

module _ (X : Extra) (site : Site) (sent : Sent) (c : Compound) where
  -- a COMPOUND of this minor version
  pub of_version : (p : Place) (b : Both X.Row) (os : List Op) → c.minor ≡ 2 → c.ops ≡ os → run_all (operation X site sent c) c p b ≡ run_behind (operation X site sent c) [] os p b
  unfolding run_all
  of_version p b os minor is =
      chosen_true (c.minor == 2) _ _ (ap (λ n. n == 2) minor)
      ∙ ap (λ os. run_behind (operation X site sent c) [] os p b) is

  -- what the first SEQUENCE of a COMPOUND comes to, by what it answers
  unfoldable pub begun : (args : Sequence) (rest : List Op) (b : Both X.Row) → Outcome (Answered Sequenced) → Ran (Both X.Row)
  begun args rest b o =
      followed [] (ops.Sequence args) o.place (both (done_to b.world o) b.own) (reply_of (ops.Sequence args) (sequence_reply args) o.answer)
      (λ results. run_behind (operation X site sent c) results rest o.place (both (done_to b.world o) b.own))

  pub by_sequence : (level : ℕ) (moment : Moment) (b : Both X.Row) (args : Sequence) (rest : List Op) → c.minor ≡ 2 → c.ops ≡ ops.Sequence args ∷ rest → run_all (operation X site sent c) c (begins_at level moment) b ≡ begun args rest b (sequence args sent (begins_at level moment) b.world)
  unfolding run_behind begun
  by_sequence level moment b args rest minor is = of_version (begins_at level moment) b (ops.Sequence args ∷ rest) minor is

  -- a retry on the slot that keeps its result
  pub answered_again : (level : ℕ) (moment : Moment) (b : Both X.Row) (args : Sequence) (rest : List Op) (x : Session) (slot : SlotRow) (reply : List ℕ) → c.minor ≡ 2 → c.ops ≡ ops.Sequence args ∷ rest → Names level b.world args sent x slot → sent.count ≤ x.channel.max_operations → slot ≡ record { sequence = args.sequence; kept = Some (record { arguments = sent.arguments; reply = reply }) } →
      served X site sent c (begins_at level moment) b ≡ record { answer = record { result = reply; denial = None }; place = begins_at level moment; state = b }
  unfolding served begun
  answered_again level moment b args rest x slot reply minor is names few same =
      ap (kept_after sent c) (by_sequence level moment b args rest minor is ∙ ap (begun args rest b) (on_named level moment b.world args sent x slot names few ∙ slot_again (begins_at level moment) b.world args sent x reply slot same))

  -- one that counts more operations than its session grants
  pub refused_again : (level : ℕ) (moment : Moment) (b : Both X.Row) (args : Sequence) (rest : List Op) (x : Session) (slot : SlotRow) → c.minor ≡ 2 → c.ops ≡ ops.Sequence args ∷ rest → Names level b.world args sent x slot → x.channel.max_operations < sent.count →
      served X site sent c (begins_at level moment) b ≡ record { answer = too_many c args; place = begins_at level moment; state = b }
  unfolding served begun
  refused_again level moment b args rest x slot minor is names many =
      ap (kept_after sent c) (by_sequence level moment b args rest minor is ∙ ap (begun args rest b) (on_many level moment b.world args sent x slot names many))

-- ---- a CREATE_SESSION

module _ (X : Extra) (site : Site) (sent : Sent) (c : Compound) where
  unfoldable pub created_from : CreateSession → List Op → Both X.Row → Outcome Reply → Ran (Both X.Row)
  created_from args rest b o =
      followed [] (ops.CreateSession args) o.place (both (done_to b.world o) b.own) o.answer
      (λ results. run_behind (operation X site sent c) results rest o.place (both (done_to b.world o) b.own))

  pub by_created : (level : ℕ) (moment : Moment) (b : Both X.Row) (args : CreateSession) (rest : List Op) → c.minor ≡ 2 → c.count ≡ 1 → c.ops ≡ ops.CreateSession args ∷ rest → run_all (operation X site sent c) c (begins_at level moment) b ≡ created_from args rest b (create_session_in sent args (begins_at level moment) b.world)
  unfolding run_behind created_from
  by_created level moment b args rest minor count is =
      let p = begins_at level moment in
      let t = on_world (deed_of (row site sent (ops.CreateSession args))) p b in
      of_version X site sent c p b (ops.CreateSession args ∷ rest) minor is
      ∙ ap (λ (alone : Bool). let u = admitted (ops.CreateSession args) p b (or_else (unless alone gates.Session NFS4ERR_NOT_ONLY_OP) None) t in
      followed [] (ops.CreateSession args) u.place u.state u.answer (λ results. run_behind (operation X site sent c) results rest u.place u.state)) (ap (λ n. n == 1) count)

  created_kept : (level : ℕ) (moment : Moment) (w : World) (args : CreateSession) (client : Client) (reply : List ℕ) → (client_named args.client).level ≡ level → client_at w.clients (client_named args.client) ≡ Some client → args.sequence ≡ sequence_before client.sequence → client.kept ≡ Some (record { arguments = sent.arguments; reply = reply }) →
      create_session args sent.arguments (begins_at level moment) w ≡ done (begins_at level moment) (MadeBefore reply) []
  created_kept level moment w args client reply own there last kept =
      let p = begins_at level moment in
      let k : Stored = record { arguments = sent.arguments; reply = reply } in
      chosen_true ((client_named args.client).level == level) _ (refuse p (gates.Monitor M9) NFS4ERR_STALE_CLIENTID) (grind (arith, nat_tests, own))
      ∙ ap (λ o. where_there o (created args sent.arguments p w) (refuse p gates.Session NFS4ERR_STALE_CLIENTID)) there
      ∙ ap (λ o. in_order p (sequence_before client.sequence) client.sequence o args.sequence sent.arguments (λ reply. done p (MadeBefore reply) []) (made args p w client)) kept
      ∙ in_order_again p (sequence_before client.sequence) client.sequence k args.sequence sent.arguments (λ reply. done p (MadeBefore reply) []) (made args p w client)
      (ap (λ n. n == sequence_before client.sequence) last ∙ equal_itself (sequence_before client.sequence)) (bytes_itself sent.arguments)

  -- a CREATE_SESSION under the last sequence of its record
  pub created_again : (level : ℕ) (moment : Moment) (b : Both X.Row) (args : CreateSession) (rest : List Op) (client : Client) (reply : List ℕ) → c.minor ≡ 2 → c.count ≡ 1 → c.ops ≡ ops.CreateSession args ∷ rest →
      (client_named args.client).level ≡ level → client_at b.world.clients (client_named args.client) ≡ Some client → args.sequence ≡ sequence_before client.sequence → client.kept ≡ Some (record { arguments = sent.arguments; reply = reply }) →
      served X site sent c (begins_at level moment) b ≡ record { answer = record { result = reply; denial = None }; place = begins_at level moment; state = b }
  unfolding served created_from
  created_again level moment b args rest client reply minor count is own there last kept =
      let p = begins_at level moment in
      ap (kept_after sent c) (by_created level moment b args rest minor count is
      ∙ ap (λ (o : Outcome (Answered Created)). created_from args rest b (record { answer = under (created_keeper args p b.world) (reply_of (ops.CreateSession args) (created_reply level args) o.answer); place = o.place; changes = o.changes }))
      (created_kept level moment b.world args client reply own there last kept))
