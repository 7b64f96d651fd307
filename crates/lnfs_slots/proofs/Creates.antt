-- A CREATE_SESSION of the client, over any state: lost, stale and retry.
use Rattle.std.proofs.Common.{◌≡◌, ℕ, ◌+◌, ◌≤◌, Bool, true, false, cond, ◌&&◌, List, [], ◌∷◌, Option, Some, None, refl, ◌∙◌, ap, arith}
use Rattle.std.specs.Prelude.{◌==◌}
use Rattle.std.specs.Str.{bytes_eq}
use Rattle.std.proofs.lemmas.Bool.Decides.{nat_tests}
use Rattle.lnfs_types.specs.declared.event.Moment.{Moment}
use Rattle.lnfs_arguments.specs.declared.types.Op.TheVariants as ops
use Rattle.lnfs_arguments.specs.declared.types.Compound.{Compound as Asking}
use Rattle.lnfs_arguments.specs.declared.types.CreateSession.{CreateSession}
use Rattle.lnfs_arguments.specs.declared.statuses.TheConstants.{NFS4ERR_NOT_ONLY_OP, NFS4ERR_STALE_CLIENTID, NFS4ERR_SEQ_FALSE_RETRY, NFS4ERR_SEQ_MISORDERED}
use Rattle.lnfs_monitor.specs.declared.rule.Rule.TheVariants.{M9}
use Rattle.lnfs_world.specs.World.{Kept as Stored, Client as ClientRow, client_at}
use Rattle.lnfs_world.specs.Outcome.{Site, Place, Outcome, begins_at, done_to}
use Rattle.lnfs_world.specs.Lawful.{Turn, deed_of}
use Rattle.lnfs_world.specs.Both.{Both, both, on_world}
use Rattle.lnfs_world.specs.declared.numbers.TheConstants.{LAST_SEQUENCE}
use Rattle.lnfs_operations.specs.declared.Gate.TheVariants as gates
use Rattle.lnfs_operations.specs.Chain.{Answer as Answered, refuse, done, demand, where_there}
use Rattle.lnfs_operations.specs.Identifiers.{client_named}
use Rattle.lnfs_operations.specs.InOrder.{sequence_before}
use Rattle.lnfs_operations.specs.CreateSession.{Created, Again, made, created, create_session, is_next_of}
use Rattle.lnfs_operations.specs.Sequence.{Sent}
use Rattle.lnfs_operations.specs.Extra.{Extra}
use Rattle.lnfs_operations.specs.Results.{failed}
use Rattle.lnfs_operations.specs.Admission.{or_else, unless}
use Rattle.lnfs_operations.specs.Served.{Keeper, Nowhere, Record, reply_of, under, created_keeper, created_reply, row, admitted, operation}
use Rattle.lnfs_operations.specs.SlotRule.{Answer, Ran, followed, new_result, run_behind, run_all, kept_after, served}
use Rattle.lnfs_operations.proofs.Retries.{chosen_true, chosen_false}
use Rattle.lnfs_slots.specs.OneClient.{is_keeping}

-- an outcome that is old: a refusal, or the reply that was kept
pub data IsOld (p : Place) (o : Outcome (Answered Created)) : Type 0 where
  refusal : (status : ℕ) → o ≡ refuse p gates.Session status → IsOld p o
  kept : (reply : List ℕ) → o ≡ done p (Again reply) [] → IsOld p o

-- a record's next sequence, where it has not come to the last
pub next_is : (n : ℕ) → sequence_before n + 1 ≤ LAST_SEQUENCE → n ≡ sequence_before n + 1
next_is n soon = grind (arith, nat_tests, soon)

module _ (X : Extra) (site : Site) (sent : Sent) (c : Asking) (args : CreateSession) (level : ℕ) (moment : Moment) (b : Both X.Row) (minor : c.minor ≡ 2) (count : c.count ≡ 1) (only : c.ops ≡ ops.CreateSession args ∷ []) (own : (client_named args.client).level ≡ level) where
  abbrev p : Place
  p = begins_at level moment

  -- what the COMPOUND comes to, by what its CREATE_SESSION comes to
  abbrev pub ran_from : Keeper → Outcome (Answered Created) → Ran (Both X.Row)
  ran_from keeper o =
      followed [] (ops.CreateSession args) o.place (both (done_to b.world o) b.own) (under keeper (reply_of (ops.CreateSession args) (created_reply level args) o.answer))
      (λ results. record { place = o.place; state = both (done_to b.world o) b.own; results = results; denial = None; again = None; keeper = Nowhere })

  pub ran_is : (keeper : Keeper) (o : Outcome (Answered Created)) → created_keeper args p b.world ≡ keeper → create_session args sent.arguments p b.world ≡ o → run_all (operation X site sent c) c p b ≡ ran_from keeper o
  unfolding run_all run_behind
  ran_is keeper o keeps is =
      let t = on_world (deed_of (row site sent (ops.CreateSession args))) p b in
      chosen_true (c.minor == 2) _ _ (ap (λ n. n == 2) minor)
      ∙ ap (λ os. run_behind (operation X site sent c) [] os p b) only
      ∙ ap (λ (alone : Bool). let u = admitted (ops.CreateSession args) p b (or_else (unless alone gates.Session NFS4ERR_NOT_ONLY_OP) None) t in
      followed [] (ops.CreateSession args) u.place u.state u.answer (λ results. run_behind (operation X site sent c) results [] u.place u.state)) (ap (λ n. n == 1) count)
      ∙ (λ k. ran_from (keeps k) (is k))

  pub record IsQuiet : Type 0 where
    pub state : (served X site sent c p b).state ≡ b
    pub keeps : is_keeping (run_all (operation X site sent c) c p b).keeper ≡ false

  pub served_as : (keeper : Keeper) (o : Outcome (Answered Created)) → created_keeper args p b.world ≡ keeper → create_session args sent.arguments p b.world ≡ o → served X site sent c p b ≡ kept_after sent c (ran_from keeper o)
  unfolding served
  served_as keeper o keeps is = ap (kept_after sent c) (ran_is keeper o keeps is)

  pub refused_result : (status : ℕ) → created_keeper args p b.world ≡ Nowhere → create_session args sent.arguments p b.world ≡ refuse p gates.Session status → (served X site sent c p b).answer.result ≡ new_result c (failed (ops.CreateSession args) status ∷ [])
  refused_result status keeps is = ap (λ (t : Turn Answer (Both X.Row)). t.answer.result) (served_as Nowhere (refuse p gates.Session status) keeps is)

  pub old_quiet : (o : Outcome (Answered Created)) → created_keeper args p b.world ≡ Nowhere → create_session args sent.arguments p b.world ≡ o → IsOld p o → IsQuiet
  old_quiet o keeps is (refusal status e) = record {
    state = ap (λ (t : Turn Answer (Both X.Row)). t.state) (served_as Nowhere (refuse p gates.Session status) keeps (is ∙ e));
    keeps = ap (λ (r : Ran (Both X.Row)). is_keeping r.keeper) (ran_is Nowhere (refuse p gates.Session status) keeps (is ∙ e));
  }
  old_quiet o keeps is (kept reply e) = record {
    state = ap (λ (t : Turn Answer (Both X.Row)). t.state) (served_as Nowhere (done p (Again reply) []) keeps (is ∙ e));
    keeps = ap (λ (r : Ran (Both X.Row)). is_keeping r.keeper) (ran_is Nowhere (done p (Again reply) []) keeps (is ∙ e));
  }

  -- the record that it names
  pub of_record : (o : Option ClientRow) → client_at b.world.clients (client_named args.client) ≡ o → create_session args sent.arguments p b.world ≡ where_there o (created args sent.arguments p b.world) (refuse p gates.Session NFS4ERR_STALE_CLIENTID)
  of_record o is =
      chosen_true ((client_named args.client).level == level) _ (refuse p (gates.Monitor M9) NFS4ERR_STALE_CLIENTID) (grind (arith, nat_tests, own))
      ∙ ap (λ o. where_there o (created args sent.arguments p b.world) (refuse p gates.Session NFS4ERR_STALE_CLIENTID)) is

  not_next : (o : Option ClientRow) → client_at b.world.clients (client_named args.client) ≡ o → is_next_of args.sequence o ≡ false → created_keeper args p b.world ≡ Nowhere
  not_next o is apart =
      let next : is_next_of args.sequence (client_at b.world.clients (client_named args.client)) ≡ false = ap (is_next_of args.sequence) is ∙ apart in
      chosen_false ((client_named args.client).level == level && is_next_of args.sequence (client_at b.world.clients (client_named args.client))) (Record (client_named args.client).number) Nowhere (grind (arith, next))

  -- no record is there
  pub lost_quiet : client_at b.world.clients (client_named args.client) ≡ None → IsQuiet × ((served X site sent c p b).answer.result ≡ new_result c (failed (ops.CreateSession args) NFS4ERR_STALE_CLIENTID ∷ []))
  lost_quiet none =
      let keeps = not_next None none refl in
      let is = of_record None none in
      (old_quiet (refuse p gates.Session NFS4ERR_STALE_CLIENTID) keeps is (refusal NFS4ERR_STALE_CLIENTID refl), refused_result NFS4ERR_STALE_CLIENTID keeps is)

  -- a sequence that is not new
  pub stale_quiet : (client : ClientRow) → client_at b.world.clients (client_named args.client) ≡ Some client → args.sequence ≤ sequence_before client.sequence → sequence_before client.sequence + 1 ≤ LAST_SEQUENCE → IsQuiet
  stale_quiet client there below soon = old_quiet (created args sent.arguments p b.world client) (not_next (Some client) there apart) (of_record (Some client) there) (at (cond (args.sequence == sequence_before client.sequence) client.kept None))
    where
      apart : (args.sequence == client.sequence) ≡ false
      apart = let next = next_is client.sequence soon in grind (arith, nat_tests, below, next)

      either : (t : Bool) (reply : List ℕ) → IsOld p (cond t (done p (Again reply) []) (refuse p gates.Session NFS4ERR_SEQ_FALSE_RETRY))
      either true reply = kept reply refl
      either false reply = refusal NFS4ERR_SEQ_FALSE_RETRY refl

      at : (o : Option Stored) → IsOld p (where_there o (λ j. demand (bytes_eq j.arguments sent.arguments) (refuse p gates.Session NFS4ERR_SEQ_FALSE_RETRY) (done p (Again j.reply) [])) (demand (args.sequence == client.sequence) (refuse p gates.Session NFS4ERR_SEQ_MISORDERED) (made args p b.world client)))
      at None = refusal NFS4ERR_SEQ_MISORDERED (chosen_false (args.sequence == client.sequence) (made args p b.world client) (refuse p gates.Session NFS4ERR_SEQ_MISORDERED) apart)
      at (Some j) = either (bytes_eq j.arguments sent.arguments) j.reply
