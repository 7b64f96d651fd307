-- EXCHANGE_ID, DESTROY_SESSION and DESTROY_CLIENTID alone: the state afterwards is what the operation leaves, and nothing is kept.
use Rattle.std.proofs.Common.{◌≡◌, ℕ, Bool, false, List, [], ◌∷◌, Option, None, refl, ◌∙◌, ap}
use Rattle.std.specs.Prelude.{◌==◌}
use Rattle.lnfs_types.specs.declared.event.Moment.{Moment}
use Rattle.lnfs_arguments.specs.declared.types.Op.{Op}
use Rattle.lnfs_arguments.specs.declared.types.Op.TheVariants as ops
use Rattle.lnfs_arguments.specs.declared.types.Compound.{Compound}
use Rattle.lnfs_arguments.specs.declared.types.Implementation.{Implementation}
use Rattle.lnfs_arguments.specs.declared.statuses.TheConstants.{NFS4ERR_NOT_ONLY_OP}
use Rattle.lnfs_results.specs.declared.types.OpResult.{OpResult}
use Rattle.lnfs_results.specs.declared.types.OpResult.TheVariants as results
use Rattle.lnfs_world.specs.World.{World}
use Rattle.lnfs_world.specs.Outcome.{Site, Place, begins_at, done_to}
use Rattle.lnfs_world.specs.Lawful.{deed_of}
use Rattle.lnfs_world.specs.Both.{Both, both, on_world}
use Rattle.lnfs_operations.specs.declared.Gate.TheVariants as gates
use Rattle.lnfs_operations.specs.Chain.{Answer as Answered, Done, Refused}
use Rattle.lnfs_operations.specs.ExchangeId.{Told, exchange_id}
use Rattle.lnfs_operations.specs.DestroySession.{destroy_session}
use Rattle.lnfs_operations.specs.DestroyClientId.{destroy_clientid}
use Rattle.lnfs_operations.specs.Sequence.{Sent}
use Rattle.lnfs_operations.specs.Extra.{Extra}
use Rattle.lnfs_operations.specs.Results.{failed, told_result}
use Rattle.lnfs_operations.specs.Admission.{or_else, unless}
use Rattle.lnfs_operations.specs.Served.{Nowhere, success, reply_of, row, admitted, operation}
use Rattle.lnfs_operations.specs.SlotRule.{Ran, followed, new_result, result_of, run_behind, run_all, kept_after, served}
use Rattle.lnfs_operations.proofs.Retries.{chosen_true}
use Rattle.lnfs_slots.specs.OneClient.{is_keeping}

-- the result of an operation, by what it answers
abbrev pub result_in : {R : Type 0} → Op → (R → OpResult) → Answered R → OpResult
result_in op told (Done r) = told r
result_in op told (Refused why) = failed op why.status

-- what an operation comes to whose result is kept nowhere
module _ {R S : Type 0} (op : Op) (p : Place) (a : S) (told : R → OpResult) where
  abbrev ends_as : Answered R → Ran S
  ends_as answer = followed [] op p a (reply_of op (λ r. success (told r) Nowhere) answer) (λ rs. record { place = p; state = a; results = rs; denial = None; again = None; keeper = Nowhere })

  pub ends_state : (answer : Answered R) → (ends_as answer).state ≡ a
  ends_state (Done r) = refl
  ends_state (Refused why) = refl

  pub ends_keeper : (answer : Answered R) → (ends_as answer).keeper ≡ Nowhere
  ends_keeper (Done r) = refl
  ends_keeper (Refused why) = refl

  pub ends_result : (c : Compound) (answer : Answered R) → result_of c (ends_as answer).results (ends_as answer).again ≡ new_result c (result_in op told answer ∷ [])
  ends_result c (Done r) = refl
  ends_result c (Refused why) = refl

-- the result of an EXCHANGE_ID
abbrev pub ended_result : (level : ℕ) (verifier owner : List ℕ) (flags : ℕ) (implementation : Option Implementation) → Answered Told → OpResult
ended_result level verifier owner flags implementation answer = result_in (ops.ExchangeId verifier owner flags implementation) (told_result level) answer

module _ (X : Extra) (site : Site) (sent : Sent) (c : Compound) (level : ℕ) (moment : Moment) (b : Both X.Row) (minor : c.minor ≡ 2) (count : c.count ≡ 1) where
  abbrev p : Place
  p = begins_at level moment

  -- the world afterwards, with the rows of further operations as they were
  pub record Leaves (w : World) : Type 0 where
    pub state : (served X site sent c p b).state ≡ both w b.own
    pub keeps : is_keeping (run_all (operation X site sent c) c p b).keeper ≡ false

  -- by a run that keeps nothing
  of_run : (r : Ran (Both X.Row)) (w : World) → run_all (operation X site sent c) c p b ≡ r → r.state ≡ both w b.own → r.keeper ≡ Nowhere → Leaves w
  unfolding served
  of_run r w is state keeper = record {
    state = ap (λ (r : Ran (Both X.Row)). (kept_after sent c r).state) is ∙ (λ k. (kept_after sent c (record r { keeper = keeper k })).state) ∙ state;
    keeps = ap (λ (r : Ran (Both X.Row)). is_keeping r.keeper) is ∙ ap is_keeping keeper;
  }

  pub destroyed : (session : List ℕ) → c.ops ≡ ops.DestroySession session ∷ [] → Leaves (done_to b.world (destroy_session session p b.world))
  unfolding run_all run_behind
  destroyed session is =
      let o = destroy_session session p b.world in
      let t = on_world (deed_of (row site sent (ops.DestroySession session))) p b in
      let ran = chosen_true (c.minor == 2) _ _ (ap (λ n. n == 2) minor)
      ∙ ap (λ os. run_behind (operation X site sent c) [] os p b) is
      ∙ ap (λ (alone : Bool). let u = admitted (ops.DestroySession session) p b (or_else (unless alone gates.Session NFS4ERR_NOT_ONLY_OP) None) t in
      followed [] (ops.DestroySession session) u.place u.state u.answer (λ rs. run_behind (operation X site sent c) rs [] u.place u.state)) (ap (λ n. n == 1) count) in
      of_run (ends_as (ops.DestroySession session) o.place (both (done_to b.world o) b.own) (λ _. results.DestroySession) o.answer) (done_to b.world o) ran
      (ends_state (ops.DestroySession session) o.place (both (done_to b.world o) b.own) (λ _. results.DestroySession) o.answer)
      (ends_keeper (ops.DestroySession session) o.place (both (done_to b.world o) b.own) (λ _. results.DestroySession) o.answer)

  pub left : (client : ℕ) → c.ops ≡ ops.DestroyClientId client ∷ [] → Leaves (done_to b.world (destroy_clientid client p b.world))
  unfolding run_all run_behind
  left client is =
      let o = destroy_clientid client p b.world in
      let t = on_world (deed_of (row site sent (ops.DestroyClientId client))) p b in
      let ran = chosen_true (c.minor == 2) _ _ (ap (λ n. n == 2) minor)
      ∙ ap (λ os. run_behind (operation X site sent c) [] os p b) is
      ∙ ap (λ (alone : Bool). let u = admitted (ops.DestroyClientId client) p b (or_else (unless alone gates.Session NFS4ERR_NOT_ONLY_OP) None) t in
      followed [] (ops.DestroyClientId client) u.place u.state u.answer (λ rs. run_behind (operation X site sent c) rs [] u.place u.state)) (ap (λ n. n == 1) count) in
      of_run (ends_as (ops.DestroyClientId client) o.place (both (done_to b.world o) b.own) (λ _. results.DestroyClientId) o.answer) (done_to b.world o) ran
      (ends_state (ops.DestroyClientId client) o.place (both (done_to b.world o) b.own) (λ _. results.DestroyClientId) o.answer)
      (ends_keeper (ops.DestroyClientId client) o.place (both (done_to b.world o) b.own) (λ _. results.DestroyClientId) o.answer)

  pub exchanged : (verifier owner : List ℕ) (flags : ℕ) (implementation : _) → c.ops ≡ ops.ExchangeId verifier owner flags implementation ∷ [] → Leaves (done_to b.world (exchange_id (record { verifier = verifier; owner = owner; flags = flags }) p b.world))
  unfolding run_all run_behind
  exchanged verifier owner flags implementation is =
      let o = exchange_id (record { verifier = verifier; owner = owner; flags = flags }) p b.world in
      let t = on_world (deed_of (row site sent (ops.ExchangeId verifier owner flags implementation))) p b in
      let ran = chosen_true (c.minor == 2) _ _ (ap (λ n. n == 2) minor)
      ∙ ap (λ os. run_behind (operation X site sent c) [] os p b) is
      ∙ ap (λ (alone : Bool). let u = admitted (ops.ExchangeId verifier owner flags implementation) p b (or_else (unless alone gates.Session NFS4ERR_NOT_ONLY_OP) None) t in
      followed [] (ops.ExchangeId verifier owner flags implementation) u.place u.state u.answer (λ rs. run_behind (operation X site sent c) rs [] u.place u.state)) (ap (λ n. n == 1) count) in
      of_run (ends_as (ops.ExchangeId verifier owner flags implementation) o.place (both (done_to b.world o) b.own) (told_result level) o.answer) (done_to b.world o) ran
      (ends_state (ops.ExchangeId verifier owner flags implementation) o.place (both (done_to b.world o) b.own) (told_result level) o.answer)
      (ends_keeper (ops.ExchangeId verifier owner flags implementation) o.place (both (done_to b.world o) b.own) (told_result level) o.answer)

  pub exchanged_result : (verifier owner : List ℕ) (flags : ℕ) (implementation : Option Implementation) → c.ops ≡ ops.ExchangeId verifier owner flags implementation ∷ [] →
      (served X site sent c p b).answer.result ≡ new_result c (ended_result level verifier owner flags implementation (exchange_id (record { verifier = verifier; owner = owner; flags = flags }) p b.world).answer ∷ [])
  unfolding served run_all run_behind
  exchanged_result verifier owner flags implementation is =
      let o = exchange_id (record { verifier = verifier; owner = owner; flags = flags }) p b.world in
      let t = on_world (deed_of (row site sent (ops.ExchangeId verifier owner flags implementation))) p b in
      let ran = chosen_true (c.minor == 2) _ _ (ap (λ n. n == 2) minor)
      ∙ ap (λ os. run_behind (operation X site sent c) [] os p b) is
      ∙ ap (λ (alone : Bool). let u = admitted (ops.ExchangeId verifier owner flags implementation) p b (or_else (unless alone gates.Session NFS4ERR_NOT_ONLY_OP) None) t in
      followed [] (ops.ExchangeId verifier owner flags implementation) u.place u.state u.answer (λ rs. run_behind (operation X site sent c) rs [] u.place u.state)) (ap (λ n. n == 1) count) in
      ap (λ (r : Ran (Both X.Row)). result_of c r.results r.again) ran
      ∙ ends_result (ops.ExchangeId verifier owner flags implementation) o.place (both (done_to b.world o) b.own) (told_result level) c o.answer
