-- An event of which no operation names a session leaves its row, unless a CREATE_SESSION takes the place of its client's
-- record.
use Rattle.std.proofs.Common.{◌≡◌, false, ap, ◌∙◌}
use Rattle.lnfs_calipso.specs.Label.{IsPreorderWithBottom}
use Rattle.lnfs_types.specs.declared.event.Event.{Event}
use Rattle.lnfs_policy.specs.Policy.{Policy, dominance}
use Rattle.lnfs_world.specs.World.{Session, World, session_at}
use Rattle.lnfs_world.specs.Both.{Both}
use Rattle.lnfs_operations.specs.Extra.{Extra, AreLawful}
use Rattle.lnfs_operations.specs.Named.{names_session, replaces_client_of}
use Rattle.lnfs_operations.proofs.OtherSessions.{IsThere, other_stays}
use Rattle.lnfs_gss3.specs.Mechanism.{Signing}
use Rattle.lnfs_site.specs.Site.{site_of}
use Rattle.lnfs_step.specs.Contexts.{is_there}
use Rattle.lnfs_step.specs.Journal.{Holds}
use Rattle.lnfs_step.specs.Named.{some_operation}
use Rattle.lnfs_step.specs.Request.{Call, Task, Garbled, Run, MakeContext, EndContext, Request, Silent, Refused, Nothing, Asked, request_with}
use Rattle.lnfs_step.specs.Step.{Step, done_for, step_of, step_with, sent_of}
use Rattle.lnfs_step.proofs.ContextLaws.{Beside}
use Rattle.lnfs_step.proofs.Steps.{chosen_any, begins, made_beside, ended_beside}

module _ (X : Extra) (owed : AreLawful X) (m : Signing) (p : Policy) (lattice : IsPreorderWithBottom (dominance p)) (event : Event) (b : Both X.Row) (holds : Holds X p b) (x : Session) (there : IsThere x b.world) where
  -- contexts are no sessions
  beside_there : (w : World) → Beside b.world w → IsThere x w
  beside_there w beside = ap (λ xs. session_at xs x.id) beside.sessions ∙ there

  task_there : (call : Call) (task : Task) → some_operation (names_session x.id) (Asked call task) ≡ false → some_operation (replaces_client_of b.world x) (Asked call task) ≡ false →
      IsThere x (done_for X m p b event call task).state.world
  task_there call Garbled named replaced = there
  task_there call (Run arguments c) named replaced =
      other_stays X owed (site_of p) lattice (sent_of event arguments c) c call.level event.moment b (begins X owed m p lattice call.level event.moment b holds) x there named replaced
  task_there call (MakeContext parent assertion) named replaced = beside_there _ (made_beside X m p b event call parent assertion)
  task_there call (EndContext number) named replaced = beside_there _ (ended_beside X m p b event call number)

  request_there : (r : Request) → some_operation (names_session x.id) r ≡ false → some_operation (replaces_client_of b.world x) r ≡ false → IsThere x (step_of X m p b event r).state.world
  request_there Silent named replaced = there
  request_there (Refused xid w cause) named replaced = there
  request_there (Nothing xid) named replaced = there
  request_there (Asked call task) named replaced =
      chosen_any (λ (s : Step (Both X.Row)). IsThere x s.state.world) (is_there b.world.contexts call.level call.context) _ _ (task_there call task named replaced) there

  pub event_there : some_operation (names_session x.id) (request_with X.grammar m p event.class event.message) ≡ false → some_operation (replaces_client_of b.world x) (request_with X.grammar m p event.class event.message) ≡ false →
      IsThere x (step_with X m p b event).state.world
  unfolding step_with
  event_there named replaced = request_there (request_with X.grammar m p event.class event.message) named replaced
