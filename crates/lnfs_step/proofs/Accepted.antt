-- What slots keep was accepted: a step keeps that, and so it holds after a journal.
use Rattle.std.proofs.Common.{◌≡◌, List, [], ◌∷◌, refl, sym, subst, true, Some, Ok, ◌∙◌, ℕ}
use Rattle.std.specs.List.{AllByRecursion}
use Rattle.lnfs_calipso.specs.Label.{IsPreorderWithBottom}
use Rattle.lnfs_types.specs.declared.event.Event.{Event}
use Rattle.lnfs_policy.specs.Policy.{Policy, dominance}
use Rattle.lnfs_policy.specs.PolicyText.{policy_of}
use Rattle.lnfs_world.specs.World.{World}
use Rattle.lnfs_world.specs.Both.{Both}
use Rattle.lnfs_operations.specs.Accepted.{IsSent, SessionAccepted, AllAccepted}
use Rattle.lnfs_operations.specs.Extra.{Extra, AreLawful}
use Rattle.lnfs_operations.specs.Bounds.{Bounds}
use Rattle.lnfs_operations.specs.Sizes.{is_level}
use Rattle.lnfs_operations.proofs.AcceptedLaws.{served_accepted}
use Rattle.lnfs_gss3.specs.Mechanism.{Signing}
use Rattle.lnfs_site.specs.Site.{site_of}
use Rattle.lnfs_site.proofs.FirstWorlds.{first_bare}
use Rattle.lnfs_step.specs.Contexts.{is_there}
use Rattle.lnfs_step.specs.Journal.{Holds, first_state, state_from, state_after}
use Rattle.lnfs_step.specs.Request.{Call, Task, Garbled, Run, MakeContext, EndContext, Request, Silent, Refused, Nothing, Asked, request_with}
use Rattle.lnfs_step.specs.Step.{Step, done_for, step_of, step_with, sent_of}
use Rattle.lnfs_step.proofs.Compounds.{compound_read}
use Rattle.lnfs_step.proofs.ContextLaws.{Beside}
use Rattle.lnfs_step.proofs.FirstBounds.{first_bounds}
use Rattle.lnfs_step.proofs.FirstSizes.{labels_fit}
use Rattle.lnfs_step.proofs.Requests.{IsTask, Reads, level_in, request_level, request_reads}
use Rattle.lnfs_step.proofs.SiteLevels.{event_level}
use Rattle.lnfs_step.proofs.StepBounds.{step_bounds}
use Rattle.lnfs_step.proofs.Steps.{chosen_any, begins, keeps, first_holds, made_beside, ended_beside}

module _ (X : Extra) (owed : AreLawful X) (m : Signing) (p : Policy) (lattice : IsPreorderWithBottom (dominance p)) (text : List ℕ) (is : policy_of text ≡ Ok p) where
  -- contexts keep no results
  accepted_beside : (a b : World) → Beside a b → AllAccepted X.grammar a → AllAccepted X.grammar b
  accepted_beside a b beside all = subst (AllByRecursion (SessionAccepted X.grammar)) (sym beside.sessions) all

  task_accepted : (event : Event) (call : Call) (task : Task) (b : Both X.Row) → is_level (site_of p) call.level ≡ true → IsTask X.grammar task → Holds X p b → Bounds (site_of p) b.world → AllAccepted X.grammar b.world → AllAccepted X.grammar (done_for X m p b event call task).state.world
  task_accepted event call Garbled b level read holds bounds all = all
  task_accepted event call (Run arguments c) b level read holds bounds all =
      let sends : IsSent X.grammar (sent_of event arguments c) c = record { read = read; count = refl } in
      served_accepted X owed (site_of p) lattice (labels_fit p) (sent_of event arguments c) c call.level event.moment b (begins X owed m p lattice call.level event.moment b holds) level bounds (compound_read X.grammar arguments c read) sends all
  task_accepted event call (MakeContext parent assertion) b level read holds bounds all = accepted_beside _ _ (made_beside X m p b event call parent assertion) all
  task_accepted event call (EndContext number) b level read holds bounds all = accepted_beside _ _ (ended_beside X m p b event call number) all

  request_accepted : (event : Event) (r : Request) (b : Both X.Row) → ((l : ℕ) → level_in r ≡ Some l → is_level (site_of p) l ≡ true) → Reads X.grammar r → Holds X p b → Bounds (site_of p) b.world → AllAccepted X.grammar b.world → AllAccepted X.grammar (step_of X m p b event r).state.world
  request_accepted event Silent b level read holds bounds all = all
  request_accepted event (Refused xid w cause) b level read holds bounds all = all
  request_accepted event (Nothing xid) b level read holds bounds all = all
  request_accepted event (Asked call task) b level read holds bounds all =
      chosen_any (λ (s : Step (Both X.Row)). AllAccepted X.grammar s.state.world) (is_there b.world.contexts call.level call.context) _ _ (task_accepted event call task b (level call.level refl) read holds bounds all) all

  pub step_accepted : (event : Event) (b : Both X.Row) → Holds X p b → Bounds (site_of p) b.world → AllAccepted X.grammar b.world → AllAccepted X.grammar (step_with X m p b event).state.world
  unfolding step_with
  step_accepted event b holds bounds all =
      request_accepted event (request_with X.grammar m p event.class event.message) b
      (λ l is_l. event_level p text is m event.class event.message l (sym (request_level X.grammar m p event.class event.message) ∙ is_l))
      (request_reads X.grammar m p event.class event.message) holds bounds all

  from_accepted : (journal : List Event) (b : Both X.Row) → Holds X p b → Bounds (site_of p) b.world → AllAccepted X.grammar b.world → AllAccepted X.grammar (state_from X m p b journal).world
  unfolding state_from
  from_accepted [] b holds bounds all = all
  from_accepted (event ∷ journal) b holds bounds all = from_accepted journal (step_with X m p b event).state (keeps X owed m p lattice event b holds) (step_bounds X owed m p text is event b holds bounds) (step_accepted event b holds bounds all)

  -- before all events there are no sessions
  pub first_accepted : AllAccepted X.grammar (first_state X p).world
  first_accepted = subst (AllByRecursion (SessionAccepted X.grammar)) (sym (first_bare p).sessions) tt

  pub accepted_after : (journal : List Event) → AllAccepted X.grammar (state_after X m p journal).world
  accepted_after journal = from_accepted journal (first_state X p) (first_holds X owed m p lattice) (first_bounds p text is) first_accepted
