-- Labels go up alone with each event.
use Rattle.std.proofs.Common.{List, [], ◌∷◌, ◌++◌, refl, sym, ap, subst}
use Rattle.lnfs_calipso.specs.Label.{IsPreorderWithBottom}
use Rattle.lnfs_types.specs.declared.event.Event.{Event}
use Rattle.lnfs_policy.specs.Policy.{Policy, dominance}
use Rattle.lnfs_world.specs.World.{World, label_at}
use Rattle.lnfs_world.specs.Outcome.{begins_at}
use Rattle.lnfs_world.specs.Both.{Both}
use Rattle.lnfs_world.specs.Labels.{LabelsRise}
use Rattle.lnfs_world.proofs.Labels.{labels_same}
use Rattle.lnfs_operations.specs.Extra.{Extra, AreLawful}
use Rattle.lnfs_operations.proofs.LabelLaws.{served_raised}
use Rattle.lnfs_gss3.specs.Mechanism.{Signing}
use Rattle.lnfs_site.specs.Site.{site_of}
use Rattle.lnfs_step.specs.Request.{Call, Task, Garbled, Run, MakeContext, EndContext, Request, Silent, Refused, Nothing, Asked, request_with}
use Rattle.lnfs_step.specs.Contexts.{is_there}
use Rattle.lnfs_step.specs.Step.{Step, done_for, step_of, step_with, sent_of}
use Rattle.lnfs_step.specs.Journal.{Holds, first_state, state_after}
use Rattle.lnfs_step.proofs.ContextLaws.{Beside}
use Rattle.lnfs_step.proofs.Steps.{chosen_any, begins, made_beside, ended_beside, holds_after, state_from-append}

module _ (X : Extra) (owed : AreLawful X) (m : Signing) (p : Policy) (lattice : IsPreorderWithBottom (dominance p)) where
  labels_stay : (a b : World) → Beside a b → LabelsRise (dominance p) a b
  labels_stay a b beside = labels_same (dominance p) lattice a b (λ i. ap (λ nodes. label_at nodes i) beside.nodes)

  labels_itself : (w : World) → LabelsRise (dominance p) w w
  labels_itself w = labels_same (dominance p) lattice w w (λ i. refl)

  task_labels : (event : Event) (call : Call) (task : Task) (b : Both X.Row) → Holds X p b → LabelsRise (dominance p) b.world (done_for X m p b event call task).state.world
  task_labels event call Garbled b holds = labels_itself b.world
  task_labels event call (Run arguments c) b holds =
      (served_raised X owed (site_of p) lattice (sent_of event arguments c) c (begins_at call.level event.moment) b (begins X owed m p lattice call.level event.moment b holds)).labels
  task_labels event call (MakeContext parent assertion) b holds = labels_stay _ _ (made_beside X m p b event call parent assertion)
  task_labels event call (EndContext number) b holds = labels_stay _ _ (ended_beside X m p b event call number)

  of_labels : (event : Event) (r : Request) (b : Both X.Row) → Holds X p b → LabelsRise (dominance p) b.world (step_of X m p b event r).state.world
  of_labels event Silent b holds = labels_itself b.world
  of_labels event (Refused xid w cause) b holds = labels_itself b.world
  of_labels event (Nothing xid) b holds = labels_itself b.world
  of_labels event (Asked call task) b holds =
      chosen_any (λ (s : Step (Both X.Row)). LabelsRise (dominance p) b.world s.state.world) (is_there b.world.contexts call.level call.context) _ _ (task_labels event call task b holds) (labels_itself b.world)

  pub step_labels : (event : Event) (b : Both X.Row) → Holds X p b → LabelsRise (dominance p) b.world (step_with X m p b event).state.world
  unfolding step_with
  step_labels event b holds = of_labels event (request_with X.grammar m p event.class event.message) b holds

  pub labels_after : (journal : List Event) (event : Event) → LabelsRise (dominance p) (state_after X m p journal).world (state_after X m p (journal ++ event ∷ [])).world
  labels_after journal event =
      subst (λ (b : Both X.Row). LabelsRise (dominance p) (state_after X m p journal).world b.world) (sym (state_from-append X m p (first_state X p) journal event))
      (step_labels event (state_after X m p journal) (holds_after X owed m p lattice journal))
