-- Each event keeps the bounds of rows, and no last number falls.
use Rattle.std.proofs.Common.{◌≡◌, ℕ, Bool, true, List, [], ◌∷◌, Option, Some, Ok, refl, sym, subst, ◌∙◌}
use Rattle.std.proofs.lemmas.Bool.{and_parts}
use Rattle.lnfs_calipso.specs.Label.{IsPreorderWithBottom}
use Rattle.lnfs_types.specs.declared.event.Event.{Event}
use Rattle.lnfs_policy.specs.Policy.{Policy, dominance}
use Rattle.lnfs_policy.specs.PolicyText.{policy_of}
use Rattle.lnfs_policy.proofs.Site.{preordered}
use Rattle.lnfs_world.specs.World.{World}
use Rattle.lnfs_world.specs.Facts.{Facts}
use Rattle.lnfs_world.specs.Outcome.{Place, Outcome, IsFootprint, begins_at, done_to}
use Rattle.lnfs_world.specs.Tame.{Tame}
use Rattle.lnfs_world.specs.Lawful.{deed_of}
use Rattle.lnfs_world.specs.Both.{Both, on_world}
use Rattle.lnfs_world.proofs.Tamed.{tame_itself, tamed_all}
use Rattle.lnfs_world.proofs.Within.{within_all}
use Rattle.lnfs_operations.specs.Bounds.{Bounds}
use Rattle.lnfs_operations.specs.Sizes.{is_level}
use Rattle.lnfs_operations.specs.Extra.{Extra, AreLawful}
use Rattle.lnfs_operations.specs.Sizes.{SessionFits, ClientFits, NodeFits, Sizes}
use Rattle.std.specs.List.{AllByRecursion}
use Rattle.lnfs_operations.proofs.BoundChanges.{AllBring, all_keep}
use Rattle.lnfs_operations.proofs.SizeLaws.{served_bounds}
use Rattle.lnfs_operations.proofs.BoundRows.{next_given}
use Rattle.lnfs_operations.proofs.Chains.{demand_any}
use Rattle.lnfs_operations.proofs.LastLaws.{served_tame}
use Rattle.lnfs_gss3.specs.Contexts.{lists_of, has_context_left}
use Rattle.lnfs_gss3.specs.Mechanism.{Signing}
use Rattle.lnfs_site.specs.Site.{site_of}
use Rattle.lnfs_step.specs.Contexts.{is_there, make_context, end_context}
use Rattle.lnfs_step.specs.Journal.{Holds, IsKept, first_state, state_from, state_after}
use Rattle.lnfs_step.specs.Request.{Call, Task, Garbled, Run, MakeContext, EndContext, Request, Silent, Refused, Nothing, Asked, request_with}
use Rattle.lnfs_step.specs.Step.{Step, done_for, step_of, step_with, sent_of}
use Rattle.lnfs_step.proofs.Compounds.{compound_read}
use Rattle.lnfs_step.proofs.ContextLaws.{Beside, make_beside, end_beside, make_context_footprint, end_context_footprint}
use Rattle.lnfs_step.proofs.FirstBounds.{first_bounds}
use Rattle.lnfs_step.proofs.FirstSizes.{labels_fit}
use Rattle.lnfs_step.proofs.Requests.{IsTask, Reads, level_in, request_level, request_reads}
use Rattle.lnfs_step.proofs.SiteLevels.{event_level}
use Rattle.lnfs_step.proofs.Steps.{chosen_any, made_state, begins, keeps, first_holds, holds_after}

-- contexts have no sizes
sizes_beside : (a b : World) → Beside a b → Sizes a → Sizes b
sizes_beside a b beside sizes = record {
  sessions = subst (AllByRecursion SessionFits) (sym beside.sessions) sizes.sessions;
  clients = subst (AllByRecursion ClientFits) (sym beside.clients) sizes.clients;
  nodes = subst (AllByRecursion NodeFits) (sym beside.nodes) sizes.nodes;
}

-- what holds of the changes of an act holds of what it leaves
within_tame : {A : Type 0} (dom : ℕ → ℕ → Bool) (p : Place) (w : World) (o : Outcome A) → IsFootprint dom p w o → Tame w (done_to w o)
within_tame dom p w o is = tamed_all dom p.subject o.changes w (within_all dom p.subject o.changes w is.within)

module _ (X : Extra) (owed : AreLawful X) (m : Signing) (p : Policy) (lattice : IsPreorderWithBottom (dominance p)) where
  -- ---- no last number falls

  task_tame : (event : Event) (call : Call) (task : Task) (b : Both X.Row) → Holds X p b → Tame b.world (done_for X m p b event call task).state.world
  task_tame event call Garbled b holds = tame_itself b.world
  task_tame event call (Run arguments c) b holds = served_tame X owed (site_of p) lattice (sent_of event arguments c) c (begins_at call.level event.moment) b (begins X owed m p lattice call.level event.moment b holds)
  task_tame event call (MakeContext parent assertion) b holds =
      let place = begins_at call.level event.moment in
      let t = on_world (deed_of (make_context parent)) place b in
      subst (λ (v : Both X.Row). Tame b.world v.world) (sym (made_state m call parent assertion t.answer t.state))
      (within_tame (dominance p) place b.world (make_context parent place b.world) (make_context_footprint (dominance p) parent place b.world (begins X owed m p lattice call.level event.moment b holds).world))
  task_tame event call (EndContext number) b holds =
      let place = begins_at call.level event.moment in
      within_tame (dominance p) place b.world (end_context number place b.world) (end_context_footprint (dominance p) number place b.world (begins X owed m p lattice call.level event.moment b holds).world)

  of_tame : (event : Event) (r : Request) (b : Both X.Row) → Holds X p b → Tame b.world (step_of X m p b event r).state.world
  of_tame event Silent b holds = tame_itself b.world
  of_tame event (Refused xid w cause) b holds = tame_itself b.world
  of_tame event (Nothing xid) b holds = tame_itself b.world
  of_tame event (Asked call task) b holds =
      chosen_any (λ (s : Step (Both X.Row)). Tame b.world s.state.world) (is_there b.world.contexts call.level call.context) _ _ (task_tame event call task b holds) (tame_itself b.world)

  pub step_tame : (event : Event) (b : Both X.Row) → Holds X p b → Tame b.world (step_with X m p b event).state.world
  unfolding step_with
  step_tame event b holds = of_tame event (request_with X.grammar m p event.class event.message) b holds

module _ (X : Extra) (owed : AreLawful X) (m : Signing) (p : Policy) (text : List ℕ) (is : policy_of text ≡ Ok p) where
  lattice : IsPreorderWithBottom (dominance p)
  lattice = preordered p

  -- ---- contexts

  -- changes that leave all but contexts
  beside_bounds : {A : Type 0} (q : Place) (w : World) (o : Outcome A) → Facts (dominance p) w → IsFootprint (dominance p) q w o → Beside w (done_to w o) → AllBring (site_of p) w o.changes → Bounds (site_of p) w → Bounds (site_of p) (done_to w o)
  beside_bounds q w o facts footprint beside brings bounds =
      let kept = all_keep (site_of p) lattice q.subject o.changes w facts (within_all (dominance p) q.subject o.changes w footprint.within) brings (record { rows = bounds.rows; counts = bounds.counts }) in
      record { sizes = sizes_beside w _ beside bounds.sizes; rows = kept.rows; counts = kept.counts }

  make_brings : (parent : ℕ) (q : Place) (w : World) → is_level (site_of p) q.subject ≡ true → AllBring (site_of p) w (make_context parent q w).changes
  make_brings parent q w level = demand_any (λ (o : Outcome (Option ℕ)). AllBring (site_of p) w o.changes) (has_context_left (lists_of w) q.subject) _ _ tt (λ left.
      (next_given (site_of p) w.lasts.contexts q.subject level (and_parts _ _ left).1, tt))

  -- ---- an event

  task_bounds : (event : Event) (call : Call) (task : Task) (b : Both X.Row) → is_level (site_of p) call.level ≡ true → IsTask X.grammar task → Holds X p b → Bounds (site_of p) b.world → Bounds (site_of p) (done_for X m p b event call task).state.world
  task_bounds event call Garbled b level read holds bounds = bounds
  task_bounds event call (Run arguments c) b level read holds bounds =
      served_bounds X owed (site_of p) lattice (labels_fit p) (sent_of event arguments c) c call.level event.moment b (begins X owed m p lattice call.level event.moment b holds) level bounds
      (compound_read X.grammar arguments c read)
  task_bounds event call (MakeContext parent assertion) b level read holds bounds =
      let place = begins_at call.level event.moment in
      let t = on_world (deed_of (make_context parent)) place b in
      let stands = (begins X owed m p lattice call.level event.moment b holds).world in
      subst (λ (v : Both X.Row). Bounds (site_of p) v.world) (sym (made_state m call parent assertion t.answer t.state))
      (beside_bounds place b.world (make_context parent place b.world) stands.facts (make_context_footprint (dominance p) parent place b.world stands) (make_beside parent place b.world) (make_brings parent place b.world level) bounds)
  task_bounds event call (EndContext number) b level read holds bounds =
      let place = begins_at call.level event.moment in
      let stands = (begins X owed m p lattice call.level event.moment b holds).world in
      beside_bounds place b.world (end_context number place b.world) stands.facts (end_context_footprint (dominance p) number place b.world stands) (end_beside number place b.world) (tt, tt) bounds

  of_bounds : (event : Event) (r : Request) (b : Both X.Row) → ((l : ℕ) → level_in r ≡ Some l → is_level (site_of p) l ≡ true) → Reads X.grammar r → Holds X p b → Bounds (site_of p) b.world → Bounds (site_of p) (step_of X m p b event r).state.world
  of_bounds event Silent b level read holds bounds = bounds
  of_bounds event (Refused xid w cause) b level read holds bounds = bounds
  of_bounds event (Nothing xid) b level read holds bounds = bounds
  of_bounds event (Asked call task) b level read holds bounds =
      chosen_any (λ (s : Step (Both X.Row)). Bounds (site_of p) s.state.world) (is_there b.world.contexts call.level call.context) _ _ (task_bounds event call task b (level call.level refl) read holds bounds) bounds

  pub step_bounds : (event : Event) (b : Both X.Row) → Holds X p b → Bounds (site_of p) b.world → Bounds (site_of p) (step_with X m p b event).state.world
  unfolding step_with
  step_bounds event b holds bounds =
      of_bounds event (request_with X.grammar m p event.class event.message) b
      (λ l is_l. event_level p text is m event.class event.message l (sym (request_level X.grammar m p event.class event.message) ∙ is_l))
      (request_reads X.grammar m p event.class event.message) holds bounds

  from_bounds : (journal : List Event) (b : Both X.Row) → Holds X p b → Bounds (site_of p) b.world → Bounds (site_of p) (state_from X m p b journal).world
  unfolding state_from
  from_bounds [] b holds bounds = bounds
  from_bounds (event ∷ journal) b holds bounds = from_bounds journal (step_with X m p b event).state (keeps X owed m p lattice event b holds) (step_bounds event b holds bounds)

  pub bounds_after : (journal : List Event) → Bounds (site_of p) (state_after X m p journal).world
  bounds_after journal = from_bounds journal (first_state X p) (first_holds X owed m p lattice) (first_bounds p text is)

  -- ---- all of it

  pub holds_of : (b : Both X.Row) → IsKept X p b → Holds X p b
  holds_of b kept = record { facts = kept.sound.facts; own = kept.own }

  pub first_kept : IsKept X p (first_state X p)
  first_kept =
      let holds = first_holds X owed m p lattice in
      record { sound = record { facts = holds.facts; bounds = first_bounds p text is }; own = holds.own }

  pub kept_after : (journal : List Event) → IsKept X p (state_after X m p journal)
  kept_after journal =
      let holds = holds_after X owed m p lattice journal in
      record { sound = record { facts = holds.facts; bounds = bounds_after journal }; own = holds.own }

  pub step_kept : (event : Event) (b : Both X.Row) → IsKept X p b → IsKept X p (step_with X m p b event).state
  step_kept event b kept =
      let holds = holds_of b kept in
      let after = keeps X owed m p lattice event b holds in
      record { sound = record { facts = after.facts; bounds = step_bounds event b holds kept.sound.bounds }; own = after.own }
