-- What holds of the rows of further operations holds after each event, if each further operation keeps it where its subject is
-- of a level of the site and the bounds of the world hold: the operations of the table leave these rows.
use Rattle.std.proofs.Common.{◌≡◌, ℕ, Bool, true, false, cond, List, [], ◌∷◌, ◌++◌, Some, Ok, refl, sym, ap, subst, ◌∙◌}
use Rattle.std.specs.Prelude.{◌==◌}
use Rattle.std.specs.List.{AllByRecursion}
use Rattle.lnfs_calipso.specs.Label.{IsPreorderWithBottom}
use Rattle.lnfs_types.specs.declared.event.Event.{Event}
use Rattle.lnfs_arguments.specs.declared.types.Op.{Op}
use Rattle.lnfs_arguments.specs.declared.types.Op.TheVariants as ops
use Rattle.lnfs_arguments.specs.declared.types.Compound.{Compound}
use Rattle.lnfs_results.specs.declared.types.OpResult.{OpResult}
use Rattle.lnfs_policy.specs.Policy.{Policy, dominance}
use Rattle.lnfs_policy.specs.PolicyText.{policy_of}
use Rattle.lnfs_policy.proofs.Site.{preordered}
use Rattle.lnfs_world.specs.Both.{Both, both_seen, BothStand, on_world}
use Rattle.lnfs_world.specs.Lawful.{Turn, Deed, deed_of}
use Rattle.lnfs_world.specs.Outcome.{Site, Place, begins_at}
use Rattle.lnfs_operations.specs.Admission.{admission}
use Rattle.lnfs_operations.specs.Bounds.{Bounds}
use Rattle.lnfs_operations.specs.Extra.{Extra, AreLawful, further_deed}
use Rattle.lnfs_operations.specs.Sequence.{Sent}
use Rattle.lnfs_operations.specs.Served.{Reply, row, row_in, further_reply, operation}
use Rattle.lnfs_operations.specs.Sizes.{IsOpRead, IsRead, LabelsFit, is_level}
use Rattle.lnfs_operations.specs.SlotRule.{Ran, run_behind, run_all, served}
use Rattle.lnfs_operations.proofs.BoundLaws.{operation_bounds}
use Rattle.lnfs_operations.proofs.Once.{admitted_any}
use Rattle.lnfs_operations.proofs.ServedLaws.{operation_lawful}
use Rattle.lnfs_operations.proofs.SlotRules.{followed_any}
use Rattle.lnfs_gss3.specs.Mechanism.{Signing}
use Rattle.lnfs_site.specs.Site.{site_of}
use Rattle.lnfs_step.specs.Contexts.{is_there, make_context}
use Rattle.lnfs_step.specs.Journal.{Holds, first_state, state_from, state_after}
use Rattle.lnfs_step.specs.Request.{Call, Task, Garbled, Run, MakeContext, EndContext, Request, Silent, Refused, Nothing, Asked, request_with}
use Rattle.lnfs_step.specs.Step.{Step, done_for, step_of, step_with, sent_of}
use Rattle.lnfs_step.proofs.Compounds.{compound_read}
use Rattle.lnfs_step.proofs.FirstBounds.{first_bounds}
use Rattle.lnfs_step.proofs.FirstSizes.{labels_fit}
use Rattle.lnfs_step.proofs.Requests.{IsTask, Reads, level_in, request_level, request_reads}
use Rattle.lnfs_step.proofs.SiteLevels.{event_level}
use Rattle.lnfs_step.proofs.StepBounds.{step_bounds}
use Rattle.lnfs_step.proofs.Steps.{chosen_any, made_state, begins, keeps, first_holds}

-- each further operation keeps it
abbrev pub KeepsOwn : (X : Extra) → Site → (List X.Row → Type 0) → Type 0
KeepsOwn X site Own =
    (number : ℕ) (arguments : List ℕ) (p : Place) (b : Both X.Row) → BothStand X.Fact site.dom p b → is_level site p.subject ≡ true → Bounds site b.world → Own b.own →
    Own (further_deed X site number arguments p b).state.own

-- ---- a COMPOUND

module _ (X : Extra) (owed : AreLawful X) (site : Site) (lattice : IsPreorderWithBottom site.dom) (labels : LabelsFit site) (Own : List X.Row → Type 0) (each : KeepsOwn X site Own) (sent : Sent) (c : Compound) where
  chosen_deed : (P : Turn Reply (Both X.Row) → Type 0) (b : Bool) (x y : Deed Reply (Both X.Row)) (p : Place) (a : Both X.Row) → P (x p a) → P (y p a) → P (cond b x y p a)
  chosen_deed P true x y p a r t = r
  chosen_deed P false x y p a r t = t

  module _ (p : Place) (b : Both X.Row) (stands : BothStand X.Fact site.dom p b) (level : is_level site p.subject ≡ true) (bounds : Bounds site b.world) (own : Own b.own) where
    row_own : (op : Op) → Own (row_in X site sent op p b).state.own
    row_own (ops.Extra number arguments) =
        chosen_deed (λ t. Own t.state.own) (X.grammar.serves number) (further_reply number (further_deed X site number arguments)) (on_world (deed_of (row site sent (ops.Extra number arguments)))) p b
        (each number arguments p b stands level bounds own) own
    row_own op = own

    operation_own : (so_far : List OpResult) (op : Op) → Own (operation X site sent c so_far op p b).state.own
    operation_own so_far op = admitted_any (λ q (v : Both X.Row). Own v.own) op (admission X.grammar c so_far op p b.world) p b (row_in X site sent op p b) own (row_own op)

  behind_own : (os : List Op) → AllByRecursion IsOpRead os → (so_far : List OpResult) (p : Place) (b : Both X.Row) → BothStand X.Fact site.dom p b → is_level site p.subject ≡ true → Bounds site b.world → Own b.own →
      Own (run_behind (operation X site sent c) so_far os p b).state.own
  unfolding run_behind
  behind_own [] read so_far p b stands level bounds own = own
  behind_own (op ∷ os) read so_far p b stands level bounds own =
      let t = operation X site sent c so_far op p b in
      let law = operation_lawful X owed site lattice sent c so_far op in
      let now = operation_own p b stands level bounds own so_far op in
      followed_any site.dom (both_seen X.level_of site.dom) (BothStand X.Fact site.dom) (λ q (v : Both X.Row). Own v.own) so_far op t.place t.state t.answer (λ results. run_behind (operation X site sent c) results os t.place t.state) now
      (λ last. behind_own os read.1 (so_far ++ last ∷ []) t.place t.state (law.stands p b stands) (ap (is_level site) (law.subject p b stands) ∙ level)
      (operation_bounds X owed site lattice labels sent c p b stands level bounds so_far op read.0) now)

  run_own : IsRead c → (p : Place) (b : Both X.Row) → BothStand X.Fact site.dom p b → is_level site p.subject ≡ true → Bounds site b.world → Own b.own → Own (run_all (operation X site sent c) c p b).state.own
  unfolding run_all
  run_own read p b stands level bounds own = chosen_any (λ (r : Ran (Both X.Row)). Own r.state.own) (c.minor == 2) _ _ (behind_own c.ops read.arguments [] p b stands level bounds own) own

  -- the keeping of its result is on the world
  served_own : IsRead c → (p : Place) (b : Both X.Row) → BothStand X.Fact site.dom p b → is_level site p.subject ≡ true → Bounds site b.world → Own b.own → Own (served X site sent c p b).state.own
  unfolding served
  served_own read p b stands level bounds own = run_own read p b stands level bounds own

-- ---- an event

module _ (X : Extra) (owed : AreLawful X) (m : Signing) (p : Policy) (text : List ℕ) (is : policy_of text ≡ Ok p) (Own : List X.Row → Type 0) (each : KeepsOwn X (site_of p) Own) where
  lattice : IsPreorderWithBottom (dominance p)
  lattice = preordered p

  task_own : (event : Event) (call : Call) (task : Task) (b : Both X.Row) → is_level (site_of p) call.level ≡ true → IsTask X.grammar task → Holds X p b → Bounds (site_of p) b.world → Own b.own → Own (done_for X m p b event call task).state.own
  task_own event call Garbled b level read holds bounds own = own
  task_own event call (Run arguments c) b level read holds bounds own =
      served_own X owed (site_of p) lattice (labels_fit p) Own each (sent_of event arguments c) c (compound_read X.grammar arguments c read) (begins_at call.level event.moment) b (begins X owed m p lattice call.level event.moment b holds) level bounds own
  task_own event call (MakeContext parent assertion) b level read holds bounds own =
      let t = on_world (deed_of (make_context parent)) (begins_at call.level event.moment) b in
      subst (λ (v : Both X.Row). Own v.own) (sym (made_state m call parent assertion t.answer t.state)) own
  task_own event call (EndContext number) b level read holds bounds own = own

  request_own : (event : Event) (r : Request) (b : Both X.Row) → ((l : ℕ) → level_in r ≡ Some l → is_level (site_of p) l ≡ true) → Reads X.grammar r → Holds X p b → Bounds (site_of p) b.world → Own b.own → Own (step_of X m p b event r).state.own
  request_own event Silent b level read holds bounds own = own
  request_own event (Refused xid w cause) b level read holds bounds own = own
  request_own event (Nothing xid) b level read holds bounds own = own
  request_own event (Asked call task) b level read holds bounds own =
      chosen_any (λ (s : Step (Both X.Row)). Own s.state.own) (is_there b.world.contexts call.level call.context) _ _ (task_own event call task b (level call.level refl) read holds bounds own) own

  pub step_own : (event : Event) (b : Both X.Row) → Holds X p b → Bounds (site_of p) b.world → Own b.own → Own (step_with X m p b event).state.own
  unfolding step_with
  step_own event b holds bounds own =
      request_own event (request_with X.grammar m p event.class event.message) b
      (λ l is_l. event_level p text is m event.class event.message l (sym (request_level X.grammar m p event.class event.message) ∙ is_l))
      (request_reads X.grammar m p event.class event.message) holds bounds own

  from_own : (journal : List Event) (b : Both X.Row) → Holds X p b → Bounds (site_of p) b.world → Own b.own → Own (state_from X m p b journal).own
  unfolding state_from
  from_own [] b holds bounds own = own
  from_own (event ∷ journal) b holds bounds own =
      from_own journal (step_with X m p b event).state (keeps X owed m p lattice event b holds) (step_bounds X owed m p text is event b holds bounds) (step_own event b holds bounds own)

  -- before all events there are no such rows
  pub own_after : Own [] → (journal : List Event) → Own (state_after X m p journal).own
  own_after none journal = from_own journal (first_state X p) (first_holds X owed m p lattice) (first_bounds p text is) none
