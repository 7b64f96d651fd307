-- Events under a limited policy: all rows stay of level 0, lines bear no rule of labels but M9, and labels stay that no
-- operation sets.
use Rattle.std.proofs.Common.{◌≡◌, ℕ, Bool, true, false, List, [], ◌∷◌, Option, Some, None, refl, sym, ap, ◌∙◌, subst, arith}
use Rattle.std.specs.Prelude.{codes, option_map}
use Rattle.lnfs_calipso.specs.Label.{IsPreorderWithBottom}
use Rattle.lnfs_types.specs.declared.event.Event.{Event}
use Rattle.lnfs_policy.specs.Policy.{Policy, dominance}
use Rattle.lnfs_policy.specs.declared.mode.Mode.TheVariants.{Limited}
use Rattle.lnfs_monitor.specs.declared.rule.Rule.{Rule}
use Rattle.lnfs_monitor.specs.declared.rule.Rule.TheVariants as rules
use Rattle.lnfs_world.specs.World.{World}
use Rattle.lnfs_world.specs.Within.{all_within}
use Rattle.lnfs_world.specs.Outcome.{Place, Act, Footprint, Stands, begins_at, done_to}
use Rattle.lnfs_world.specs.Lawful.{deed_of}
use Rattle.lnfs_world.specs.Both.{Both, on_world}
use Rattle.lnfs_world.proofs.Within.{within_all}
use Rattle.lnfs_operations.specs.declared.Gate.TheVariants.{Monitor}
use Rattle.lnfs_operations.specs.Carried.{AllLow, StandsLow, FurtherCarry, sets_label, LabelsStay, is_rule, NoRuleDenies}
use Rattle.lnfs_operations.specs.Extra.{Extra, AreLawful}
use Rattle.lnfs_operations.specs.Results.{Denial}
use Rattle.lnfs_operations.proofs.CarriedLaws.{served_low, served_unruled, served_stays, stays_itself, stays_same}
use Rattle.lnfs_operations.proofs.Chains.{demand_any}
use Rattle.lnfs_operations.proofs.LowRows.{AllGiveLow, low_changes}
use Rattle.lnfs_gss3.specs.Contexts.{lists_of, has_context_left}
use Rattle.lnfs_gss3.specs.Mechanism.{Signing}
use Rattle.lnfs_gss3.specs.Grammar.{Assertion}
use Rattle.lnfs_site.specs.Site.{site_of}
use Rattle.lnfs_gss3.specs.declared.numbers.TheConstants.{RPCSEC_GSS_CTXPROBLEM}
use Rattle.lnfs_step.specs.declared.numbers.TheConstants.{GARBAGE_ARGS, SYSTEM_ERR}
use Rattle.lnfs_step.specs.Contexts.{is_there, make_context, end_context}
use Rattle.lnfs_step.specs.Limited.{BearsNoRule}
use Rattle.lnfs_step.specs.Named.{some_operation}
use Rattle.lnfs_step.specs.Request.{Call, Task, Garbled, Run, MakeContext, EndContext, Request, Silent, Refused, Nothing, Asked, request_with}
use Rattle.lnfs_step.specs.Step.{Step, rule_name, line_of_cause, line_of, made, done_for, step_of, step_with, sent_of}
use Rattle.lnfs_step.specs.Wrapping.{Cause, caller, called, version}
use Rattle.lnfs_step.specs.Journal.{Holds, first_state, state_from, state_after, line_with}
use Rattle.lnfs_step.proofs.ContextLaws.{Beside, make_context_footprint, end_context_footprint}
use Rattle.lnfs_step.proofs.Letters.{same_gate}
use Rattle.lnfs_step.proofs.LimitedSites.{lowest, carries_alone, first_low}
use Rattle.lnfs_step.proofs.Requests.{level_in, request_level}
use Rattle.lnfs_step.proofs.Steps.{chosen_any, begins, keeps, first_holds, holds_after, made_state, made_beside, ended_beside}

-- ---- lines

-- the name of a rule begins with an M
abbrev first_byte : List ℕ → ℕ
first_byte [] = 0
first_byte (b ∷ bytes) = b

rule_begins : (r : Rule) → first_byte (rule_name r) ≡ 77
rule_begins rules.M1 = refl
rule_begins rules.M2 = refl
rule_begins rules.M3 = refl
rule_begins rules.M4 = refl
rule_begins rules.M5 = refl
rule_begins rules.M6 = refl
rule_begins rules.M7 = refl
rule_begins rules.M8 = refl
rule_begins rules.M9 = refl

no_rule : (name : List ℕ) (byte : ℕ) → first_byte name ≡ byte → (byte ≡ 77 → ⊥) → (r : Rule) → name ≡ rule_name r → r ≡ rules.M9
no_rule name byte begins other r is = absurd (other (sym begins ∙ ap first_byte is ∙ rule_begins r))

cause_unruled : (cause : Cause) → BearsNoRule (Some (line_of_cause cause))
cause_unruled (caller stat) = no_rule (codes "C") 67 refl (λ is. grind (arith, is))
cause_unruled (called stat) = no_rule (codes "P") 80 refl (λ is. grind (arith, is))
cause_unruled version = no_rule (codes "V") 86 refl (λ is. grind (arith, is))

last_rule : (r : Rule) → is_rule (Monitor r) ≡ false → r ≡ rules.M9
last_rule rules.M1 is = absurd (grind arith)
last_rule rules.M2 is = absurd (grind arith)
last_rule rules.M3 is = absurd (grind arith)
last_rule rules.M4 is = absurd (grind arith)
last_rule rules.M5 is = absurd (grind arith)
last_rule rules.M6 is = absurd (grind arith)
last_rule rules.M7 is = absurd (grind arith)
last_rule rules.M8 is = absurd (grind arith)
last_rule rules.M9 is = refl

denial_unruled : (o : Option Denial) → NoRuleDenies o → BearsNoRule (option_map line_of o)
denial_unruled None is = tt
denial_unruled (Some d) is = λ r named. last_rule r (ap is_rule (sym (same_gate d.gate (Monitor r) named)) ∙ is)

-- ---- contexts

module _ (dom : ℕ → ℕ → Bool) where
  -- what a subject of level 0 does that gives no label
  act_low : {A : Type 0} (act : Act A) → Footprint dom act → (p : Place) (w : World) → Stands dom p w → StandsLow p w → AllGiveLow (act p w).changes → AllLow (done_to w (act p w))
  act_low act footprint p w stands low gives =
      let within = subst (λ s. all_within dom s w (act p w).changes ≡ true) low.subject (footprint p w stands).within in
      low_changes dom (act p w).changes w (within_all dom 0 (act p w).changes w within) gives low.rows

  make_gives : (parent : ℕ) (p : Place) (w : World) → AllGiveLow (make_context parent p w).changes
  make_gives parent p w = demand_any (λ o. AllGiveLow o.changes) (has_context_left (lists_of w) p.subject) _ _ tt (λ left. (tt, tt))

module _ (X : Extra) (owed : AreLawful X) (further : FurtherCarry X) (m : Signing) (p : Policy) (lattice : IsPreorderWithBottom (dominance p)) (limited : p.mode ≡ Limited) where
  abbrev Known : Both X.Row → Type 0
  Known b = Holds X p b × AllLow b.world

  at_low : (event : Event) (call : Call) (b : Both X.Row) → AllLow b.world → call.level ≡ 0 → StandsLow (begins_at call.level event.moment) b.world
  at_low event call b low level = record { subject = level; rows = low }

  -- ---- a task

  task_low : (event : Event) (call : Call) (task : Task) (b : Both X.Row) → Holds X p b → AllLow b.world → call.level ≡ 0 → AllLow (done_for X m p b event call task).state.world
  task_low event call Garbled b holds low level = low
  task_low event call (Run arguments c) b holds low level =
      served_low X owed further (site_of p) lattice (carries_alone p limited) (sent_of event arguments c) c (begins_at call.level event.moment) b (begins X owed m p lattice call.level event.moment b holds) (at_low event call b low level)
  task_low event call (MakeContext parent assertion) b holds low level =
      let place = begins_at call.level event.moment in
      let t = on_world (deed_of (make_context parent)) place b in
      subst (λ (v : Both X.Row). AllLow v.world) (sym (made_state m call parent assertion t.answer t.state))
      (act_low (dominance p) (make_context parent) (make_context_footprint (dominance p) parent) place b.world (begins X owed m p lattice call.level event.moment b holds).world (at_low event call b low level) (make_gives (dominance p) parent place b.world))
  task_low event call (EndContext number) b holds low level =
      let place = begins_at call.level event.moment in
      act_low (dominance p) (end_context number) (end_context_footprint (dominance p) number) place b.world (begins X owed m p lattice call.level event.moment b holds).world (at_low event call b low level) (tt, tt)

  made_unruled : (call : Call) (parent : ℕ) (assertion : Assertion) (b : Both X.Row) (o : Option ℕ) → BearsNoRule (made m call parent assertion b o).line
  made_unruled call parent assertion b (Some number) = tt
  made_unruled call parent assertion b None = cause_unruled (called SYSTEM_ERR)

  task_unruled : (event : Event) (call : Call) (task : Task) (b : Both X.Row) → Holds X p b → AllLow b.world → call.level ≡ 0 → BearsNoRule (done_for X m p b event call task).line
  task_unruled event call Garbled b holds low level = cause_unruled (called GARBAGE_ARGS)
  task_unruled event call (Run arguments c) b holds low level =
      denial_unruled _ (served_unruled X owed further (site_of p) lattice (carries_alone p limited) (sent_of event arguments c) c (begins_at call.level event.moment) b (begins X owed m p lattice call.level event.moment b holds) (at_low event call b low level))
  task_unruled event call (MakeContext parent assertion) b holds low level = made_unruled call parent assertion _ _
  task_unruled event call (EndContext number) b holds low level = tt

  beside_stays : (a b : World) → Beside a b → LabelsStay a b
  beside_stays a b beside = stays_same a b beside.nodes

  task_stays : (event : Event) (call : Call) (task : Task) (b : Both X.Row) → Holds X p b → AllLow b.world → call.level ≡ 0 → some_operation sets_label (Asked call task) ≡ false → LabelsStay b.world (done_for X m p b event call task).state.world
  task_stays event call Garbled b holds low level none = stays_itself b.world
  task_stays event call (Run arguments c) b holds low level none =
      served_stays X owed further (site_of p) lattice (carries_alone p limited) (sent_of event arguments c) c (begins_at call.level event.moment) b (begins X owed m p lattice call.level event.moment b holds) (at_low event call b low level) none
  task_stays event call (MakeContext parent assertion) b holds low level none = beside_stays _ _ (made_beside X m p b event call parent assertion)
  task_stays event call (EndContext number) b holds low level none = beside_stays _ _ (ended_beside X m p b event call number)

  -- ---- a request

  -- its level, if it has one, is 0
  abbrev IsLowest : Request → Type 0
  IsLowest r = (level : ℕ) → level_in r ≡ Some level → level ≡ 0

  of_low : (event : Event) (r : Request) (b : Both X.Row) → Holds X p b → AllLow b.world → IsLowest r → AllLow (step_of X m p b event r).state.world
  of_low event Silent b holds low level = low
  of_low event (Refused xid w cause) b holds low level = low
  of_low event (Nothing xid) b holds low level = low
  of_low event (Asked call task) b holds low level =
      chosen_any (λ (s : Step (Both X.Row)). AllLow s.state.world) (is_there b.world.contexts call.level call.context) _ _ (task_low event call task b holds low (level call.level refl)) low

  of_unruled : (event : Event) (r : Request) (b : Both X.Row) → Holds X p b → AllLow b.world → IsLowest r → BearsNoRule (step_of X m p b event r).line
  of_unruled event Silent b holds low level = tt
  of_unruled event (Refused xid w cause) b holds low level = cause_unruled cause
  of_unruled event (Nothing xid) b holds low level = tt
  of_unruled event (Asked call task) b holds low level =
      chosen_any (λ (s : Step (Both X.Row)). BearsNoRule s.line) (is_there b.world.contexts call.level call.context) _ _ (task_unruled event call task b holds low (level call.level refl)) (cause_unruled (caller RPCSEC_GSS_CTXPROBLEM))

  of_stays : (event : Event) (r : Request) (b : Both X.Row) → Holds X p b → AllLow b.world → IsLowest r → some_operation sets_label r ≡ false → LabelsStay b.world (step_of X m p b event r).state.world
  of_stays event Silent b holds low level none = stays_itself b.world
  of_stays event (Refused xid w cause) b holds low level none = stays_itself b.world
  of_stays event (Nothing xid) b holds low level none = stays_itself b.world
  of_stays event (Asked call task) b holds low level none =
      chosen_any (λ (s : Step (Both X.Row)). LabelsStay b.world s.state.world) (is_there b.world.contexts call.level call.context) _ _ (task_stays event call task b holds low (level call.level refl) none) (stays_itself b.world)

  -- ---- an event

  lowest_in : (event : Event) → IsLowest (request_with X.grammar m p event.class event.message)
  lowest_in event level is = lowest m p limited event.class event.message level (sym (request_level X.grammar m p event.class event.message) ∙ is)

  pub step_low : (event : Event) (b : Both X.Row) → Holds X p b → AllLow b.world → AllLow (step_with X m p b event).state.world
  unfolding step_with
  step_low event b holds low = of_low event (request_with X.grammar m p event.class event.message) b holds low (lowest_in event)

  pub step_unruled : (event : Event) (b : Both X.Row) → Holds X p b → AllLow b.world → BearsNoRule (step_with X m p b event).line
  unfolding step_with
  step_unruled event b holds low = of_unruled event (request_with X.grammar m p event.class event.message) b holds low (lowest_in event)

  pub step_stays : (event : Event) (b : Both X.Row) → Holds X p b → AllLow b.world → some_operation sets_label (request_with X.grammar m p event.class event.message) ≡ false → LabelsStay b.world (step_with X m p b event).state.world
  unfolding step_with
  step_stays event b holds low none = of_stays event (request_with X.grammar m p event.class event.message) b holds low (lowest_in event) none

  -- ---- a journal

  low_from : (journal : List Event) (b : Both X.Row) → Holds X p b → AllLow b.world → AllLow (state_from X m p b journal).world
  unfolding state_from
  low_from [] b holds low = low
  low_from (event ∷ journal) b holds low = low_from journal (step_with X m p b event).state (keeps X owed m p lattice event b holds) (step_low event b holds low)

  pub low_after : (journal : List Event) → AllLow (state_after X m p journal).world
  low_after journal = low_from journal (first_state X p) (first_holds X owed m p lattice) (first_low p limited)

  pub unruled_after : (journal : List Event) (event : Event) → BearsNoRule (line_with X m p journal event)
  unfolding line_with
  unruled_after journal event = step_unruled event (state_after X m p journal) (holds_after X owed m p lattice journal) (low_after journal)
