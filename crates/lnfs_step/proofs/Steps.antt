-- Both laws of erasure for a step, and the purge law for its journals, with further operations that are
-- lawful.
use Rattle.std.proofs.Common.{◌≡◌, ℕ, Bool, true, false, cond, List, [], ◌∷◌, ◌++◌, Option, Some, None, refl, sym, ap, ◌∙◌, subst}
use Rattle.lnfs_calipso.specs.Label.{IsPreorderWithBottom}
use Rattle.lnfs_types.specs.declared.event.Event.{Event}
use Rattle.lnfs_types.specs.declared.event.Moment.{Moment}
use Rattle.lnfs_arguments.specs.declared.types.Compound.{Compound}
use Rattle.lnfs_policy.specs.Policy.{Policy, dominance}
use Rattle.lnfs_world.specs.Outcome.{Place, begins_at}
use Rattle.lnfs_world.specs.Lawful.{Lawful, deed_of}
use Rattle.lnfs_world.specs.Both.{Both, both_seen, BothStand, on_world}
use Rattle.lnfs_operations.specs.Extra.{Extra, AreLawful}
use Rattle.lnfs_operations.specs.Sequence.{Sent}
use Rattle.lnfs_operations.specs.SlotRule.{Answer, served}
use Rattle.lnfs_operations.proofs.SlotRules.{served_lawful}
use Rattle.lnfs_gss3.specs.declared.numbers.TheConstants.{RPCSEC_GSS_CTXPROBLEM}
use Rattle.lnfs_gss3.specs.Mechanism.{Signing}
use Rattle.lnfs_gss3.specs.Grammar.{Assertion}
use Rattle.lnfs_site.specs.Site.{site_of}
use Rattle.lnfs_site.proofs.FirstWorlds.{first_facts}
use Rattle.lnfs_step.specs.Wrapping.{caller, answer_text}
use Rattle.lnfs_step.specs.Request.{Call, Task, Garbled, Run, MakeContext, EndContext, Request, Silent, Refused, Nothing, Asked, request_with}
use Rattle.lnfs_step.specs.Level.{level_of}
use Rattle.lnfs_step.specs.Contexts.{is_there, make_context, end_context}
use Rattle.lnfs_step.specs.Step.{Step, sent_of, made, done_for, refused_to, step_of, step_with}
use Rattle.lnfs_step.specs.Journal.{Holds, seen_at, first_state, state_from, state_after, reply_with, answer_with}
use Rattle.lnfs_step.specs.Purged.{is_dominated, purged, purged_to, IsSecret}
use Rattle.lnfs_step.proofs.ContextLaws.{there_alike, Beside, make_beside, end_beside, make_context_lawful, end_context_lawful}
use Rattle.lnfs_step.proofs.Requests.{level_in, request_level}
use Rattle.lnfs_step.proofs.Purging.{state_from as from_state, reply_purged, journal_keeps}

-- ---- one of two steps

pub chosen_any : {A : Type 0} (P : A → Type 0) (t : Bool) (x y : A) → P x → P y → P (cond t x y)
chosen_any P true x y first other = first
chosen_any P false x y first other = other

chosen_alike : {A : Type 0} (R : A → A → Type 0) (t : Bool) (x y u v : A) → R x y → R u v → R (cond t x u) (cond t y v)
chosen_alike R true x y u v first other = first
chosen_alike R false x y u v first other = other

-- ---- a context that was made

module _ {S : Type 0} (m : Signing) (call : Call) (parent : ℕ) (assertion : Assertion) where
  -- the reply goes by the number alone
  made_reply : (o : Option ℕ) (a b : S) → (made m call parent assertion a o).reply ≡ (made m call parent assertion b o).reply
  made_reply (Some number) a b = refl
  made_reply None a b = refl

  -- and the state is left to the making
  pub made_state : (o : Option ℕ) (a : S) → (made m call parent assertion a o).state ≡ a
  made_state (Some number) a = refl
  made_state None a = refl

module _ (X : Extra) (owed : AreLawful X) (m : Signing) (p : Policy) (lattice : IsPreorderWithBottom (dominance p)) where
  -- what has to stand before a COMPOUND's first operation
  pub begins : (level : ℕ) (moment : Moment) (b : Both X.Row) → Holds X p b → BothStand X.Fact (dominance p) (begins_at level moment) b
  begins level moment b holds = record { world = record { facts = holds.facts; place = refl }; own = holds.own }

  -- what stands of a place and a state holds of the state
  held : (q : Place) (b : Both X.Row) → BothStand X.Fact (dominance p) q b → Holds X p b
  held q b stands = record { facts = stands.world.facts; own = stands.own }

  -- ---- a task

  law : (sent : Sent) (c : Compound) → Lawful (dominance p) (both_seen X.level_of (dominance p)) (BothStand X.Fact (dominance p)) (served X (site_of p) sent c)
  law sent c = served_lawful X owed (site_of p) lattice sent c

  make_law : (parent : ℕ) → Lawful (dominance p) (both_seen X.level_of (dominance p)) (BothStand X.Fact (dominance p)) (on_world (deed_of (make_context parent)))
  make_law parent = make_context_lawful X owed (dominance p) lattice parent

  end_law : (number : ℕ) → Lawful (dominance p) (both_seen X.level_of (dominance p)) (BothStand X.Fact (dominance p)) (on_world (deed_of (end_context number)))
  end_law number = end_context_lawful X owed (dominance p) lattice number

  -- two steps that look alike to a level
  abbrev Alike : (l : ℕ) → Step (Both X.Row) → Step (Both X.Row) → Type 0
  Alike l x y = (x.reply ≡ y.reply) × (seen_at X p l x.state ≡ seen_at X p l y.state)

  task_seen : (l : ℕ) (event : Event) (call : Call) (task : Task) (a b : Both X.Row) → dominance p l call.level ≡ true → Holds X p a → Holds X p b → seen_at X p l a ≡ seen_at X p l b → Alike l (done_for X m p a event call task) (done_for X m p b event call task)
  task_seen l event call Garbled a b above ha hb e = (refl, e)
  task_seen l event call (Run arguments c) a b above ha hb e =
      let of = law (sent_of event arguments c) c in
      let place = begins_at call.level event.moment in (
        ap (λ (answer : Answer). Some (answer_text m call.wrapping call.xid answer.result)) (of.answer l place a b above (begins call.level event.moment a ha) (begins call.level event.moment b hb) e),
        of.seen l place a b above (begins call.level event.moment a ha) (begins call.level event.moment b hb) e,
      )
  task_seen l event call (MakeContext parent assertion) a b above ha hb e =
      let of = make_law parent in
      let place = begins_at call.level event.moment in
      let t = on_world (deed_of (make_context parent)) place a in
      let u = on_world (deed_of (make_context parent)) place b in (
        made_reply m call parent assertion t.answer t.state u.state ∙ ap (λ o. (made m call parent assertion u.state o).reply) (of.answer l place a b above (begins call.level event.moment a ha) (begins call.level event.moment b hb) e),
        ap (seen_at X p l) (made_state m call parent assertion t.answer t.state) ∙ of.seen l place a b above (begins call.level event.moment a ha) (begins call.level event.moment b hb) e ∙ ap (seen_at X p l) (sym (made_state m call parent assertion u.answer u.state)),
      )
  task_seen l event call (EndContext number) a b above ha hb e = (refl, (end_law number).seen l (begins_at call.level event.moment) a b above (begins call.level event.moment a ha) (begins call.level event.moment b hb) e)

  task_unseen : (l : ℕ) (event : Event) (call : Call) (task : Task) (a : Both X.Row) → dominance p l call.level ≡ false → Holds X p a → seen_at X p l (done_for X m p a event call task).state ≡ seen_at X p l a
  task_unseen l event call Garbled a apart holds = refl
  task_unseen l event call (Run arguments c) a apart holds = (law (sent_of event arguments c) c).unseen l (begins_at call.level event.moment) a apart (begins call.level event.moment a holds)
  task_unseen l event call (MakeContext parent assertion) a apart holds =
      let t = on_world (deed_of (make_context parent)) (begins_at call.level event.moment) a in
      ap (seen_at X p l) (made_state m call parent assertion t.answer t.state) ∙ (make_law parent).unseen l (begins_at call.level event.moment) a apart (begins call.level event.moment a holds)
  task_unseen l event call (EndContext number) a apart holds = (end_law number).unseen l (begins_at call.level event.moment) a apart (begins call.level event.moment a holds)

  task_keeps : (event : Event) (call : Call) (task : Task) (a : Both X.Row) → Holds X p a → Holds X p (done_for X m p a event call task).state
  task_keeps event call Garbled a holds = holds
  task_keeps event call (Run arguments c) a holds = held _ _ ((law (sent_of event arguments c) c).stands (begins_at call.level event.moment) a (begins call.level event.moment a holds))
  task_keeps event call (MakeContext parent assertion) a holds =
      let t = on_world (deed_of (make_context parent)) (begins_at call.level event.moment) a in
      subst (Holds X p) (sym (made_state m call parent assertion t.answer t.state)) (held _ _ ((make_law parent).stands (begins_at call.level event.moment) a (begins call.level event.moment a holds)))
  task_keeps event call (EndContext number) a holds = held _ _ ((end_law number).stands (begins_at call.level event.moment) a (begins call.level event.moment a holds))

  -- ---- a request

  -- a call in a context that isn't there
  abbrev unknown : Call → Both X.Row → Step (Both X.Row)
  unknown call b = refused_to m call b (caller RPCSEC_GSS_CTXPROBLEM)

  of_seen : (l s : ℕ) (event : Event) (r : Request) (a b : Both X.Row) → level_in r ≡ Some s → dominance p l s ≡ true → Holds X p a → Holds X p b → seen_at X p l a ≡ seen_at X p l b → Alike l (step_of X m p a event r) (step_of X m p b event r)
  of_seen l s event Silent a b is above ha hb e = (refl, e)
  of_seen l s event (Refused xid w cause) a b is above ha hb e = (refl, e)
  of_seen l s event (Nothing xid) a b is above ha hb e = (refl, e)
  of_seen l s event (Asked call task) a b is above ha hb e =
      let same : call.level ≡ s = cc in
      let own = ap (dominance p l) same ∙ above in
      let there = there_alike (dominance p) l call.level call.context a.world b.world own (ap (λ (v : Both X.Row). v.world) e) in
      subst (λ t. Alike l (step_of X m p a event (Asked call task)) (cond t (done_for X m p b event call task) (unknown call b))) there
      (chosen_alike (Alike l) (is_there a.world.contexts call.level call.context) (done_for X m p a event call task) (done_for X m p b event call task) (unknown call a) (unknown call b) (task_seen l event call task a b own ha hb e) (refl, e))

  of_unseen : (l : ℕ) (event : Event) (r : Request) (a : Both X.Row) → is_dominated (dominance p) l (level_in r) ≡ false → Holds X p a → seen_at X p l (step_of X m p a event r).state ≡ seen_at X p l a
  of_unseen l event Silent a apart holds = refl
  of_unseen l event (Refused xid w cause) a apart holds = refl
  of_unseen l event (Nothing xid) a apart holds = refl
  of_unseen l event (Asked call task) a apart holds =
      chosen_any (λ (s : Step (Both X.Row)). seen_at X p l s.state ≡ seen_at X p l a) (is_there a.world.contexts call.level call.context) _ _ (task_unseen l event call task a apart holds) refl

  of_keeps : (event : Event) (r : Request) (a : Both X.Row) → Holds X p a → Holds X p (step_of X m p a event r).state
  of_keeps event Silent a holds = holds
  of_keeps event (Refused xid w cause) a holds = holds
  of_keeps event (Nothing xid) a holds = holds
  of_keeps event (Asked call task) a holds =
      chosen_any (λ (s : Step (Both X.Row)). Holds X p s.state) (is_there a.world.contexts call.level call.context) _ _ (task_keeps event call task a holds) holds

  -- a request without a level has one reply in all states
  of_none : (event : Event) (r : Request) (a b : Both X.Row) → level_in r ≡ None → (step_of X m p a event r).reply ≡ (step_of X m p b event r).reply
  of_none event Silent a b is = refl
  of_none event (Refused xid w cause) a b is = refl
  of_none event (Nothing xid) a b is = refl
  of_none event (Asked call task) a b is = cc

  -- ---- an event

  level_is : (event : Event) → level_in (request_with X.grammar m p event.class event.message) ≡ level_of m p event.class event.message
  level_is event = request_level X.grammar m p event.class event.message

  pub seen : (l s : ℕ) (event : Event) (a b : Both X.Row) → level_of m p event.class event.message ≡ Some s → dominance p l s ≡ true → Holds X p a → Holds X p b → seen_at X p l a ≡ seen_at X p l b → ((step_with X m p a event).reply ≡ (step_with X m p b event).reply) × (seen_at X p l (step_with X m p a event).state ≡ seen_at X p l (step_with X m p b event).state)
  unfolding step_with
  seen l s event a b is above ha hb e = of_seen l s event (request_with X.grammar m p event.class event.message) a b (level_is event ∙ is) above ha hb e

  pub unseen : (l : ℕ) (event : Event) (a : Both X.Row) → is_dominated (dominance p) l (level_of m p event.class event.message) ≡ false → Holds X p a → seen_at X p l (step_with X m p a event).state ≡ seen_at X p l a
  unfolding step_with
  unseen l event a apart holds = of_unseen l event (request_with X.grammar m p event.class event.message) a (ap (is_dominated (dominance p) l) (level_is event) ∙ apart) holds

  pub keeps : (event : Event) (a : Both X.Row) → Holds X p a → Holds X p (step_with X m p a event).state
  unfolding step_with
  keeps event a holds = of_keeps event (request_with X.grammar m p event.class event.message) a holds

  none : (event : Event) (a b : Both X.Row) → level_of m p event.class event.message ≡ None → (step_with X m p a event).reply ≡ (step_with X m p b event).reply
  unfolding step_with
  none event a b is = of_none event (request_with X.grammar m p event.class event.message) a b (level_is event ∙ is)

  -- ---- a journal

  pub first_holds : Holds X p (first_state X p)
  first_holds = record { facts = first_facts p lattice; own = owed.begins (first_state X p).world }

  as_fold : (b : Both X.Row) (journal : List Event) → state_from X m p b journal ≡ from_state (λ a event. (step_with X m p a event).state) b journal
  unfolding state_from
  as_fold b [] = refl
  as_fold b (event ∷ journal) = as_fold (step_with X m p b event).state journal

  pub holds_after : (journal : List Event) → Holds X p (state_after X m p journal)
  holds_after journal = subst (Holds X p) (sym (as_fold (first_state X p) journal))
      (journal_keeps (seen_at X p) (Holds X p) (dominance p) lattice.reflexive (λ event. level_of m p event.class event.message) (λ a event. (step_with X m p a event).state) (λ a event. (step_with X m p a event).reply) (λ l s event a b. seen l s event a b) (λ l event a. unseen l event a) (λ event a. keeps event a) journal (first_state X p) first_holds)

  reply_to : (journal : List Event) (event : Event) (o : Option ℕ) → level_of m p event.class event.message ≡ o → (step_with X m p (state_after X m p journal) event).reply ≡ reply_with X m p (purged_to m p journal o) event
  unfolding reply_with purged
  reply_to journal event None is = none event (state_after X m p journal) (state_after X m p []) is
  reply_to journal event (Some s) is =
      ap (λ a. (step_with X m p a event).reply) (as_fold (first_state X p) journal)
      ∙ reply_purged (seen_at X p) (Holds X p) (dominance p) lattice.reflexive (λ event. level_of m p event.class event.message) (λ a event. (step_with X m p a event).state) (λ a event. (step_with X m p a event).reply) (λ l s event a b. seen l s event a b) (λ l event a. unseen l event a) (λ event a. keeps event a) (first_state X p) first_holds journal event s is
      ∙ ap (λ a. (step_with X m p a event).reply) (sym (as_fold (first_state X p) (purged m p journal s)))

  pub reply_is_answer : (journal : List Event) (event : Event) → reply_with X m p journal event ≡ answer_with X m p journal event
  unfolding reply_with answer_with
  reply_is_answer journal event = reply_to journal event (level_of m p event.class event.message) refl

  pub reply_is_secret : IsSecret m p (reply_with X m p)
  unfolding answer_with
  reply_is_secret = (reply_with X m p, λ journal event. reply_is_answer journal event)

-- contexts that are made and ended leave the rest
module _ (X : Extra) (m : Signing) (p : Policy) (b : Both X.Row) (event : Event) (call : Call) where
  pub made_beside : (parent : ℕ) (assertion : Assertion) → Beside b.world (done_for X m p b event call (MakeContext parent assertion)).state.world
  made_beside parent assertion =
      let t = on_world (deed_of (make_context parent)) (begins_at call.level event.moment) b in
      subst (λ (v : Both X.Row). Beside b.world v.world) (sym (made_state m call parent assertion t.answer t.state)) (make_beside parent (begins_at call.level event.moment) b.world)

  pub ended_beside : (number : ℕ) → Beside b.world (done_for X m p b event call (EndContext number)).state.world
  ended_beside number = end_beside number (begins_at call.level event.moment) b.world

-- one more event
pub state_from-append : (X : Extra) (m : Signing) (p : Policy) (b : Both X.Row) (journal : List Event) (event : Event) → state_from X m p b (journal ++ event ∷ []) ≡ (step_with X m p (state_from X m p b journal) event).state
unfolding state_from
state_from-append X m p b [] event = refl
state_from-append X m p b (e ∷ journal) event = state_from-append X m p (step_with X m p b e).state journal event
