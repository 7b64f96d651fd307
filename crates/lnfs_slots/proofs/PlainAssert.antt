-- The law of a context that is asked for: it is a new one of the client's, and all else of the client stays.
use Rattle.std.proofs.Common.{◌≡◌, inl, inr, ℕ, ◌+◌, ◌≤◌, Bool, true, false, cond, ◌&&◌, ◌||◌, List, ◌∷◌, Option, Some, None, refl, sym, ◌∙◌, ap, subst, arith}
use Rattle.std.specs.Prelude.{◌==◌, nat_lt}
use Rattle.std.proofs.lemmas.Bool.{and_parts, ltb-true}
use Rattle.std.proofs.lemmas.Bool.Decides.{nat_tests}
use Rattle.lnfs_calipso.specs.Label.{IsPreorderWithBottom}
use Rattle.lnfs_types.specs.declared.event.Event.{Event}
use Rattle.lnfs_policy.specs.Policy.{Policy, dominance}
use Rattle.lnfs_world.specs.World.{Id, Context, World, same_id, last_of}
use Rattle.lnfs_world.specs.Change.{AddContext, apply}
use Rattle.lnfs_world.specs.declared.numbers.TheConstants.{LAST_NUMBER}
use Rattle.lnfs_world.specs.Outcome.{Place, Outcome, begins_at, done_to}
use Rattle.lnfs_world.specs.Both.{Both, both}
use Rattle.lnfs_world.proofs.Keys.{id_same, last_of-inserted}
use Rattle.lnfs_operations.specs.Extra.{Extra, AreLawful}
use Rattle.lnfs_gss3.specs.Contexts.{lists_of, has_context_left, new_context, is_under, context_at, has_context}
use Rattle.lnfs_gss3.specs.Mechanism.{Signing}
use Rattle.lnfs_step.specs.Request.{MakeContext, request_with}
use Rattle.lnfs_step.specs.Contexts.{full, added}
use Rattle.lnfs_step.specs.Journal.{Holds}
use Rattle.lnfs_step.specs.Step.{Step, made, done_for, step_with}
use Rattle.lnfs_step.proofs.Steps.{keeps}
use Rattle.lnfs_once.specs.Client.{Kind, Assert, Exchange, Packet}
use Rattle.lnfs_once.specs.Server.{Served}
use Rattle.lnfs_once.specs.Laws.{Gone, IsKept, IsGentle, IsPlain, Comes}
use Rattle.lnfs_slots.specs.OneClient.{Seen, When, Writer, at_level, is_mine, mine_after, keeps_in, event_of, serve, context_there, context_met, IsSound, rows}
use Rattle.lnfs_slots.specs.Written.{alone_of, IsAssert}
use Rattle.lnfs_slots.proofs.Contexts.{context_at-inserted, made_state}
use Rattle.lnfs_slots.proofs.Steps.{step_there}
use Rattle.lnfs_slots.proofs.Tidy.{IsTidy, IsGentleToo, tidy_kept, tidy_gentle, same_tidy, same_gentle}

module _ (X : Extra) (owed : AreLawful X) (m : Signing) (p : Policy) (lattice : IsPreorderWithBottom (dominance p)) {A : Type 0} (w : Writer A) (v : Seen X) (when : When) (q : Packet A) (kind : q.kind ≡ Assert) (written : IsAssert X m p w q) (came : Comes (rows X m p w) v q) where
  abbrev b : Both X.Row
  b = v.state

  abbrev event : Event
  event = event_of X m p w when q

  abbrev place : Place
  place = begins_at w.level when.moment

  abbrev last : ℕ
  last = last_of w.level b.world.lasts.contexts

  -- the context that comes, where the level is not full
  abbrev new : Context
  new = new_context (lists_of b.world) w.level w.parent

  abbrev chosen : Bool → Outcome (Option ℕ)
  chosen t = cond t (added place new) (full place)

  abbrev left : Bool
  left = has_context_left (lists_of b.world) w.level

  sound : IsSound X m p w v
  sound = came.good

  -- ---- what the step comes to

  abbrev seen : Both X.Row → Kind → Seen X
  seen a k = record { state = a; mine = mine_after k last (last_of w.level a.world.lasts.contexts) v.mine }

  abbrev state_of : Bool → Both X.Row
  state_of t = both (done_to b.world (chosen t)) b.own

  abbrev turn : Bool → Served (Seen X) (Option (List ℕ))
  turn t = record { state = seen (state_of t) Assert; reply = (made m (alone_of X m p w q) w.parent written.assertion (state_of t) (chosen t).answer).reply; acts = false }

  step : step_with X m p b event ≡ done_for X m p b event (alone_of X m p w q) (MakeContext w.parent written.assertion)
  step = step_there X m p b event (alone_of X m p w q) (MakeContext w.parent written.assertion) written.request refl

  state : (step_with X m p b event).state ≡ state_of left
  state = ap (λ (s : Step (Both X.Row)). s.state) step ∙ made_state X m p b event (alone_of X m p w q) w.parent written.assertion

  reply : (step_with X m p b event).reply ≡ (turn left).reply
  reply = ap (λ (s : Step (Both X.Row)). s.reply) step

  acts : keeps_in X p b event (request_with X.grammar m p w.class (w.text q)) ≡ false
  acts = ap (keeps_in X p b event) written.request

  served : serve X m p w v when q ≡ turn left
  served = λ k. record { state = seen (state k) (kind k); reply = reply k; acts = acts k }

  holds : (t : Bool) → left ≡ t → Holds X p (state_of t)
  holds t e = subst (λ t. Holds X p (state_of t)) e (subst (Holds X p) state (keeps X owed m p lattice event b sound.holds))

  abbrev Plain : Served (Seen X) (Option (List ℕ)) → Type 0
  Plain t = IsPlain (rows X m p w) v q t

  -- ---- the level is full

  full_state : seen (state_of false) Assert ≡ v
  full_state = λ k. record { state = b; mine = same k }
    where
      same : cond (last == last) v.mine (last ∷ v.mine) ≡ v.mine
      same = let is : (last == last) ≡ true = grind (arith, nat_tests) in ap (λ t. cond t v.mine (last ∷ v.mine)) is

  plain_full : Plain (turn false)
  plain_full = record {
    kept = subst (λ s. IsKept (rows X m p w) v s) (sym full_state) (tidy_kept X m p w v v sound (same_tidy X m p w v sound));
    gentle = λ before. subst (λ s. IsGentle (rows X m p w) v s) (sym full_state) (tidy_gentle X m p w v v sound (same_tidy X m p w v sound) (same_gentle X m p w v));
    acts = refl;
    gone = subst (λ k. Gone (rows X m p w) (seen (state_of false) Assert) k q.place) (sym kind) tt;
    known = λ number next exchange told. let no : Assert ≡ Exchange = sym kind ∙ exchange in absurd cc;
    granted = λ context assert told. absurd (written.refused context told);
  }

  -- ---- a new one

  abbrev u : World
  u = apply (AddContext new) b.world

  abbrev then : Seen X
  then = record { state = both u b.own; mine = (last + 1) ∷ v.mine }

  last_now : last_of w.level u.lasts.contexts ≡ last + 1
  last_now = last_of-inserted new.id b.world.lasts.contexts w.level ∙ (let is : (w.level == w.level) ≡ true = grind (arith, nat_tests) in ap (λ t. cond t (last + 1) last) is)

  new_state : seen (state_of true) Assert ≡ then
  new_state = λ k. record { state = both u b.own; mine = mine_now k }
    where
      mine_now : cond (last == last_of w.level u.lasts.contexts) v.mine (last_of w.level u.lasts.contexts ∷ v.mine) ≡ (last + 1) ∷ v.mine
      mine_now =
          let other : (last == (last + 1)) ≡ false = grind (arith, nat_tests) in
          ap (λ n. cond (last == n) v.mine (n ∷ v.mine)) last_now ∙ ap (λ t. cond t v.mine ((last + 1) ∷ v.mine)) other

  -- a context that was given is as before
  there_same : (c : ℕ) → c ≤ last → context_there X m p w then c ≡ context_there X m p w v c
  there_same c below =
      let other : ((last + 1) == c) ≡ false = grind (arith, nat_tests, below) in
      let apart : same_id (at_level w.level c) new.id ≡ false = apart_from (same_id (at_level w.level c) new.id) refl in
      let has : has_context u.contexts w.level w.parent c ≡ has_context b.world.contexts w.level w.parent c =
      ap (is_under w.parent) (context_at-inserted new b.world.contexts (at_level w.level c) ∙ ap (λ t. cond t (Some new) (context_at b.world.contexts (at_level w.level c))) apart) in
      (λ k. c == 0 || ((other k || is_mine v.mine c) && has k))
    where
      apart_from : (t : Bool) → same_id (at_level w.level c) new.id ≡ t → same_id (at_level w.level c) new.id ≡ false
      apart_from false e = e
      apart_from true e = let same : c ≡ last + 1 = ap (λ (i : Id). i.number) (id_same (at_level w.level c) new.id e) in absurd (omega (arith, same, below))

  met_below : (c : ℕ) → context_met X m p w v c → c ≤ last
  met_below c met = elim met [
    | inl e ↦ omega (arith, e)
    | inr e ↦ e.1
  ]

  tidy : Holds X p (both u b.own) → IsTidy X m p w v then
  tidy is =
      let before = same_tidy X m p w v sound in
      record {
        holds = is;
        numbers = sound.numbers;
        records = λ n c there. inl there;
        sessions = λ n y there. there;
        owners = λ n y there. refl;
        last_clients = omega arith;
        last_sessions = omega arith;
        last_contexts = let e = last_now in omega arith;
        mine = λ c own. mine_more c ((last + 1) == c) own;
        given = λ c own. given_now c ((last + 1) == c) refl own;
        ends = λ c met gone. there_same c (met_below c met) ∙ gone;
      }
    where
      mine_more : (c : ℕ) (t : Bool) → is_mine v.mine c ≡ true → (t || is_mine v.mine c) ≡ true
      mine_more c true own = refl
      mine_more c false own = own

      given_now : (c : ℕ) (t : Bool) → ((last + 1) == c) ≡ t → (t || is_mine v.mine c) ≡ true → (1 ≤ c) × (c ≤ last_of w.level u.lasts.contexts)
      given_now c true e own = let same : last + 1 ≡ c = grind (arith, nat_tests, e) in (omega (arith, same), omega (arith, same, last_now))
      given_now c false e own = let before = (same_tidy X m p w v sound).given c own in (before.0, omega (arith, before.1, last_now))

  gentle : IsGentleToo X m p w v then
  gentle = record {
    sessions = λ n gone. gone;
    contexts = λ c met there. there_same c (met_below c met) ∙ there;
    records = λ n x is gone. λ k. let no : Some x ≡ None = sym is ∙ gone in absurd cc;
  }

  -- the level has a number for one more
  room : left ≡ true → last + 1 ≤ LAST_NUMBER
  room e = let counted : nat_lt last LAST_NUMBER ≡ true = (and_parts _ _ e).1 in omega (arith, ltb-true _ _ counted)

  plain_new : left ≡ true → Plain (turn true)
  plain_new e = record {
    kept = subst (λ s. IsKept (rows X m p w) v s) (sym new_state) (tidy_kept X m p w v then sound (tidy (holds true e)));
    gentle = λ before. subst (λ s. IsGentle (rows X m p w) v s) (sym new_state) (tidy_gentle X m p w v then sound (tidy (holds true e)) gentle);
    acts = refl;
    gone = subst (λ k. Gone (rows X m p w) (seen (state_of true) Assert) k q.place) (sym kind) tt;
    known = λ number next exchange told. let no : Assert ≡ Exchange = sym kind ∙ exchange in absurd cc;
    granted = λ context assert told. subst (λ s. context_met X m p w s context) (sym new_state) (met context (written.told (last + 1) context (room e) told));
  }
    where
      met : (context : ℕ) → context ≡ last + 1 → context_met X m p w then context
      met context e =
          let it : ((last + 1) == context) ≡ true = grind (arith, nat_tests, e) in
          inr (ap (λ t. t || is_mine v.mine context) it, omega (arith, e, last_now))

  pub plain_assert : Plain (serve X m p w v when q)
  plain_assert = subst Plain (sym served) (at left refl)
    where
      at : (t : Bool) → left ≡ t → Plain (turn t)
      at true e = plain_new e
      at false e = plain_full
