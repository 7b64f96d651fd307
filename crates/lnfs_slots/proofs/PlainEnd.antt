-- The law of the end of a context: it is gone, and all else of the client stays.
use Rattle.std.proofs.Common.{◌≡◌, inl, ℕ, Bool, true, false, cond, ◌&&◌, ◌||◌, List, None, refl, sym, ◌∙◌, ap, subst, arith}
use Rattle.std.specs.Prelude.{◌==◌}
use Rattle.std.proofs.lemmas.Bool.Decides.{nat_tests}
use Rattle.lnfs_calipso.specs.Label.{IsPreorderWithBottom}
use Rattle.lnfs_types.specs.declared.event.Event.{Event}
use Rattle.lnfs_policy.specs.Policy.{Policy, dominance}
use Rattle.lnfs_world.specs.World.{Id, World, same_id, last_of}
use Rattle.lnfs_world.specs.Change.{DropContext, apply}
use Rattle.lnfs_world.specs.Both.{Both, both}
use Rattle.lnfs_world.proofs.Keys.{id_itself}
use Rattle.lnfs_operations.specs.Extra.{Extra, AreLawful}
use Rattle.lnfs_gss3.specs.Contexts.{is_under, context_at, has_context}
use Rattle.lnfs_gss3.specs.Mechanism.{Signing}
use Rattle.lnfs_step.specs.Request.{EndContext}
use Rattle.lnfs_step.specs.Contexts.{is_there}
use Rattle.lnfs_step.specs.Journal.{Holds}
use Rattle.lnfs_step.specs.Step.{Step, step_with}
use Rattle.lnfs_step.proofs.Steps.{keeps}
use Rattle.lnfs_once.specs.Client.{Assert, Exchange, End, Packet}
use Rattle.lnfs_once.specs.Laws.{Gone, IsKept, IsGentle, IsPlain, Comes}
use Rattle.lnfs_slots.specs.OneClient.{Seen, When, Writer, at_level, is_mine, mine_after, keeps_in, event_of, serve, context_there, IsSound, rows}
use Rattle.lnfs_slots.specs.Written.{context_of, call_of, IsEnd}
use Rattle.lnfs_slots.proofs.Contexts.{context_at-dropped, ended_state}
use Rattle.lnfs_slots.proofs.Steps.{step_there, step_lost, there_is}
use Rattle.lnfs_slots.proofs.Tidy.{IsTidy, IsGentleToo, tidy_kept, tidy_gentle, same_tidy, same_gentle}

module _ (X : Extra) (owed : AreLawful X) (m : Signing) (p : Policy) (lattice : IsPreorderWithBottom (dominance p)) {A : Type 0} (w : Writer A) (v : Seen X) (when : When) (q : Packet A) (kind : q.kind ≡ End) (written : IsEnd X m p w q) (came : Comes (rows X m p w) v q) where
  abbrev b : Both X.Row
  b = v.state

  abbrev event : Event
  event = event_of X m p w when q

  abbrev ended : ℕ
  ended = q.place.context

  abbrev j : Id
  j = at_level w.level ended

  abbrev u : World
  u = apply (DropContext j) b.world

  abbrev then : Seen X
  then = record { state = both u b.own; mine = v.mine }

  sound : IsSound X m p w v
  sound = came.good

  -- the state of the server, with the client's contexts
  abbrev seen : Both X.Row → (mine : List ℕ) → Seen X
  seen a mine = record { state = a; mine = mine }

  seen_as : (step : Step (Both X.Row)) (a : Both X.Row) → step.state ≡ a → (i k : ℕ) → seen step.state (mine_after q.kind i k v.mine) ≡ seen a v.mine
  seen_as step a e i k = λ l. seen (e l) (mine_after (kind l) i k v.mine)

  state_as : (a : Both X.Row) → (step_with X m p b event).state ≡ a → (serve X m p w v when q).state ≡ seen a v.mine
  state_as a e = seen_as (step_with X m p b event) a e (last_of w.level b.world.lasts.contexts) (last_of w.level (step_with X m p b event).state.world.lasts.contexts)

  -- ---- the contexts

  has_now : (c : ℕ) → has_context u.contexts w.level w.parent c ≡ cond (same_id (at_level w.level c) j) false (has_context b.world.contexts w.level w.parent c)
  has_now c = ap (is_under w.parent) (context_at-dropped j b.world.contexts (at_level w.level c)) ∙ at (same_id (at_level w.level c) j)
    where
      at : (t : Bool) → is_under w.parent (cond t None (context_at b.world.contexts (at_level w.level c))) ≡ cond t false (has_context b.world.contexts w.level w.parent c)
      at true = refl
      at false = refl

  gone_now : context_there X m p w then ended ≡ false
  gone_now =
      let some = written.some in
      let zero : (ended == 0) ≡ false = grind (arith, nat_tests, some) in
      let has : has_context u.contexts w.level w.parent ended ≡ false = has_now ended ∙ ap (λ t. cond t false (has_context b.world.contexts w.level w.parent ended)) (id_itself j) in
      grind (arith, zero, has)

  ends_now : (c : ℕ) → context_there X m p w v c ≡ false → context_there X m p w then c ≡ false
  ends_now c gone = ap (λ h. c == 0 || (is_mine v.mine c && h)) (has_now c) ∙ at (same_id (at_level w.level c) j)
    where
      at : (t : Bool) → (c == 0 || (is_mine v.mine c && cond t false (has_context b.world.contexts w.level w.parent c))) ≡ false
      at true = grind (arith, gone)
      at false = gone

  tidy : (step_with X m p b event).state ≡ then.state → IsTidy X m p w v then
  tidy is =
      let before = same_tidy X m p w v sound in
      record {
        holds = subst (Holds X p) is (keeps X owed m p lattice event b sound.holds);
        numbers = sound.numbers;
        records = λ n c there. inl there;
        sessions = λ n y there. there;
        owners = λ n y there. refl;
        last_clients = omega arith;
        last_sessions = omega arith;
        last_contexts = omega arith;
        mine = λ c is. is;
        given = before.given;
        ends = λ c met gone. ends_now c gone;
      }

  -- ---- the law

  abbrev Plain : Type 0
  Plain = IsPlain (rows X m p w) v q (serve X m p w v when q)

  by_state : (t : Seen X) → (serve X m p w v when q).state ≡ t → IsTidy X m p w v t → (context_there X m p w v ended ≡ false → IsGentleToo X m p w v t) → context_there X m p w t ended ≡ false → Plain
  by_state t is tidied gently gone = record {
    kept = subst (IsKept (rows X m p w) v) (sym is) (tidy_kept X m p w v t sound tidied);
    gentle = λ before. subst (IsGentle (rows X m p w) v) (sym is) (tidy_gentle X m p w v t sound tidied (gently (subst (λ k. Gone (rows X m p w) v k q.place) kind before)));
    acts = ap (keeps_in X p b event) written.request;
    gone = subst (λ s. Gone (rows X m p w) s q.kind q.place) (sym is) (subst (λ k. Gone (rows X m p w) t k q.place) (sym kind) gone);
    known = λ number next exchange told. let no : End ≡ Exchange = sym kind ∙ exchange in absurd cc;
    granted = λ context assert told. let no : End ≡ Assert = sym kind ∙ assert in absurd cc;
  }

  pub plain_end : Plain
  plain_end = at (context_there X m p w v ended) refl
    where
      same_there : is_there b.world.contexts w.level (context_of w.parent ended) ≡ context_there X m p w v ended
      same_there = there_is X m p w v ended came.knows.1

      at : (t : Bool) → context_there X m p w v ended ≡ t → Plain
      at false e =
          let step = step_lost X m p b event (call_of X m p w q) (EndContext ended) written.request (same_there ∙ e) in
          by_state v (state_as b (ap (λ (s : Step (Both X.Row)). s.state) step)) (same_tidy X m p w v sound) (λ before. same_gentle X m p w v) e
      at true e =
          let step = step_there X m p b event (call_of X m p w q) (EndContext ended) written.request (same_there ∙ e) in
          let state : (step_with X m p b event).state ≡ both u b.own = ap (λ (s : Step (Both X.Row)). s.state) step ∙ ended_state X m p b event (call_of X m p w q) ended in
          by_state then (state_as (both u b.own) state) (tidy state) (λ before. let no : true ≡ false = sym e ∙ before in absurd cc) gone_now
