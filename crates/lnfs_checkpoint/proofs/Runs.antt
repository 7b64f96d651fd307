-- What events get, and the states that they lead to.
use Rattle.std.proofs.Common.{◌≡◌, ◌+◌, ℕ, List, [], ◌∷◌, ◌++◌, length, refl, sym, ap, ◌∙◌, arith}
use Rattle.std.proofs.lemmas.List.{length_push}
use Rattle.lnfs_types.specs.declared.event.Event.{Event}
use Rattle.lnfs_policy.specs.Policy.{Policy}
use Rattle.lnfs_gss3.specs.Mechanism.{Signing}
use Rattle.lnfs_world.specs.Both.{Both}
use Rattle.lnfs_operations.specs.Extra.{Extra}
use Rattle.lnfs_step.specs.ContextBounds.{ContextsFit}
use Rattle.lnfs_step.specs.Step.{step_with}
use Rattle.lnfs_step.specs.Journal.{Holds, first_state, state_from, state_after, reply_with, line_with, answer_with}
use Rattle.lnfs_step.proofs.Steps.{state_from-append}
use Rattle.lnfs_checkpoint.specs.Resumed.{Got, got_from, got_after}

module _ (X : Extra) (m : Signing) (p : Policy) where
  -- as the numbers and the states before are the same
  got_same : (n k : ℕ) (b c : Both X.Row) (events : List Event) → n ≡ k → b ≡ c → got_from X m p n b events ≡ got_from X m p k c events
  got_same n k b c events num state = λ i. got_from X m p (num i) (state i) events

  -- what the later events get is got from where the earlier ones lead
  pub got_append : (n : ℕ) (b : Both X.Row) (a more : List Event) → got_from X m p n b (a ++ more) ≡ got_from X m p n b a ++ got_from X m p (n + length a) (state_from X m p b a) more
  unfolding got_from state_from
  got_append n b [] more = got_same n (n + 0) b b more (omega arith) refl
  got_append n b (event ∷ a) more =
      let step = step_with X m p b event in
      let count : (n + 1) + length a ≡ n + length (event ∷ a) = omega arith in
      let rest = got_append (n + 1) step.state a more ∙ ap (λ (got : List Got). got_from X m p (n + 1) step.state a ++ got) (got_same ((n + 1) + length a) (n + length (event ∷ a)) (state_from X m p step.state a) (state_from X m p step.state a) more count refl) in
      ap (λ (got : List Got). record { reply = step.reply; line = step.line; number = n + 1 } ∷ got) rest

  -- what is got from the state behind a journal is told by the journal
  pub got_journal : ((journal : List Event) (event : Event) → reply_with X m p journal event ≡ answer_with X m p journal event) → (a b : List Event) → got_from X m p (length a) (state_after X m p a) b ≡ got_after X m p a b
  unfolding got_from got_after reply_with line_with
  got_journal same a [] = refl
  got_journal same a (event ∷ b) =
      let step = step_with X m p (state_after X m p a) event in
      let reply = same a event in
      let rest = got_same (length a + 1) (length (a ++ event ∷ [])) step.state (state_after X m p (a ++ event ∷ [])) b (sym (length_push a event)) (sym (state_from-append X m p (first_state X p) a event)) ∙ got_journal same (a ++ event ∷ []) b in
      λ i. record { reply = reply i; line = step.line; number = length a + 1 } ∷ rest i

  -- contexts fit in each state that events lead to
  pub contexts_after : ((b : Both X.Row) (event : Event) → Holds X p b → Holds X p (step_with X m p b event).state)
      → ((b : Both X.Row) (event : Event) → Holds X p b → ContextsFit p b.world → ContextsFit p (step_with X m p b event).state.world)
      → (b : Both X.Row) → Holds X p b → ContextsFit p b.world → (a : List Event) → ContextsFit p (state_from X m p b a).world
  unfolding state_from
  contexts_after facts each b holds fit [] = fit
  contexts_after facts each b holds fit (event ∷ a) = contexts_after facts each (step_with X m p b event).state (facts b event holds) (each b event holds fit) a
