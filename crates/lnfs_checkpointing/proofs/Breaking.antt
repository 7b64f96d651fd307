-- What is served behind a break, and what would have been served without it.
use Rattle.std.proofs.Common.{◌≡◌, ◌+◌, ℕ, List, [], ◌∷◌, ◌++◌, length, refl, sym, ap, ◌∙◌, unwrap_or}
use Rattle.std.specs.declared.option.Option.{Option}
use Rattle.std.proofs.lemmas.List.{length-append}
use Rattle.lnfs_types.specs.declared.event.Event.{Event}
use Rattle.lnfs_policy.specs.Policy.{Policy}
use Rattle.lnfs_world.specs.Both.{Both}
use Rattle.lnfs_gss3.specs.Mechanism.{keyed_digest}
use Rattle.lnfs_step.specs.Step.{step_with}
use Rattle.lnfs_step.specs.Journal.{Holds, first_state, state_from, state_after, reply_with, line_with, answer_with}
use Rattle.lnfs_step.proofs.Steps.{state_from-append}
use Rattle.lnfs_traffic.specs.Parts.{recorded}
use Rattle.lnfs_checkpoint.specs.Resumed.{got_from}
use Rattle.lnfs_checkpoint.proofs.Serving.{state_again}
use Rattle.lnfs_stage.specs.Writes.{Write, on_out, on_audit}
use Rattle.lnfs_commands.specs.Commands.{replayed}
use Rattle.lnfs_commands.specs.Events.{audit_with, writes_after, lines_after}
use Rattle.lnfs_further.specs.Further.{further}
use Rattle.lnfs_checkpointing.specs.Checkpoints.{line_alone, reply_and_line, writes_of, ending_after, resumed, told_behind}

module _ (p : Policy) where
  abbrev replies : List Event → Event → Option (List ℕ)
  replies = answer_with further keyed_digest p

  abbrev lines : List Event → Event → Option (List ℕ)
  lines = audit_with further keyed_digest p

  one_longer : (a : List Event) (e : Event) → length a + 1 ≡ length (a ++ e ∷ [])
  one_longer a e = sym (length-append a (e ∷ []))

  state_more : (a : List Event) (e : Event) → (step_with further keyed_digest p (state_after further keyed_digest p a) e).state ≡ state_after further keyed_digest p (a ++ e ∷ [])
  state_more a e = sym (state_from-append further keyed_digest p (first_state further p) a e)

  -- each reply is the one that is due behind a journal
  behind_journal : ((a : List Event) (e : Event) → reply_with further keyed_digest p a e ≡ answer_with further keyed_digest p a e) → (a events : List Event)
      → writes_of reply_and_line (got_from further keyed_digest p (length a) (state_after further keyed_digest p a) events) ≡ writes_after replies lines a events
  unfolding writes_of got_from writes_after reply_with audit_with line_with
  behind_journal purged a [] = refl
  behind_journal purged a (e ∷ events) =
      let step = step_with further keyed_digest p (state_after further keyed_digest p a) e in
      let now : Option (List ℕ) → List Write = λ reply. reply_and_line (record { reply = reply; line = step.line; number = length a + 1 }) in
      (λ i. now (purged a e i) ++ writes_of reply_and_line (got_from further keyed_digest p (one_longer a e i) (state_more a e i) events))
      ∙ ap (λ (ws : List Write). now (replies a e) ++ ws) (behind_journal purged (a ++ e ∷ []) events)

  -- the lines alone
  lines_behind : (a events : List Event) → on_audit (writes_of line_alone (got_from further keyed_digest p (length a) (state_after further keyed_digest p a) events)) ≡ lines_after lines a events
  unfolding writes_of got_from lines_after audit_with line_with
  lines_behind a [] = refl
  lines_behind a (e ∷ events) =
      let now : List ℕ = unwrap_or (audit_with further keyed_digest p a e) [] in
      (λ i. now ++ on_audit (writes_of line_alone (got_from further keyed_digest p (one_longer a e i) (state_more a e i) events)))
      ∙ ap (λ (l : List ℕ). now ++ l) (lines_behind (a ++ e ∷ []) events)

  pub lines_are : (events : List Event) → on_audit (writes_of line_alone (got_from further keyed_digest p 0 (first_state further p) events)) ≡ lines_after (audit_with further keyed_digest p) [] events
  unfolding state_from
  lines_are events = lines_behind [] events

  pub silent : (before : ℕ) (b : Both (further).Row) (events : List Event) → on_out (writes_of line_alone (got_from further keyed_digest p before b events)) ≡ []
  unfolding writes_of got_from
  silent before b [] = refl
  silent before b (e ∷ events) = silent (before + 1) (step_with further keyed_digest p b e).state events

  pub resumed_is : ((a : List Event) (e : Event) → reply_with further keyed_digest p a e ≡ answer_with further keyed_digest p a e) → (a : List Event) → Holds further p (state_after further keyed_digest p a) → (traffic : List ℕ)
      → resumed p (told_behind p a) traffic ≡ replayed further keyed_digest p a traffic
  resumed_is purged a holds traffic = λ i. record {
    writes = ((λ j. writes_of reply_and_line (got_from further keyed_digest p (length a) (state_again (state_after further keyed_digest p a) holds.own j) (recorded traffic))) ∙ behind_journal purged a (recorded traffic)) i;
    ending = ending_after traffic;
  }
