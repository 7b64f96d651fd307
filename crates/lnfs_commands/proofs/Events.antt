-- The writes of events, one event after another; whatever the server answers.
use Rattle.std.proofs.Common.{◌≡◌, ℕ, List, [], ◌∷◌, ◌++◌, ap, refl, sym, ◌∙◌, unwrap_or, append_assoc, append-nil}
use Rattle.std.specs.declared.option.Option.{Option}
use Rattle.lnfs_types.specs.declared.event.Event.{Event}
use Rattle.lnfs_stage.specs.Writes.{Write, on_out, on_audit}
use Rattle.lnfs_commands.specs.Events.{framed, answer_writes, writes_after, frames_after, lines_after}

module _ (reply line : List Event → Event → Option (List ℕ)) where
  -- some events, and then others
  pub writes_join : (journal xs ys : List Event) → writes_after reply line journal (xs ++ ys) ≡ writes_after reply line journal xs ++ writes_after reply line (journal ++ xs) ys
  unfolding writes_after
  writes_join journal [] ys = ap (λ j. writes_after reply line j ys) (sym (append-nil journal))
  writes_join journal (x ∷ xs) ys =
      let first : List Write = answer_writes (reply journal x) (line journal x) in
      let others : List Write = writes_after reply line (journal ++ x ∷ []) xs in
      ap (λ ws. first ++ ws) (writes_join (journal ++ x ∷ []) xs ys ∙ ap (λ j. others ++ writes_after reply line j ys) (append_assoc journal (x ∷ []) xs))
      ∙ sym (append_assoc first others (writes_after reply line (journal ++ x ∷ xs) ys))

  pub writes_one : (journal : List Event) (event : Event) → writes_after reply line journal (event ∷ []) ≡ answer_writes (reply journal event) (line journal event)
  unfolding writes_after
  writes_one journal event = append-nil (answer_writes (reply journal event) (line journal event))

  -- stream by stream
  pub out_is : (journal events : List Event) → on_out (writes_after reply line journal events) ≡ frames_after reply journal events
  unfolding writes_after frames_after
  out_is journal [] = refl
  out_is journal (event ∷ events) = ap (λ l. framed (reply journal event) ++ l) (out_is (journal ++ event ∷ []) events)

  pub audit_is : (journal events : List Event) → on_audit (writes_after reply line journal events) ≡ lines_after line journal events
  unfolding writes_after lines_after
  audit_is journal [] = refl
  audit_is journal (event ∷ events) = ap (λ l. unwrap_or (line journal event) [] ++ l) (audit_is (journal ++ event ∷ []) events)
