-- The texts of events, one after another.
use Rattle.std.proofs.Common.{◌≡◌, ℕ, ◌+◌, ◌<◌, List, [], ◌∷◌, ◌++◌, length, take, drop, get_or, sym, subst, ap, ◌∙◌, append_assoc, append-nil}
use Rattle.std.specs.List.{flat_map}
use Rattle.std.proofs.lemmas.List.{take-append-drop, take_more}
use Rattle.std.proofs.lemmas.List.Concat.{flat_map-append}
use Rattle.lnfs_types.specs.declared.event.Event.{Event}
use Rattle.lnfs_xdr.specs.Format.{Spells}
use Rattle.lnfs_traffic.specs.Recording.{event, beginning, IsRecording}
use Rattle.lnfs_traffic.specs.Texts.{event_text, recording_text}
use Rattle.lnfs_traffic.proofs.Whole.{recording_more}

module _ (events : List Event) (n : ℕ) (e : Event) (less : n < length events) (is : e ≡ get_or events n e) where
  more : take (n + 1) events ≡ take n events ++ e ∷ []
  more = take_more events n e less ∙ ap (λ (x : Event). take n events ++ x ∷ []) (sym is)

  -- with the next event
  pub text_next : flat_map event_text (take (n + 1) events) ≡ flat_map event_text (take n events) ++ event_text e
  text_next =
      ap (flat_map event_text) more ∙ flat_map-append event_text (take n events) (e ∷ [])
      ∙ ap (λ (t : List ℕ). flat_map event_text (take n events) ++ t) (append-nil (event_text e))

  pub recorded_next : IsRecording (take n events) (recording_text (take n events)) → Spells event e (event_text e) → IsRecording (take (n + 1) events) (recording_text (take (n + 1) events))
  recorded_next r s =
      let text : recording_text (take (n + 1) events) ≡ recording_text (take n events) ++ event_text e =
      ap (λ (t : List ℕ). beginning ++ t) text_next ∙ sym (append_assoc beginning (flat_map event_text (take n events)) (event_text e)) in
      subst (λ (es : List Event). IsRecording es (recording_text (take (n + 1) events))) (sym more)
      (subst (λ (t : List ℕ). IsRecording (take n events ++ e ∷ []) t) (sym text) (recording_more (take n events) e (recording_text (take n events)) (event_text e) r s))

  -- and then the others
  pub text_split : (flat_map event_text (take n events) ++ event_text e) ++ flat_map event_text (drop (n + 1) events) ≡ flat_map event_text events
  text_split =
      ap (λ (t : List ℕ). t ++ flat_map event_text (drop (n + 1) events)) (sym text_next)
      ∙ sym (flat_map-append event_text (take (n + 1) events) (drop (n + 1) events)) ∙ ap (flat_map event_text) (take-append-drop (n + 1) events)
