-- A run that goes on from what another one wrote.
use Rattle.std.proofs.Common.{◌≡◌, ℕ, List, [], ◌∷◌, ◌++◌, refl, sym, ap, ◌∙◌, append-nil, append_assoc}
use Rattle.std.specs.Prelude.{Ok, IsSome}
use Rattle.std.specs.declared.option.Option.{Option}
use Rattle.std.specs.declared.option.Option.TheVariants.{Some, None}
use Rattle.lnfs_types.specs.declared.event.Event.{Event}
use Rattle.lnfs_policy.specs.Policy.{Policy}
use Rattle.lnfs_policy.specs.PolicyText.{policy_of}
use Rattle.lnfs_gss3.specs.Mechanism.{keyed_digest}
use Rattle.lnfs_step.specs.Journal.{Holds, first_state, state_after, reply_with, answer_with}
use Rattle.lnfs_traffic.specs.Parts.{recorded}
use Rattle.lnfs_checkpoint.specs.Resumed.{got_from}
use Rattle.lnfs_checkpoint.specs.Takes.{Verdict, IsVerdict, AreBytes}
use Rattle.lnfs_stage.specs.declared.ending.Ending.{Ending}
use Rattle.lnfs_stage.specs.declared.status.Status.{Status}
use Rattle.lnfs_stage.specs.Ending.{told_by}
use Rattle.lnfs_stage.specs.Writes.{Write, to_out, to_audit, on_out}
use Rattle.lnfs_stage.specs.Due.{written, follow, given}
use Rattle.lnfs_stage.specs.Contents.{Contents, first, others}
use Rattle.lnfs_commands.specs.Commands.{replayed}
use Rattle.lnfs_further.specs.Further.{further}
use Rattle.lnfs_checkpointing.specs.Checkpoints.{Ruling, line_alone, writes_of, ending_after, saved, text_behind, told_behind, resumption_behind, resumption_due, IsSaid, IsJudged, IsTakenAgain}
use Rattle.lnfs_checkpointing.proofs.Breaking.{silent, resumed_is}

-- ---- what the first one writes to `out`

out_behind : (ws : List Write) (text : List ℕ) → on_out (ws ++ to_out text ∷ []) ≡ on_out ws ++ text
out_behind [] text = append-nil text
out_behind (to_out other ∷ ws) text = ap (λ (l : List ℕ). other ++ l) (out_behind ws text) ∙ sym (append_assoc other (on_out ws) text)
out_behind (to_audit line ∷ ws) text = out_behind ws text

alone : (ws : List Write) (text : List ℕ) (ending : Option Ending) → on_out ws ≡ [] → (follow ws ending (written (to_out text ∷ []))).ending ≡ None → on_out (follow ws ending (written (to_out text ∷ []))).writes ≡ text
alone ws text None none e = out_behind ws text ∙ ap (λ (l : List ℕ). l ++ text) none
alone ws text (Some ending) none e = let h : ⊥ = cc in absurd h

pub out_is : (p : Policy) (traffic : List ℕ) → (saved p traffic).ending ≡ None → on_out (saved p traffic).writes ≡ text_behind p (recorded traffic)
out_is p traffic e =
    alone (writes_of line_alone (got_from further keyed_digest p 0 (first_state further p) (recorded traffic))) (text_behind p (recorded traffic)) (ending_after traffic)
    (silent p 0 (first_state further p) (recorded traffic)) e

-- ---- the verdict on it

abbrev pub OneVerdict : Type 0
OneVerdict = (p : Policy) (bytes : List ℕ) → AreBytes bytes → (v w : Verdict) → IsVerdict p bytes v → IsVerdict p bytes w → v ≡ w

pub verdict_is : OneVerdict → (p : Policy) (a : List Event) → IsTakenAgain p a → (v : Verdict) → IsVerdict p (text_behind p a) v → v ≡ Ok (told_behind p a)
verdict_is one p a again v is = one p (text_behind p a) again.bytes v (Ok (told_behind p a)) is again.verdict

-- ---- what is due of the second one

abbrev pub Purged : Policy → Type 0
Purged p = (a : List Event) (e : Event) → reply_with further keyed_digest p a e ≡ answer_with further keyed_digest p a e

-- what holds of every state that is kept holds behind these events
abbrev pub Stands : Policy → List Event → Type 0
Stands p a = Holds further p (state_after further keyed_digest p a)

module _ (p : Policy) (traffic : List ℕ) where
  -- behind a verdict
  goes_on : OneVerdict → Purged p → (a : List Event) → Stands p a → IsTakenAgain p a → (files : Contents) (ending : Status) (verdict : Ruling) → IsSaid p (text_behind p a) ending verdict → IsSome (told_by ending)
      → resumption_behind p traffic verdict files ≡ given (first files) traffic (replayed further keyed_digest p a)
  goes_on one purged a holds again files ending (Some v) said some =
      ap (λ (v : Verdict). resumption_behind p traffic (Some v) files) (verdict_is one p a again v said) ∙ (λ i. given (first files) traffic (λ bytes. resumed_is p purged a holds bytes i))
  goes_on one purged a holds again files ending None said some = let h : ⊥ = cc in absurd h

  -- the files of the policy and of the checkpoint
  module _ (policy checkpoint : List ℕ) (verdict : Ruling) (files : Contents) (text bytes : List ℕ) where
    behind_files : first files ≡ Some text → policy_of text ≡ Ok p → first (others files) ≡ Some bytes → resumption_due policy checkpoint traffic verdict files ≡ resumption_behind p traffic verdict (others (others files))
    behind_files is_text is_policy is_bytes = rw (is_text, is_policy, is_bytes) refl

pub joined_is : OneVerdict → (p : Policy) → Purged p → (a : List Event) → Stands p a → IsTakenAgain p a → (files : Contents) (ending : Status) (verdict : Ruling) → IsJudged files ending verdict → IsSome (told_by ending)
    → (text : List ℕ) → first files ≡ Some text → policy_of text ≡ Ok p → first (others files) ≡ Some (text_behind p a)
    → (policy checkpoint traffic : List ℕ) → resumption_due policy checkpoint traffic verdict files ≡ given (first (others (others files))) traffic (replayed further keyed_digest p a)
joined_is one p purged a holds again files ending verdict judged some text is_text is_policy is_bytes policy checkpoint traffic =
    behind_files p traffic policy checkpoint verdict files text (text_behind p a) is_text is_policy is_bytes
    ∙ goes_on p traffic one purged a holds again (others (others files)) ending verdict (judged.said text (text_behind p a) p is_text is_policy is_bytes) some
