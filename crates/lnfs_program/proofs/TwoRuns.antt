-- A run of `resume` behind one of `checkpoint`.
use Rattle.std.proofs.Common.{◌≡◌, ℕ, List, [], ◌∷◌, refl, sym, ap, ◌∙◌, subst}
use Rattle.std.specs.Prelude.{Ok, IfSome, IsSome}
use Rattle.std.specs.declared.option.Option.{Option}
use Rattle.std.specs.declared.option.Option.TheVariants.{Some, None}
use Rattle.lnfs_types.specs.declared.event.Event.{Event}
use Rattle.lnfs_types.specs.declared.event.Moment.{Moment}
use Rattle.lnfs_policy.specs.Policy.{Policy}
use Rattle.lnfs_policy.specs.PolicyText.{policy_of}
use Rattle.lnfs_gss3.specs.Mechanism.{keyed_digest}
use Rattle.lnfs_traffic.specs.Parts.{recorded}
use Rattle.lnfs_stage.specs.declared.ending.Ending.{Ending}
use Rattle.lnfs_stage.specs.declared.status.Status.{Status}
use Rattle.lnfs_stage.specs.declared.status.Status.TheVariants as status
use Rattle.lnfs_stage.specs.Seen.{Seen}
use Rattle.lnfs_stage.specs.Writes.{Takes, on_out}
use Rattle.lnfs_stage.specs.Ending.{told_by}
use Rattle.lnfs_stage.specs.Due.{Due, line_for, told, given}
use Rattle.lnfs_stage.specs.Contents.{Contents, first, others, AllHold}
use Rattle.lnfs_commands.specs.Commands.{replayed}
use Rattle.lnfs_commands.specs.Words.{save, resume}
use Rattle.lnfs_further.specs.Further.{further}
use Rattle.lnfs_service.specs.Handed.{Dealings}
use Rattle.lnfs_checkpointing.specs.Checkpoints.{Ruling, saved, saving_due, resumption_due, text_behind, IsJudged, IsTakenAgain}
use Rattle.lnfs_program.specs.Runs.{Runs, streams}
use Rattle.lnfs_program.specs.TwoRuns.{IsSpelledIn, Completes, replay_behind}

-- ---- what named files hold

module _ (look : List ℕ → Option (List ℕ)) (name : List ℕ) (names : List (List ℕ)) where
  first_is : (files : Contents) → AllHold (Some look) (name ∷ names) files → first files ≡ look name
  first_is [] h = absurd h
  first_is (found ∷ files) h = sym h.0

  others_hold : (files : Contents) → AllHold (Some look) (name ∷ names) files → AllHold (Some look) names (others files)
  others_hold [] h = absurd h
  others_hold (found ∷ files) h = h.1

-- ---- the laws of checkpoints

abbrev pub OutIs : Type 0
OutIs = (p : Policy) (traffic : List ℕ) → (saved p traffic).ending ≡ None → on_out (saved p traffic).writes ≡ text_behind p (recorded traffic)

abbrev pub ResumesAs : Type 0
ResumesAs = (p : Policy) (text : List ℕ) → policy_of text ≡ Ok p → (a : List Event) → IsTakenAgain p a
    → (files : Contents) (ending : Status) (verdict : Ruling) → IsJudged files ending verdict → IsSome (told_by ending)
    → first files ≡ Some text → first (others files) ≡ Some (text_behind p a)
    → (policy checkpoint traffic : List ℕ) → resumption_due policy checkpoint traffic verdict files ≡ given (first (others (others files))) traffic (replayed further keyed_digest p a)

-- ---- the first run

saving_is : (policy name : List ℕ) (p : Policy) (text traffic : List ℕ) (files : Contents) → first files ≡ Some text → policy_of text ≡ Ok p → first (others files) ≡ Some traffic → saving_due policy name files ≡ saved p traffic
saving_is policy name p text traffic files is_text is_policy is_traffic = rw (is_text, is_policy, is_traffic) refl

-- without an ending there is no line
unsaid : (due : Due) → due.ending ≡ None → (told due).writes ≡ due.writes
unsaid due e = ap (λ (o : Option Ending). (line_for due.writes o).writes) e

module _ (p : Policy) (look : List ℕ → Option (List ℕ)) (may : Moment → Type 0) (policy name traffic bytes : List ℕ) (audit audit' : Option (List ℕ)) (net : Dealings)
    (spelled : IsSpelledIn look policy p) (is_traffic : look name ≡ Some traffic)
    (r : Runs (Some look) may (Some (save policy name)) status.Ok (streams (Some []) audit) (streams (Some bytes) audit') net) where
  policy_read : first r.contents ≡ Some spelled.text
  policy_read = first_is look policy (name ∷ []) r.contents r.held ∙ spelled.is_text

  traffic_read : first (others r.contents) ≡ Some traffic
  traffic_read = first_is look name [] (others r.contents) (others_hold look policy (name ∷ []) r.contents r.held) ∙ is_traffic

  was_due : saving_due policy name r.contents ≡ saved p traffic
  was_due = saving_is policy name p spelled.text traffic r.contents policy_read spelled.is_policy traffic_read

  well : (saved p traffic).ending ≡ None
  well = ap (λ (d : Due). d.ending) (sym was_due) ∙ sym r.told_all.0

  pub wrote : OutIs → bytes ≡ text_behind p (recorded traffic)
  wrote out = r.told_all.1.out_took ∙ ap (λ (d : Due). on_out (told d).writes) was_due ∙ ap on_out (unsaid (saved p traffic) well) ∙ out p traffic well

  pub taken_again : IsTakenAgain p (recorded traffic)
  taken_again = r.judged.again spelled.text traffic p refl policy_read spelled.is_policy traffic_read

-- ---- the second one

completes : (o : Option (Option Ending)) (s t : Seen) (due due' : Due) → (IsSome o → due ≡ due') → IfSome o (λ e. (e ≡ due.ending) × Takes s t (told due).writes) → IfSome o (λ e. (e ≡ due'.ending) × Takes s t (told due').writes)
completes None s t due due' same p = tt
completes (Some e) s t due due' same p = subst (λ (d : Due). (e ≡ d.ending) × Takes s t (told d).writes) (same refl) p

pub goes_on : ResumesAs → (p : Policy) (events : List Event) → IsTakenAgain p events → (look : List ℕ → Option (List ℕ)) (may : Moment → Type 0) (policy checkpoint more : List ℕ) (ending : Status) (before after : Seen) (net : Dealings)
    → IsSpelledIn look policy p → look checkpoint ≡ Some (text_behind p events) → Runs (Some look) may (Some (resume policy checkpoint more)) ending before after net → Completes ending before after (replay_behind p events more (look more))
goes_on law p events again look may policy checkpoint more ending before after net spelled is_bytes r =
    let files : Contents = r.contents in
    let rest = others_hold look policy (checkpoint ∷ more ∷ []) files r.held in
    let last = others_hold look checkpoint (more ∷ []) (others files) rest in
    let policy_is : first files ≡ Some spelled.text = first_is look policy (checkpoint ∷ more ∷ []) files r.held ∙ spelled.is_text in
    let bytes_are : first (others files) ≡ Some (text_behind p events) = first_is look checkpoint (more ∷ []) (others files) rest ∙ is_bytes in
    let more_is : first (others (others files)) ≡ look more = first_is look more [] (others (others files)) last in
    completes (told_by ending) before after (resumption_due policy checkpoint more r.met.verdict files) (replay_behind p events more (look more))
    (λ some. law p spelled.text spelled.is_policy events again files ending r.met.verdict r.judged some policy_is bytes_are policy checkpoint more ∙ ap (λ (found : Option (List ℕ)). replay_behind p events more found) more_is) r.told_all
