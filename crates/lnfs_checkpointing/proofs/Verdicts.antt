-- A verdict on a checkpoint, and what is due by it.
use Rattle.std.proofs.Common.{◌≡◌, ℕ, List, [], ◌∷◌, refl, sym, ap, subst, ◌∙◌, inl, inr}
use Rattle.std.specs.Prelude.{Result, Ok, Err, IsSome}
use Rattle.std.specs.Global.{Vec}
use Rattle.std.specs.declared.option.Option.{Option}
use Rattle.std.specs.declared.option.Option.TheVariants.{Some, None}
use Rattle.lnfs_policy.specs.Policy.{Policy}
use Rattle.lnfs_policy.specs.PolicyText.{Refused, policy_of}
use Rattle.lnfs_checkpoint.specs.declared.errors.CheckpointError.{CheckpointError}
use Rattle.lnfs_checkpoint.specs.declared.errors.CheckpointError.TheVariants as errors
use Rattle.lnfs_checkpoint.specs.Resumed.{Resumed}
use Rattle.lnfs_checkpoint.specs.Takes.{Verdict, IsVerdict, Takes, told_of}
use Rattle.lnfs_stage.specs.declared.ending.Ending.{Ending}
use Rattle.lnfs_stage.specs.declared.ending.Ending.TheVariants.{CheckpointRefused}
use Rattle.lnfs_stage.specs.declared.ending.CheckpointCause.TheVariants as causes
use Rattle.lnfs_stage.specs.declared.stop.Stop.{Stop}
use Rattle.lnfs_stage.specs.declared.stop.Stop.TheVariants.{Ends, ReadFault, WriteFault, NetFault, Memory}
use Rattle.lnfs_stage.specs.declared.status.Status.{Status}
use Rattle.lnfs_stage.specs.Ending.{status_of, told_by}
use Rattle.lnfs_stage.specs.Seen.{Seen}
use Rattle.lnfs_stage.specs.Due.{Due, written, given}
use Rattle.lnfs_stage.specs.Does.{Does, Becomes, ReadsIn}
use Rattle.lnfs_stage.specs.Contents.{Contents, first, AllHold, Follows}
use Rattle.lnfs_stage.proofs.Doing.{does_end, does_short, does_then}
use Rattle.lnfs_stage.proofs.Reading.{unread, unread_held, stopped, follows_over}
use Rattle.lnfs_commands.specs.Commands.{judged, ends_by}
use Rattle.lnfs_commands.specs.Rules.{IsTaken, RulesIn}
use Rattle.lnfs_commands.proofs.Ruling.{stopped_rules, under_rules, was_ruled}
use Rattle.lnfs_checkpointing.specs.Checkpoints.{stop_of, resumed, resumption_behind, resumption_under, resumption_due, IsSaid, IsGiven, IsJudged, Resumes}

-- ---- a call that stopped told an ending that was due, or it gave up

gave_up : {T : Type 0} (U : Type 0) (stop : Stop) {s t : Seen} (due : Due) → due.ending ≡ None → Does {T = T} (Err stop) s t due → told_by (status_of {T = U} (Err stop)) ≡ None
gave_up U (Ends ending) due none p = let h : ⊥ = (let e : Some ending ≡ None = p.whole.0 ∙ none in cc) in absurd h
gave_up U ReadFault due none p = refl
gave_up U WriteFault due none p = refl
gave_up U NetFault due none p = refl
gave_up U Memory due none p = refl

-- ---- what stands of a verdict when the ending was told

said_later : (p : Policy) (bytes : List ℕ) (before after : Status) (verdict : Option Verdict) → Becomes before after → IsSaid p bytes before verdict → IsSaid p bytes after verdict
said_later p bytes before after (Some verdict) b s = s
said_later p bytes before after None (inl same) s = ap told_by same ∙ s
said_later p bytes before after None (inr late) s = let no : IsSome {T = Option Ending} None = subst (λ (o : Option (Option Ending)). IsSome o) s late.0 in let h : ⊥ = cc in absurd h

pub judged_later : (files : Contents) (before after : Status) (verdict : Option Verdict) → Becomes before after → IsJudged files before verdict → IsJudged files after verdict
judged_later files before after verdict b j = record { said = λ text bytes p is_text is_policy is_bytes. said_later p bytes before after verdict b (j.said text bytes p is_text is_policy is_bytes) }

pub same_items : (a b : List ℕ) (found : Option (List ℕ)) → found ≡ Some a → found ≡ Some b → a ≡ b
same_items a b found p q = let e : Some a ≡ Some b = sym p ∙ q in cc

pub same_policy : (found : Option (List ℕ)) (p other : Policy) → IsTaken found (λ spelled. spelled ≡ p) → (text : List ℕ) → found ≡ Some text → policy_of text ≡ Ok other → p ≡ other
same_policy found p other t text is_text is_policy =
    let e : Ok t.rules ≡ Ok other = sym t.is_rules ∙ ap policy_of (same_items t.text text found t.is_text is_text) ∙ is_policy in
    let same : t.rules ≡ other = cc in
    sym t.say ∙ same

-- ---- the checkpoint under a policy

module _ (p : Policy) (name traffic : List ℕ) {T : Type 0} {result : Result T Stop} {r s : Seen} where
  -- it couldn't be read, or there is none
  pub unread_checkpoint : (stop : Stop) → result ≡ Err stop → ReadsIn (Err stop) r s name → Resumes result r s (name ∷ traffic ∷ []) (IsGiven p) (resumption_under p name traffic)
  unread_checkpoint stop is q = rw is (record {
    verdict = None;
    follows = record {
      contents = q.found ∷ unread r.content (traffic ∷ []);
      held = (q.held, unread_held r.content (traffic ∷ []));
      does = stopped stop q.found name (λ bytes. written []) refl q.does;
    };
    judged = record { said = λ bytes is_bytes. gave_up T stop (given q.found name (λ bytes. written [])) (ap (λ (o : Option (List ℕ)). (given o name (λ bytes. written [])).ending) is_bytes) q.does };
  })

  -- it was read
  module _ (bytes : Vec ℕ) (q : ReadsIn (Ok bytes) r s name) where
    read_then : {t : Seen} (verdict : Option Verdict) → Follows result s t (traffic ∷ []) (resumption_behind p traffic verdict) → IsSaid p bytes.items (status_of result) verdict → Resumes result r t (name ∷ traffic ∷ []) (IsGiven p) (resumption_under p name traffic)
    read_then verdict f said = record {
      verdict = verdict;
      follows = record {
        contents = q.found ∷ f.contents;
        held = (q.held, subst (λ content. AllHold content (traffic ∷ []) f.contents) q.does.stays.content f.held);
        does = rw q.text (does_then bytes (written []) (resumption_behind p traffic verdict f.contents) (rw q.text at q.does) f.does);
      };
      judged = record { said = λ items is_items. subst (λ (l : List ℕ). IsSaid p l (status_of result) verdict) (same_items bytes.items items q.found q.text is_items) said };
    }

    stops : (ending : Ending) (error : CheckpointError) → result ≡ Err (Ends ending) → stop_of error ≡ Ends ending → IsVerdict p bytes.items (Err error) → Resumes result r s (name ∷ traffic ∷ []) (IsGiven p) (resumption_under p name traffic)
    stops ending error is told v = read_then (Some (Err error)) (follows_over (traffic ∷ []) (λ files. ends_by (stop_of error)) (λ files. rw told (does_end ending s is))) v

    pub refused : (stop : Stop) (error : CheckpointError) → result ≡ Err stop → stop ≡ stop_of error → Takes p bytes.items (Err error) → Resumes result r s (name ∷ traffic ∷ []) (IsGiven p) (resumption_under p name traffic)
    refused stop (errors.Damaged at) is told v = stops (CheckpointRefused (causes.Damaged at)) (errors.Damaged at) (is ∙ ap Err told) refl v
    refused stop errors.Policy is told v = stops (CheckpointRefused causes.Policy) errors.Policy (is ∙ ap Err told) refl v
    refused stop errors.Unfit is told v = stops (CheckpointRefused causes.Unfit) errors.Unfit (is ∙ ap Err told) refl v
    refused stop errors.Memory is told v = read_then None (follows_over (traffic ∷ []) (λ files. written []) (λ files. does_short s (written []) (is ∙ ap Err told))) (ap (λ (x : Result T Stop). told_by (status_of x)) (is ∙ ap Err told))

    pub taken : {t : Seen} (server : Resumed) → Takes p bytes.items (Ok server) → server.policy ≡ p → Follows result s t (traffic ∷ []) (λ files. given (first files) traffic (resumed server.policy (told_of server))) → Resumes result r t (name ∷ traffic ∷ []) (IsGiven p) (resumption_under p name traffic)
    taken {t} server v same f = read_then (Some (Ok (told_of server))) (subst (λ (p : Policy). Follows result s t (traffic ∷ []) (λ files. given (first files) traffic (resumed p (told_of server)))) same f) v

-- ---- the policy of a name

module _ (policy name traffic : List ℕ) {T : Type 0} {result : Result T Stop} {r s : Seen} where
  -- there is none
  pub unruled : (stop : Stop) → result ≡ Err stop → RulesIn (Err stop) r s policy → Resumes result r s (policy ∷ name ∷ traffic ∷ []) IsJudged (resumption_due policy name traffic)
  unruled stop is q = rw is (record {
    verdict = None;
    follows = record {
      contents = q.policy ∷ unread r.content (name ∷ traffic ∷ []);
      held = (q.held, unread_held r.content (name ∷ traffic ∷ []));
      does = stopped_rules stop q.policy policy (λ p. resumption_under p name traffic None (unread r.content (name ∷ traffic ∷ []))) refl q.does;
    };
    judged = record {
      said = λ text bytes p is_text is_policy is_bytes. gave_up T stop (given q.policy policy (λ text. judged (policy_of text) (λ p. written [])))
          (ap (λ (o : Option (List ℕ)). (given o policy (λ text. judged (policy_of text) (λ p. written []))).ending) is_text ∙ ap (λ (o : Result Policy Refused). (judged o (λ p. written [])).ending) is_policy) q.does;
    };
  })

  pub ruled : {t : Seen} (p : Policy) → RulesIn (Ok p) r s policy → Resumes result s t (name ∷ traffic ∷ []) (IsGiven p) (resumption_under p name traffic) → Resumes result r t (policy ∷ name ∷ traffic ∷ []) IsJudged (resumption_due policy name traffic)
  ruled {t} p q f = record {
    verdict = f.verdict;
    follows = record {
      contents = q.policy ∷ f.follows.contents;
      held = (q.held, subst (λ content. AllHold content (name ∷ traffic ∷ []) f.follows.contents) q.does.stays.content f.follows.held);
      does = subst (λ (d : Due). Does result r t d) (sym (under_rules policy q.policy p q.taken (λ p. resumption_under p name traffic f.verdict f.follows.contents)))
          (does_then p (written []) (resumption_under p name traffic f.verdict f.follows.contents) (was_ruled policy p q) f.follows.does);
    };
    judged = record { said = λ text bytes other is_text is_policy is_bytes. subst (λ (x : Policy). IsSaid x bytes (status_of result) f.verdict) (same_policy q.policy p other q.taken text is_text is_policy) (f.judged.said bytes is_bytes) };
  }
