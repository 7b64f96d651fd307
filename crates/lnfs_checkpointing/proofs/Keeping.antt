-- The checkpoint of a recording, which is taken again where all went well.
use Rattle.std.proofs.Common.{◌≡◌, ℕ, List, [], ◌∷◌, sym, ap, subst, ◌∙◌, inl, inr}
use Rattle.std.specs.Prelude.{Result, Ok, Err, OnOk}
use Rattle.std.specs.Global.{Vec}
use Rattle.lnfs_policy.specs.Policy.{Policy}
use Rattle.lnfs_traffic.specs.Parts.{recorded}
use Rattle.lnfs_stage.specs.declared.stop.Stop.{Stop}
use Rattle.lnfs_stage.specs.declared.stop.Stop.TheVariants.{Ends, ReadFault, WriteFault, NetFault, Memory}
use Rattle.lnfs_stage.specs.declared.status.Status.{Status}
use Rattle.lnfs_stage.specs.declared.status.Status.TheVariants as status
use Rattle.lnfs_stage.specs.Ending.{status_of}
use Rattle.lnfs_stage.specs.Seen.{Seen}
use Rattle.lnfs_stage.specs.Due.{Due, written, given}
use Rattle.lnfs_stage.specs.Does.{Does, Becomes, IsLate, ReadsIn}
use Rattle.lnfs_stage.specs.Contents.{Contents, first, AllHold, Follows}
use Rattle.lnfs_stage.proofs.Doing.{does_short, does_then}
use Rattle.lnfs_stage.proofs.Reading.{reads_stop, reads_then, follows_does}
use Rattle.lnfs_commands.specs.Rules.{RulesIn}
use Rattle.lnfs_commands.proofs.Ruling.{rules_stop, under_rules, was_ruled}
use Rattle.lnfs_checkpointing.specs.Checkpoints.{saved, saving_due, IsTakenAgain, IsKept, IsSaved, Saves}
use Rattle.lnfs_checkpointing.proofs.Verdicts.{same_items, same_policy}

-- ---- where all went well

-- a call that gave up, or told an ending, didn't go well
not_well : (T : Type 0) (stop : Stop) → status_of {T = T} (Err stop) ≡ status.Ok → ⊥
not_well T (Ends ending) e = cc
not_well T ReadFault e = cc
not_well T WriteFault e = cc
not_well T NetFault e = cc
not_well T Memory e = cc

on_well : {T : Type 0} (P : Type 0) (result : Result T Stop) → OnOk result P → status_of result ≡ status.Ok → P
on_well P (Ok value) p e = p
on_well {T} P (Err stop) p e = absurd (not_well T stop e)

-- then all had gone well before the ending was told
well_before : (before after : Status) → Becomes before after → after ≡ status.Ok → before ≡ status.Ok
well_before before after (inl same) e = sym same ∙ e
well_before before after (inr late) e = let h : ⊥ = subst IsLate e late.1 in absurd h

pub saved_later : (files : Contents) (before after : Status) → Becomes before after → IsSaved files before → IsSaved files after
saved_later files before after b k = record { again = λ text traffic p e is_text is_policy is_traffic. k.again text traffic p (well_before before after b e) is_text is_policy is_traffic }

-- ---- the recording under a policy

kept_stop : (p : Policy) {T : Type 0} (result : Result T Stop) (stop : Stop) → result ≡ Err stop → (files : Contents) → IsKept p files (status_of result)
kept_stop p {T} result stop is files = record { again = λ traffic e is_traffic. absurd (not_well T stop (ap (λ (x : Result T Stop). status_of x) (sym is) ∙ e)) }

module _ (p : Policy) (name : List ℕ) {T : Type 0} {result : Result T Stop} {r s : Seen} where
  -- the recording couldn't be read, or there is none
  pub kept_unread : (stop : Stop) → result ≡ Err stop → ReadsIn (Err stop) r s name → Saves result r s (name ∷ []) (IsKept p) (λ files. given (first files) name (saved p))
  kept_unread stop is q =
      let f : Follows result r s (name ∷ []) (λ files. given (first files) name (saved p)) = reads_stop name [] (λ (text : List ℕ) (files : Contents). saved p text) stop is q in
      record { follows = f; kept = kept_stop p result stop is f.contents }

  -- it was read, and there was no memory for a server
  pub kept_short : (bytes : Vec ℕ) → ReadsIn (Ok bytes) r s name → result ≡ Err Memory → Saves result r s (name ∷ []) (IsKept p) (λ files. given (first files) name (saved p))
  kept_short bytes q is =
      let f : Follows result r s (name ∷ []) (λ files. given (first files) name (saved p)) = reads_then name [] (λ (text : List ℕ) (files : Contents). saved p text) bytes q (follows_does (does_short s (saved p bytes.items) is)) in
      record { follows = f; kept = kept_stop p result Memory is f.contents }

  -- its events were served
  pub kept_then : {t : Seen} (bytes : Vec ℕ) → ReadsIn (Ok bytes) r s name → Does result s t (saved p bytes.items) → OnOk result (IsTakenAgain p (recorded bytes.items)) → Saves result r t (name ∷ []) (IsKept p) (λ files. given (first files) name (saved p))
  kept_then bytes q d k = record {
    follows = record {
      contents = q.found ∷ [];
      held = (q.held, tt);
      does = rw q.text (does_then bytes (written []) (saved p bytes.items) (rw q.text at q.does) d);
    };
    kept = record {
      again = λ items e is_items. subst (λ (l : List ℕ). IsTakenAgain p (recorded l)) (same_items bytes.items items q.found q.text is_items) (on_well (IsTakenAgain p (recorded bytes.items)) result k e);
    };
  }

-- ---- the policy of a name

module _ (policy name : List ℕ) {T : Type 0} {result : Result T Stop} {r s : Seen} where
  -- there is none
  pub saved_unruled : (stop : Stop) → result ≡ Err stop → RulesIn (Err stop) r s policy → Saves result r s (policy ∷ name ∷ []) IsSaved (saving_due policy name)
  saved_unruled stop is q = record {
    follows = rules_stop policy (name ∷ []) (λ (p : Policy) (files : Contents). given (first files) name (saved p)) stop is q;
    kept = record { again = λ text traffic p e is_text is_policy is_traffic. absurd (not_well T stop (ap (λ (x : Result T Stop). status_of x) (sym is) ∙ e)) };
  }

  pub saved_then : {t : Seen} (p : Policy) → RulesIn (Ok p) r s policy → Saves result s t (name ∷ []) (IsKept p) (λ files. given (first files) name (saved p)) → Saves result r t (policy ∷ name ∷ []) IsSaved (saving_due policy name)
  saved_then {t} p q f = record {
    follows = record {
      contents = q.policy ∷ f.follows.contents;
      held = (q.held, subst (λ content. AllHold content (name ∷ []) f.follows.contents) q.does.stays.content f.follows.held);
      does = subst (λ (d : Due). Does result r t d) (sym (under_rules policy q.policy p q.taken (λ p. given (first f.follows.contents) name (saved p))))
          (does_then p (written []) (given (first f.follows.contents) name (saved p)) (was_ruled policy p q) f.follows.does);
    };
    kept = record {
      again = λ text traffic other e is_text is_policy is_traffic. subst (λ (x : Policy). IsTakenAgain x (recorded traffic)) (same_policy q.policy p other q.taken text is_text is_policy) (f.kept.again traffic e is_traffic);
    };
  }
