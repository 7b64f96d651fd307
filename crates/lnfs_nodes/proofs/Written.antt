-- Results that were written where they were found.
use Rattle.std.proofs.Common.{◌≡◌, ◌++◌, ℕ, List, [], Ok, Err, refl, ap, sym, subst, ◌∙◌, append_assoc, append-nil}
use Rattle.lnfs_xdr.specs.Canon.{word}
use Rattle.lnfs_results.specs.declared.types.OpResult.{OpResult}
use Rattle.lnfs_results.specs.Numbered.{number_of, status_of}
use Rattle.lnfs_results.specs.Texts.{fields_text, further_text, result_text}
use Rattle.lnfs_world.specs.World.{World}
use Rattle.lnfs_world.specs.Change.{Change, apply_all}
use Rattle.lnfs_world.specs.Outcome.{Place, Outcome}
use Rattle.lnfs_operations.specs.declared.Refusal.{Refusal}
use Rattle.lnfs_operations.specs.Chain.{Answer, refuse, done}
use Rattle.lnfs_nodes.specs.Writes.{Writes}

-- nothing is written of a refusal
pub refused_writes : {R : Type 0} (old new : List ℕ) (told : R → OpResult) (at : Place) (w : World) (o : Outcome (Answer R)) (why : Refusal) → o ≡ refuse at why.gate why.status → new ≡ old → Writes old new told at w w o (Err why)
refused_writes {R} old new told at w o why is same =
    subst (λ (o : Outcome (Answer R)). Writes old new told at w w o (Err why)) (sym is) (record { place = refl; world = refl; wrote = (refl, same) })

pub done_writes : {R : Type 0} (old new : List ℕ) (told : R → OpResult) (at : Place) (before after : World) (o : Outcome (Answer R)) (r : R) (changes : List Change) →
    o ≡ done at r changes → after ≡ apply_all changes before → new ≡ old ++ result_text (told r) → Writes old new told at before after o (Ok tt)
done_writes {R} old new told at before after o r changes is world wrote =
    subst (λ (o : Outcome (Answer R)). Writes old new told at before after o (Ok tt)) (sym is) (record { place = refl; world = world; wrote = wrote })

regroup : (old a b c none : List ℕ) → none ≡ [] → ((old ++ a) ++ b) ++ c ≡ old ++ (((a ++ b) ++ c) ++ none)
regroup old a b c none e = rw e (simp (append_assoc, append-nil))

-- the number, the status, and what follows
pub result_written : (r : OpResult) (old head start new : List ℕ) → head ≡ old ++ word (number_of r) → start ≡ head ++ word (status_of r) → new ≡ start ++ fields_text r → further_text r ≡ [] → new ≡ old ++ result_text r
unfolding result_text
result_written r old head start new number status fields none =
    fields ∙ ap (λ (b : List ℕ). b ++ fields_text r) (status ∙ ap (λ (b : List ℕ). b ++ word (status_of r)) number)
    ∙ regroup old (word (number_of r)) (word (status_of r)) (fields_text r) (further_text r) none
