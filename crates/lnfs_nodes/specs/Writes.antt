-- Operations whose results are written where they are found.
use Rattle.std.specs.Prelude.{◌≡◌, List, ◌++◌, ℕ, Result, Ok, Err}
use Rattle.lnfs_results.specs.declared.types.OpResult.{OpResult}
use Rattle.lnfs_results.specs.Texts.{result_text}
use Rattle.lnfs_world.specs.World.{World}
use Rattle.lnfs_world.specs.Outcome.{Place, Outcome, done_to}
use Rattle.lnfs_operations.specs.Chain.{Answer, Done, Refused}
use Rattle.lnfs_operations.specs.declared.Refusal.{Refusal}
use Rattle.lnfs_nodes.specs.Trees.{refusal_of}

-- What was appended: the result of a success, and nothing where the operation is refused.
abbrev pub Wrote : {R : Type 0} → (old new : List ℕ) → (R → OpResult) → Answer R → Result (Unit {0}) Refusal → Type 0
Wrote old new told (Done r) (Ok it) = new ≡ old ++ result_text (told r)
Wrote old new told (Refused why) (Err e) = (refusal_of e ≡ why) × (new ≡ old)
Wrote old new told _ _ = ⊥

pub record Writes {R : Type 0} (old new : List ℕ) (told : R → OpResult) (at : Place) (before after : World) (o : Outcome (Answer R)) (result : Result (Unit {0}) Refusal) : Type 0 where
  pub place : o.place ≡ at
  pub world : after ≡ done_to before o
  pub wrote : Wrote old new told o.answer result
