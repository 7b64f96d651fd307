-- What an operation on locks comes to, as what it says and what it leaves.
use Rattle.std.proofs.Common.{◌≡◌, ◌∙◌, ℕ, sym, ap, subst, [], List, Some, Result, Ok, Err}
use Rattle.std.specs.Prelude.{IfOk}
use Rattle.std.specs.Option.{option_map}
use Rattle.lnfs_world.specs.World.{World}
use Rattle.lnfs_world.specs.Outcome.{Site}
use Rattle.lnfs_world.specs.Both.{both}
use Rattle.lnfs_operations.specs.declared.Refusal.{Refusal}
use Rattle.lnfs_operations.specs.Chain.{Answer, Done, Refused}
use Rattle.lnfs_nodes.specs.Trees.{refusal_of}
use Rattle.lnfs_operations.specs.Extra.{place_at}
use Rattle.lnfs_tree.specs.Rows.{id_of}
use Rattle.lnfs_beside.proofs.SidesLaws.{lefts-both, rights-both}
use Rattle.lnfs_engine.specs.declared.extra.ExtraRan.{ExtraRan}
use Rattle.lnfs_engine.specs.declared.extra.Spot.{Spot}
use Rattle.lnfs_engine.specs.Further.{said_of, spot_of, after_of}
use Rattle.lnfs_locks.specs.Locks.{Locks, rows_of, locks_of}
use Rattle.lnfs_locks.specs.Effects.{Came, Denied, Free, Holds, kept_with}
use Rattle.lnfs_locks.specs.Facts.{LockFacts, AreKept}
use Rattle.lnfs_locks.specs.Outcome.{concluded, answered, outcome}
use Rattle.lnfs_byte_locks.specs.Answers.{said_by, locks_after, Ends}

-- locks as rows are those locks
pub same_locks : (own : Locks) → locks_of (rows_of own) ≡ own
same_locks own = λ k. record { lasts = lefts-both own.lasts own.locks k; locks = rights-both own.lasts own.locks k }

pub facts_of : (w : World) (own : Locks) → AreKept w (rows_of own) → LockFacts w own
facts_of w own kept = subst (LockFacts w) (same_locks own) kept.facts

concluded_by : (answer : Answer Came) (ran : ExtraRan) (at : Spot) (w : World) (old new : Locks) → Ends answer ran old new
    → after_of ran at (both w (rows_of new)) ≡ concluded answer (spot_of at) (both w (rows_of old))
concluded_by (Refused why) ran at w old new ends =
    λ k. record { said = ends.said k; current = option_map id_of at.current; saved = option_map id_of at.saved; state = both w (rows_of (ends.locks k)) }
concluded_by (Done (Denied d)) ran at w old new ends =
    λ k. record { said = ends.said k; current = option_map id_of at.current; saved = option_map id_of at.saved; state = both w (rows_of (ends.locks k)) }
concluded_by (Done Free) ran at w old new ends =
    λ k. record { said = ends.said k; current = option_map id_of at.current; saved = option_map id_of at.saved; state = both w (rows_of (ends.locks k)) }
concluded_by (Done (Holds l gone)) ran at w old new ends =
    let left : new ≡ kept_with l gone (locks_of (rows_of old)) = ends.locks ∙ ap (λ (own : Locks). kept_with l gone own) (sym (same_locks old)) in
    λ k. record { said = ends.said k; current = option_map id_of at.current; saved = option_map id_of at.saved; state = both w (rows_of (left k)) }

pub outcome_is : (site : Site) (number : ℕ) (arguments : List ℕ) (ran : ExtraRan) (at : Spot) (w : World) (old new : Locks) → Ends (answered site number arguments old (place_at (spot_of at)) w) ran old new
    → after_of ran at (both w (rows_of new)) ≡ outcome site number arguments (spot_of at) (both w (rows_of old))
outcome_is site number arguments ran at w old new ends =
    concluded_by (answered site number arguments old (place_at (spot_of at)) w) ran at w old new ends
    ∙ ap (λ (own : Locks). concluded (answered site number arguments own (place_at (spot_of at)) w) (spot_of at) (both w (rows_of old))) (sym (same_locks old))

-- as it runs on the locks that are kept
pub run_is : {E : Type 0} (site : Site) (number : ℕ) (arguments : List ℕ) (r : Result ExtraRan E) (at : Spot) (w : World) (old inside new : Locks) → inside ≡ old
    → IfOk r (λ ran. Ends (answered site number arguments inside (place_at (spot_of at)) w) ran inside new)
    → IfOk r (λ ran. after_of ran at (both w (rows_of new)) ≡ outcome site number arguments (spot_of at) (both w (rows_of old)))
run_is site number arguments (Ok ran) at w old inside new same ends =
    outcome_is site number arguments ran at w inside new ends ∙ ap (λ (own : Locks). outcome site number arguments (spot_of at) (both w (rows_of own))) same
run_is site number arguments (Err e) at w old inside new same ends = tt

-- an answer by another name
pub ends_as : {E : Type 0} (a b : Answer Came) (r : Result ExtraRan E) (old new : Locks) → a ≡ b → IfOk r (λ ran. Ends b ran old new) → IfOk r (λ ran. Ends a ran old new)
ends_as a b r old new same ends = subst (λ (x : Answer Came). IfOk r (λ ran. Ends x ran old new)) (sym same) ends

-- a refusal leaves all
pub refusal_ends : (answer : Answer Came) (why other : Refusal) (ran : ExtraRan) (own : Locks) → said_of ran ≡ record { refusal = Some (refusal_of why); bytes = [] } → why ≡ other → answer ≡ Refused (refusal_of other) → Ends answer ran own own
refusal_ends answer why other ran own said same is = record {
  said = said ∙ ap (λ (x : Refusal). said_by (Refused (refusal_of x))) same ∙ ap said_by (sym is);
  locks = ap (λ (a : Answer Came). locks_after a own) (sym is);
}
