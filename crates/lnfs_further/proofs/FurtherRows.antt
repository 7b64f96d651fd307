-- The rows of further operations are those of the locks in them.
use Rattle.std.proofs.Common.{◌≡◌, List, [], ◌∷◌, refl, sym, ◌∙◌, ap, subst}
use Rattle.lnfs_world.specs.World.{World}
use Rattle.lnfs_beside.specs.Sides.{lefts, rights, both_rows}
use Rattle.lnfs_beside.proofs.SidesLaws.{lefts-both, rights-both}
use Rattle.lnfs_locks.specs.Facts.{LockFacts}
use Rattle.lnfs_locks.specs.Locks.{Locks, rows_of, locks_of}
use Rattle.lnfs_further.specs.Further.{further, further_rows, locks_in}

-- the locks in the rows of locks are these
pub locks_again : (own : Locks) → locks_in (further_rows own) ≡ own
locks_again own =
    ap locks_of (lefts-both (rows_of own) [])
    ∙ (λ i. record { lasts = lefts-both own.lasts own.locks i; locks = rights-both own.lasts own.locks i })

-- sparse files have none
no_rows : (vs : List ⊥) → vs ≡ []
no_rows [] = refl
no_rows (v ∷ vs) = absurd v

-- and of the rows of a kept state there are no others
pub rows_again : (w : World) (rows : List (further).Row) → (further).Fact w rows → rows ≡ further_rows (locks_in rows)
rows_again w rows fact =
    fact.2
    ∙ (ap (λ us. both_rows us (rights rows)) fact.0.order
    ∙ ap (λ vs. both_rows (rows_of (locks_in rows)) vs) (no_rows (rights rows)))

-- what holds of locks holds of their rows
pub fact_of_locks : (w : World) (own : Locks) → LockFacts w own → (further).Fact w (further_rows own)
fact_of_locks w own facts =
    let rows : List (further).Row = further_rows own in (
      record {
        facts = subst (LockFacts w) (sym (locks_again own)) facts;
        order = lefts-both (rows_of own) [] ∙ ap rows_of (sym (locks_again own));
      },
      tt,
      sym (ap (λ us. both_rows us (rights rows)) (lefts-both (rows_of own) []) ∙ ap (λ vs. both_rows (rows_of own) vs) (rights-both (rows_of own) [])),
    )
