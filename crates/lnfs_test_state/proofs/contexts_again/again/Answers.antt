use Rattle.std.proofs.Common.{◌≡◌, ℕ, List, map, sym, subst, ap, ◌∙◌}
use Rattle.lnfs_world.specs.World.{Id, Context}
use Rattle.lnfs_rows.specs.Told.{context_of}
use Rattle.lnfs_rows.specs.Lasts.{given_of, each_of}
use Rattle.lnfs_gss3.specs.Contexts.{Lists}
use Rattle.lnfs_gss3.specs.Makes.{MakesContexts}
use Rattle.lnfs_test_state.proofs.contexts_again.again.Goals as goal

makes_again : (t : Lists) → MakesContexts t.contexts t.lasts → given_of (each_of 2 t.lasts) ≡ t.lasts → (contexts : List Context) (numbers : List ℕ) → contexts ≡ t.contexts → numbers ≡ each_of 2 t.lasts → MakesContexts contexts (given_of numbers)
makes_again t makes lasts contexts numbers contexts_are numbers_are =
    subst (λ (is : List Id). MakesContexts contexts is) (sym (ap given_of numbers_are ∙ lasts))
    (subst (λ (xs : List Context). MakesContexts xs t.lasts) (sym contexts_are) makes)

pub from_rows-requires : goal.from_rows-requires
from_rows-requires c = record { makes = makes_again c.args.contexts.now c.requires.makes c.requires.lasts _ _ (ap (map context_of) c.deref.ensures.value ∙ c.in_ok-rows.ensures) (c.deref-2.ensures.value ∙ c.in_ok-numbers.ensures) }
