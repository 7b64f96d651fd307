use Rattle.std.proofs.Common.{◌≡◌, ℕ, List, map, sym, subst, ap, ◌∙◌}
use Rattle.lnfs_world.specs.World.{Id, Open}
use Rattle.lnfs_rows.specs.Told.{open_of}
use Rattle.lnfs_rows.specs.Lasts.{given_of, each_of}
use Rattle.lnfs_open.specs.Lists.{Lists}
use Rattle.lnfs_open.specs.Makes.{MakesOpens}
use Rattle.lnfs_test_state.proofs.opens_again.again.Goals as goal

makes_again : (t : Lists) → MakesOpens t.opens t.lasts → given_of (each_of 2 t.lasts) ≡ t.lasts → (opens : List Open) (numbers : List ℕ) → opens ≡ t.opens → numbers ≡ each_of 2 t.lasts → MakesOpens opens (given_of numbers)
makes_again t makes lasts opens numbers opens_are numbers_are =
    subst (λ (is : List Id). MakesOpens opens is) (sym (ap given_of numbers_are ∙ lasts))
    (subst (λ (os : List Open). MakesOpens os t.lasts) (sym opens_are) makes)

pub from_rows-requires : goal.from_rows-requires
from_rows-requires c = record { makes = makes_again c.args.opens.now c.requires.makes c.requires.lasts _ _ (ap (map open_of) c.deref.ensures.value ∙ c.in_ok-rows.ensures) (c.deref-2.ensures.value ∙ c.in_ok-numbers.ensures) }
