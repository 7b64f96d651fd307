-- What named files hold, in the order of their names.
use Rattle.std.specs.Prelude.{ℕ, List, [], ◌∷◌, Result}
use Rattle.std.specs.declared.option.Option.{Option}
use Rattle.std.specs.declared.option.Option.TheVariants.{None}
use Rattle.lnfs_outside.specs.Bytes.{Told}
use Rattle.lnfs_stage.specs.declared.stop.Stop.{Stop}
use Rattle.lnfs_stage.specs.Seen.{Seen}
use Rattle.lnfs_stage.specs.Due.{Due}
use Rattle.lnfs_stage.specs.Does.{Does, Holds}

abbrev pub Contents : Type 0
Contents = List (Option (List ℕ))

abbrev pub first : Contents → Option (List ℕ)
first [] = None
first (found ∷ more) = found

abbrev pub others : Contents → Contents
others [] = []
others (found ∷ more) = more

-- each of the names stands for a file of that content, or for none, as far as contents are told
abbrev pub AllHold : Told → List (List ℕ) → Contents → Type 0
AllHold content [] [] = Unit {0}
AllHold content [] (found ∷ more) = ⊥
AllHold content (name ∷ names) [] = ⊥
AllHold content (name ∷ names) (found ∷ more) = Holds content name found × AllHold content names more

-- the call did what is due for what the named files hold
pub record Follows {T : Type 0} (result : Result T Stop) (before after : Seen) (names : List (List ℕ)) (due : Contents → Due) : Type 0 where
  pub contents : Contents
  pub held : AllHold before.content names contents
  pub does : Does result before after (due contents)
