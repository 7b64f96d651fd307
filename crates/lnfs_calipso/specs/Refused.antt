-- What is answered to a list of labels.
use Rattle.std.specs.Prelude.{◌≡◌, ◌==◌, ℕ, ◌<◌, ◌≤◌, false, List, length, Result, Ok, Err, MatchBool}
use Rattle.lnfs_calipso.specs.Label.{Label, label_at, dominates}
use Rattle.lnfs_calipso.specs.Levels.{AreLevels, StandsEarlier, Apart, AllAbove}
use Rattle.lnfs_calipso.specs.declared.lattice.TheConstants.{MAX_LEVELS}
use Rattle.lnfs_calipso.specs.declared.lattice.LatticeError.{LatticeError}
use Rattle.lnfs_calipso.specs.declared.lattice.LatticeError.TheVariants.{Twice, NoBottom, TooMany, Memory}

-- the label at place i is the first that stands earlier too
pub record IsTwice (labels : List Label) (i : ℕ) : Type 0 where
  pub few : length labels ≤ MAX_LEVELS
  pub inside : i < length labels
  pub earlier : StandsEarlier labels i
  pub first : Apart labels i

-- the label at place i is the first that doesn't dominate the first
pub record IsBelow (labels : List Label) (i : ℕ) : Type 0 where
  pub inside : i < length labels
  pub below : dominates (label_at labels i) (label_at labels 0) ≡ false
  pub first : AllAbove labels i

-- no label stands earlier, and that at place i is the first that doesn't dominate the first; of no label that is place 0
pub record HasNoBottom (labels : List Label) (i : ℕ) : Type 0 where
  pub few : length labels ≤ MAX_LEVELS
  pub apart : Apart labels (length labels)
  pub below : MatchBool (length labels == 0) (i ≡ 0) (IsBelow labels i)

-- the labels are those of levels, and each dominates the first
pub record AreTold (labels levels : List Label) : Type 0 where
  pub same : levels ≡ labels
  pub levels_are : AreLevels labels
  pub above : AllAbove labels (length labels)

-- each label dominates the first, or the first of the three tests that fails says why not
abbrev pub Levels : List Label → Result (List Label) LatticeError → Type 0
Levels labels (Ok levels) = AreTold labels levels
Levels labels (Err TooMany) = MAX_LEVELS < length labels
Levels labels (Err (Twice i)) = IsTwice labels i
Levels labels (Err (NoBottom i)) = HasNoBottom labels i
Levels labels (Err Memory) = Unit {0}

-- the first is decreed to be below all: no label stands earlier, or the first of the three tests that fails says why not
abbrev pub Decreed : List Label → Result (List Label) LatticeError → Type 0
Decreed labels (Ok levels) = (levels ≡ labels) × AreLevels labels
Decreed labels (Err TooMany) = MAX_LEVELS < length labels
Decreed labels (Err (Twice i)) = IsTwice labels i
Decreed labels (Err (NoBottom i)) = (i ≡ 0) × (length labels ≡ 0)
Decreed labels (Err Memory) = Unit {0}
