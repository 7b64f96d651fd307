-- The labels of a site's levels, and which lists of labels can be that.
use Rattle.std.specs.Prelude.{◌≡◌, ℕ, ◌<◌, ◌≤◌, true, List, length}
use Rattle.lnfs_calipso.specs.Label.{Label, label_at, dominates}
use Rattle.lnfs_calipso.specs.declared.lattice.TheConstants.{MAX_LEVELS}

-- none of the first n labels stands earlier
abbrev pub Apart : List Label → ℕ → Type 0
Apart labels n = (i j : ℕ) → i < j → j < n → label_at labels i ≡ label_at labels j → ⊥

-- each of the first n labels dominates the first
abbrev pub AllAbove : List Label → ℕ → Type 0
AllAbove labels n = (i : ℕ) → i < n → dominates (label_at labels i) (label_at labels 0) ≡ true

-- The first of a site's levels, as far as they are told: at most 32 labels, of which no two are equal.
pub record AreFirstLevels (labels : List Label) : Type 0 where
  pub few : length labels ≤ MAX_LEVELS
  pub apart : Apart labels (length labels)

-- The levels of a site, of which there is at least one.
pub record AreLevels (labels : List Label) : Type 0 where
  pub some : 0 < length labels
  pub first : AreFirstLevels labels

-- the label at a place stands earlier too
pub record StandsEarlier (labels : List Label) (i : ℕ) : Type 0 where
  pub place : ℕ
  pub before : place < i
  pub same : label_at labels place ≡ label_at labels i

-- an equal label stands at this place
abbrev pub IsPlaceOf : List Label → Label → ℕ → Type 0
IsPlaceOf labels label i = (i < length labels) × (label_at labels i ≡ label)

-- no place has an equal label
abbrev pub IsNowhere : List Label → Label → Type 0
IsNowhere labels label = (i : ℕ) → i < length labels → label_at labels i ≡ label → ⊥
