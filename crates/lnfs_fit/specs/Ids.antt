-- What identifiers of one kind have to be, with the last numbers of levels.
use Rattle.std.specs.Prelude.{◌≡◌, ◌==◌, ◌&&◌, ◌||◌, ℕ, Bool, true, List, nat_le}
use Rattle.std.specs.List.{AllByRecursion, slice_index_or}
use Rattle.lnfs_world.specs.Rows.{Rising}
use Rattle.lnfs_world.specs.World.{Id, id_order, is_given}
use Rattle.lnfs_world.specs.Tree.{root}
use Rattle.lnfs_world.specs.Outcome.{Site}
use Rattle.lnfs_world.specs.declared.numbers.TheConstants.{LAST_NUMBER}
use Rattle.lnfs_operations.specs.Sizes.{is_level}
use Rattle.lnfs_operations.specs.Bounds.{IsGivenBy}
use Rattle.lnfs_rows.specs.Lasts.{given_of}

abbrev pub nth_id : List Id → ℕ → Id
nth_id ids k = slice_index_or ids k root

-- no number was given, or one that a level of the site may give
abbrev pub is_fit_last : Site → (level number : ℕ) → Bool
is_fit_last site level number = number == 0 || is_level site level && nat_le number LAST_NUMBER

pub record IsFitId (site : Site) (last : List ℕ) (i : Id) : Type 0 where
  pub given : is_given (given_of last) i ≡ true
  pub bounds : IsGivenBy site i

-- They rise, none is above the last number of its level, and all are of levels of the site.
pub record AreGiven (site : Site) (last : List ℕ) (ids : List Id) : Type 0 where
  pub rise : Rising id_order ids
  pub given : AllByRecursion (λ i. is_given (given_of last) i ≡ true) ids
  pub bounds : AllByRecursion (IsGivenBy site) ids
  pub lasts : AllByRecursion (IsGivenBy site) (given_of last)
