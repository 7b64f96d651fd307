-- What the code says of a COMPOUND that ran.
use Rattle.std.specs.Prelude.{◌≡◌, ◌≤◌, ◌==◌, ℕ, List, ◌++◌, length, take, Option, Some, None, option_map, if◌then◌else◌}
use Rattle.std.specs.List.{flat_map}
use Rattle.lnfs_arguments.specs.declared.types.Compound.{Compound}
use Rattle.lnfs_arguments.specs.declared.statuses.TheConstants.{NFS4ERR_MINOR_VERS_MISMATCH}
use Rattle.lnfs_results.specs.declared.types.OpResult.{OpResult}
use Rattle.lnfs_results.specs.Numbered.{status_of_all}
use Rattle.lnfs_results.specs.Texts.{result_text}
use Rattle.lnfs_world.specs.Outcome as world
use Rattle.lnfs_operations.specs.Results as operations
use Rattle.lnfs_operations.specs.SlotRule.{Ran}
use Rattle.lnfs_engine.specs.declared.place.Keeper.{Keeper}
use Rattle.lnfs_engine.specs.declared.run.Denial.{Denial}
use Rattle.lnfs_engine.specs.declared.run.Ended.{Ended}
use Rattle.lnfs_engine.specs.declared.run.Ended.TheVariants as ended
use Rattle.lnfs_engine.specs.Places.{keeper_of}

abbrev pub denial_of : Denial → operations.Denial
denial_of d = record { place = d.place; number = d.number; gate = d.gate; status = d.status }

-- the status of a new result: that of the last operation, unless another minor version is refused
abbrev pub status_due : Compound → List OpResult → ℕ
status_due c results = if c.minor == 2 then status_of_all results else NFS4ERR_MINOR_VERS_MISMATCH

-- new results, which were appended
pub record EndsNew (old new : List ℕ) (due : ℕ) (results : List OpResult) (refused : Option operations.Denial) (again : Option (List ℕ)) (status count : ℕ) (denial : Option Denial) : Type 0 where
  pub none : again ≡ None
  pub text : new ≡ old ++ flat_map result_text results
  pub many : count ≡ length results
  pub last : status ≡ due
  pub denied : option_map denial_of denial ≡ refused

-- the head stands before new results
abbrev pub Reaches : (end : ℕ) → List ℕ → Ended → Type 0
Reaches end out (ended.New status count denial) = end ≤ length out
Reaches end out ended.Again = Unit {0}

-- what was kept, in the place of all from the mark on
pub record EndsAgain (begin : ℕ) (old new : List ℕ) (refused : Option operations.Denial) (again : Option (List ℕ)) : Type 0 where
  pub kept : List ℕ
  pub again_is : again ≡ Some kept
  pub text : new ≡ take begin old ++ kept
  pub denied : None ≡ refused

abbrev pub EndsBy : (begin : ℕ) (old new : List ℕ) (due : ℕ) (results : List OpResult) (refused : Option operations.Denial) (again : Option (List ℕ)) → Ended → Type 0
EndsBy begin old new due results refused again (ended.New status count denial) = EndsNew old new due results refused again status count denial
EndsBy begin old new due results refused again ended.Again = EndsAgain begin old new refused again

-- a COMPOUND that ran, and where it stands then
pub record Ends {S : Type 0} (begin : ℕ) (old new : List ℕ) (next : Keeper) (place : world.Place) (after : S) (due : ℕ) (ran : Ran S) (e : Ended) : Type 0 where
  pub place_is : ran.place ≡ place
  pub state : ran.state ≡ after
  pub keeper : ran.keeper ≡ keeper_of next
  pub ends : EndsBy begin old new due ran.results ran.denial ran.again e

abbrev pub denied_by : Ended → Option Denial
denied_by (ended.New status count denial) = denial
denied_by ended.Again = None
