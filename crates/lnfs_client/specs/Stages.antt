-- The stage in which an action begins, and whether it goes beyond reading.
use Rattle.std.specs.Prelude.{Bool, true, false}
use Rattle.lnfs_script.specs.declared.identity.Identity.{Identity}
use Rattle.lnfs_script.specs.declared.identity.Identity.TheVariants.{Guest, Full}
use Rattle.lnfs_script.specs.declared.action.Action.{Action}
use Rattle.lnfs_script.specs.declared.action.Action.TheVariants.{Mount, List as ListNames, Read, Leave}
use Rattle.lnfs_client.specs.declared.stage.Stage.{Stage}
use Rattle.lnfs_client.specs.declared.stage.Stage.TheVariants.{Asserting, Exchanging, Asking, EndingSession}

abbrev pub first_mounting : Identity → Stage
first_mounting (Guest uid) = Exchanging
first_mounting (Full parent) = Asserting

-- the stage in which an action begins
abbrev pub first_stage : Identity → Action → Stage
first_stage who Mount = first_mounting who
first_stage who Leave = EndingSession
first_stage who action = Asking

-- whether an action reads alone
abbrev pub is_reading : Action → Bool
is_reading (ListNames path) = true
is_reading (Read path offset count) = true
is_reading action = false
