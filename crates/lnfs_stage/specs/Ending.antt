-- How a run ends where nothing failed on the way, the line that tells it, and the exit status.
use Rattle.std.specs.Prelude.{ℕ, List, [], ◌∷◌, ◌++◌, codes, Result, Ok, Err}
use Rattle.std.specs.Fmt.{decimal}
use Rattle.std.specs.declared.option.Option.{Option}
use Rattle.std.specs.declared.option.Option.TheVariants.{Some, None}
use Rattle.lnfs_policy.specs.Policy.{cause_name}
use Rattle.lnfs_stage.specs.declared.ending.Ending.{Ending}
use Rattle.lnfs_stage.specs.declared.ending.Ending.TheVariants.{Usage, PolicyRefused, TrafficDamaged, NoFile, Untranslated, ScriptRefused, LinkClosed, CheckpointRefused}
use Rattle.lnfs_stage.specs.declared.ending.MapCause.{MapCause}
use Rattle.lnfs_stage.specs.declared.ending.MapCause.TheVariants.{WrongLfs, BadLabel, NoRow}
use Rattle.lnfs_stage.specs.declared.ending.CheckpointCause.{CheckpointCause}
use Rattle.lnfs_stage.specs.declared.ending.CheckpointCause.TheVariants.{Damaged, Policy, Unfit}
use Rattle.lnfs_stage.specs.declared.stop.Stop.{Stop}
use Rattle.lnfs_stage.specs.declared.stop.Stop.TheVariants as stop
use Rattle.lnfs_stage.specs.declared.status.Status.{Status}
use Rattle.lnfs_stage.specs.declared.status.Status.TheVariants as status

-- the text of a cause
abbrev pub map_cause_name : MapCause → List ℕ
map_cause_name WrongLfs = codes "WrongLfs"
map_cause_name BadLabel = codes "BadLabel"
map_cause_name NoRow = codes "NoRow"

abbrev pub checkpoint_line : CheckpointCause → List ℕ
checkpoint_line (Damaged at) = codes "fault 14 checkpoint damaged at " ++ decimal at ++ 10 ∷ []
checkpoint_line Policy = codes "fault 14 checkpoint policy\n"
checkpoint_line Unfit = codes "fault 14 checkpoint unfit\n"

-- the line on the audit stream that tells an ending
abbrev pub fault_line : Ending → List ℕ
fault_line Usage = codes "fault 2 usage\n"
fault_line (PolicyRefused line cause) = codes "fault 3 policy line " ++ decimal line ++ codes " cause " ++ cause_name cause ++ 10 ∷ []
fault_line (TrafficDamaged at) = codes "fault 4 traffic damaged at " ++ decimal at ++ 10 ∷ []
fault_line (NoFile name) = codes "fault 9 no file " ++ name ++ 10 ∷ []
fault_line (Untranslated cause) = codes "fault 10 untranslated " ++ map_cause_name cause ++ 10 ∷ []
fault_line (ScriptRefused line) = codes "fault 12 script line " ++ decimal line ++ 10 ∷ []
fault_line LinkClosed = codes "fault 13 link closed\n"
fault_line (CheckpointRefused cause) = checkpoint_line cause

-- the status of a call that ended, or gave up
abbrev pub status_of : {T : Type 0} → Result T Stop → Status
status_of (Ok value) = status.Ok
status_of (Err (stop.Ends ending)) = status.Ends ending
status_of (Err stop.ReadFault) = status.ReadFault
status_of (Err stop.WriteFault) = status.WriteFault
status_of (Err stop.Memory) = status.Memory
status_of (Err stop.NetFault) = status.NetFault

-- the ending that a status tells, if it isn't that all is well; none where the run gave up
abbrev pub told_by : Status → Option (Option Ending)
told_by status.Ok = Some None
told_by (status.Ends ending) = Some (Some ending)
told_by status.ReadFault = None
told_by status.WriteFault = None
told_by status.Memory = None
told_by status.NetFault = None

-- the exit status
abbrev pub number_of_ending : Ending → ℕ
number_of_ending Usage = 2
number_of_ending (PolicyRefused line cause) = 3
number_of_ending (TrafficDamaged at) = 4
number_of_ending (NoFile name) = 9
number_of_ending (Untranslated cause) = 10
number_of_ending (ScriptRefused line) = 12
number_of_ending LinkClosed = 13
number_of_ending (CheckpointRefused cause) = 14

abbrev pub number_of : Status → ℕ
number_of status.Ok = 0
number_of (status.Ends ending) = number_of_ending ending
number_of status.ReadFault = 5
number_of status.WriteFault = 6
number_of status.Memory = 7
number_of status.NetFault = 8
