-- What a run leaves alone: it asks the net for nothing before a service begins or a link is dialled.
use Rattle.std.specs.Prelude.{◌≡◌}
use Rattle.std.specs.declared.option.Option.{Option}
use Rattle.std.specs.declared.option.Option.TheVariants.{Some, None}
use Rattle.lnfs_stage.specs.declared.status.Status.{Status}
use Rattle.lnfs_commands.specs.Words.{Asked, alone, serve, talk, judge, save, resume}
use Rattle.lnfs_service.specs.Serves.{IsIdleBefore}
use Rattle.lnfs_dialling.specs.Visits.{IsIdleTill}

-- the net of a run; where no links are asked for it is as it was, however the run ends
abbrev pub IsIdle : {N : Type 0} → Option Asked → Status → (net net' : N) → Type 0
IsIdle None ending net net' = net' ≡ net
IsIdle (Some (alone form)) ending net net' = net' ≡ net
IsIdle (Some (serve policy links workers)) ending net net' = IsIdleBefore ending net net'
IsIdle (Some (talk policy level script)) ending net net' = IsIdleTill ending net net'
IsIdle (Some (judge policy traffic replies purged)) ending net net' = net' ≡ net
IsIdle (Some (save policy traffic)) ending net net' = net' ≡ net
IsIdle (Some (resume policy checkpoint traffic)) ending net net' = net' ≡ net
