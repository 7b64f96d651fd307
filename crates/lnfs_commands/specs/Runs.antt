-- A run that waits for nobody.
use Rattle.std.specs.Prelude.{◌≡◌, [], Result, Ok, Err}
use Rattle.std.specs.declared.option.Option.{Option}
use Rattle.std.specs.declared.option.Option.TheVariants.{Some, None}
use Rattle.lnfs_stage.specs.declared.stop.Stop.{Stop}
use Rattle.lnfs_stage.specs.declared.stop.Stop.TheVariants.{Memory}
use Rattle.lnfs_stage.specs.Seen.{Seen}
use Rattle.lnfs_stage.specs.Due.{written, told}
use Rattle.lnfs_stage.specs.Does.{Does, HandedOn}
use Rattle.lnfs_stage.specs.Contents.{Follows}
use Rattle.lnfs_commands.specs.declared.command.Work.{Work}
use Rattle.lnfs_commands.specs.Commands.{files_of, due}
use Rattle.lnfs_commands.specs.Words.{Form, under, Asked, alone, serve, talk, judge, save, resume, work}

-- it did what is due for the form of its words, with the line that tells the ending, and handed it on
pub record Runs {T : Type 0} (result : Result T Stop) (form : Option Form) (before after : Seen) : Type 0 where
  pub follows : Follows result before after (files_of form) (λ files. told (due form files))
  pub handed : HandedOn result before after

-- there was no memory to begin
pub record IsShort {T : Type 0} (result : Result T Stop) (before after : Seen) : Type 0 where
  pub memory : result ≡ Err Memory
  pub does : Does result before after (written [])
  pub handed : HandedOn result before after

-- what was done here
abbrev pub RunsQuietly : {T : Type 0} → Result T Stop → Option Asked → Seen → Seen → Type 0
RunsQuietly result None before after = Runs result None before after
RunsQuietly result (Some (alone form)) before after = Runs result (Some form) before after
RunsQuietly result (Some (serve policy links workers)) before after = IsShort result before after
RunsQuietly result (Some (talk policy level script)) before after = IsShort result before after
RunsQuietly result (Some (judge policy traffic replies purged)) before after = IsShort result before after
RunsQuietly result (Some (save policy traffic)) before after = IsShort result before after
RunsQuietly result (Some (resume policy checkpoint traffic)) before after = IsShort result before after

-- all was done, unless crates above this one do it: then nothing was
abbrev pub RunsAlone : Result (Option Work) Stop → Option Asked → Seen → Seen → Type 0
RunsAlone (Ok (Some other)) asked before after = (asked ≡ Some (work other)) × (after ≡ before)
RunsAlone (Ok None) asked before after = RunsQuietly {T = Unit {0}} (Ok tt) asked before after
RunsAlone (Err stop) asked before after = RunsQuietly {T = Unit {0}} (Err stop) asked before after

-- the files of a form; where it asks for no task none was opened or read
abbrev pub IsUntouched : {F : Type 0} → Option Form → (files files' : F) → Type 0
IsUntouched (Some (under policy task)) files files' = Unit {0}
IsUntouched form files files' = files' ≡ files

-- the same of a run, and of what crates above this one do, who read files for it
abbrev pub IsUnread : {F : Type 0} → Option Asked → (files files' : F) → Type 0
IsUnread None files files' = files' ≡ files
IsUnread (Some (alone form)) files files' = IsUntouched (Some form) files files'
IsUnread (Some (serve policy links workers)) files files' = Unit {0}
IsUnread (Some (talk policy level script)) files files' = Unit {0}
IsUnread (Some (judge policy traffic replies purged)) files files' = Unit {0}
IsUnread (Some (save policy traffic)) files files' = Unit {0}
IsUnread (Some (resume policy checkpoint traffic)) files files' = Unit {0}
