-- A run without a service.
use Rattle.std.proofs.Common.{◌≡◌, [], refl}
use Rattle.std.specs.Prelude.{Result, Err}
use Rattle.std.specs.declared.option.Option.{Option}
use Rattle.std.specs.declared.option.Option.TheVariants.{Some, None}
use Rattle.lnfs_stage.specs.declared.stop.Stop.{Stop}
use Rattle.lnfs_stage.specs.declared.stop.Stop.TheVariants.{Memory}
use Rattle.lnfs_stage.specs.Seen.{Seen}
use Rattle.lnfs_stage.specs.Due.{Due, written, told}
use Rattle.lnfs_stage.specs.Does.{Does, HandedOn}
use Rattle.lnfs_stage.proofs.Writing.{front_first}
use Rattle.lnfs_stage.proofs.Reading.{follows_over}
use Rattle.lnfs_commands.specs.Commands.{due, files_of}
use Rattle.lnfs_commands.specs.Runs.{Runs, RunsAlone, IsUntouched, IsUnread}
use Rattle.lnfs_commands.specs.Words.{Form, help, version, under, Asked, alone, serve, talk, judge, save, resume}

-- there was no memory to begin
short_does : {S T : Type 0} {handed : Result S Stop} {s t : Seen} (due : Due) → Does handed s t (written []) → Does {T = T} (Err Memory) s t due
short_does due p = record { whole = tt; begun = front_first [] due.writes p.begun; stays = p.stays; excused = tt }

short_handed : {S T : Type 0} {handed : Result S Stop} {s t : Seen} → HandedOn handed s t → HandedOn {T = T} (Err Memory) s t
short_handed h = record { all = tt; out = h.out; audit = h.audit }

short_runs : {S T : Type 0} {handed : Result S Stop} {s t : Seen} (form : Option Form) → Does handed s t (written []) → HandedOn handed s t → Runs {T = T} (Err Memory) form s t
short_runs form p h = record { follows = follows_over (files_of form) (λ files. told (due form files)) (λ files. short_does (told (due form files)) p); handed = short_handed h }

pub short_alone : {S : Type 0} {handed : Result S Stop} {s t : Seen} (asked : Option Asked) → Does handed s t (written []) → HandedOn handed s t → RunsAlone (Err Memory) asked s t
short_alone None p h = short_runs None p h
short_alone (Some (alone form)) p h = short_runs (Some form) p h
short_alone (Some (serve policy links workers)) p h = record { memory = refl; does = short_does (written []) p; handed = short_handed h }
short_alone (Some (talk policy level script)) p h = record { memory = refl; does = short_does (written []) p; handed = short_handed h }
short_alone (Some (judge policy traffic replies purged)) p h = record { memory = refl; does = short_does (written []) p; handed = short_handed h }
short_alone (Some (save policy traffic)) p h = record { memory = refl; does = short_does (written []) p; handed = short_handed h }
short_alone (Some (resume policy checkpoint traffic)) p h = record { memory = refl; does = short_does (written []) p; handed = short_handed h }

-- files that were left alone
untouched_same : {F : Type 0} (form : Form) (files files' : F) → files' ≡ files → IsUntouched (Some form) files files'
untouched_same help files files' same = same
untouched_same version files files' same = same
untouched_same (under policy task) files files' same = tt

pub unread_same : {F : Type 0} (asked : Option Asked) (files files' : F) → files' ≡ files → IsUnread asked files files'
unread_same None files files' same = same
unread_same (Some (alone form)) files files' same = untouched_same form files files' same
unread_same (Some (serve policy links workers)) files files' same = tt
unread_same (Some (talk policy level script)) files files' same = tt
unread_same (Some (judge policy traffic replies purged)) files files' same = tt
unread_same (Some (save policy traffic)) files files' same = tt
unread_same (Some (resume policy checkpoint traffic)) files files' same = tt

-- they are left alone by what comes behind
pub untouched_then : {F : Type 0} (form : Option Form) (a b c : F) → IsUntouched form a b → c ≡ b → IsUntouched form a c
untouched_then None a b c u same = rw same u
untouched_then (Some help) a b c u same = rw same u
untouched_then (Some version) a b c u same = rw same u
untouched_then (Some (under policy task)) a b c u same = tt
