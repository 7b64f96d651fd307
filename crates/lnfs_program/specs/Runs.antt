-- What a run did, against what is due.
use Rattle.std.specs.Prelude.{◌≡◌, ◌≤◌, ◌⊎◌, ℕ, List, [], ◌∷◌, Result, IfSome}
use Rattle.std.specs.declared.option.Option.{Option}
use Rattle.std.specs.declared.option.Option.TheVariants.{Some, None}
use Rattle.lnfs_types.specs.declared.event.Moment.{Moment}
use Rattle.lnfs_outside.specs.Bytes.{Told}
use Rattle.lnfs_outside.specs.Causes.{Rose}
use Rattle.lnfs_outside.specs.Nets.{Deal, Back}
use Rattle.lnfs_stage.specs.declared.stop.Stop.{Stop}
use Rattle.lnfs_stage.specs.declared.status.Status.{Status}
use Rattle.lnfs_stage.specs.declared.status.Status.TheVariants as status
use Rattle.lnfs_stage.specs.Seen.{Seen, stream, world}
use Rattle.lnfs_stage.specs.Writes.{Takes, TakesFront}
use Rattle.lnfs_stage.specs.Ending.{status_of, told_by}
use Rattle.lnfs_stage.specs.Due.{Due, told}
use Rattle.lnfs_stage.specs.Does.{DoesBy}
use Rattle.lnfs_stage.specs.Contents.{Contents, first, AllHold}
use Rattle.lnfs_commands.specs.Commands.{files_of, due}
use Rattle.lnfs_commands.specs.Words.{Asked, alone, serve, talk, judge, save, resume}
use Rattle.lnfs_service.specs.Handed.{Dealings, Deals, IsSpelled, IsService, AreServed}
use Rattle.lnfs_service.specs.Serves.{Remains, service_due}
use Rattle.lnfs_service.specs.Session.{Session, Nothing}
use Rattle.lnfs_dialling.specs.Visits.{AreVisited, IsVisit, MayVisit, visit_due}
use Rattle.lnfs_auditing.specs.Audits.{audit_due}
use Rattle.lnfs_checkpointing.specs.Checkpoints.{Ruling, saving_due, resumption_due, IsJudged, IsSaved}

-- What a run met: what a service came to, if it began, the records that came over the link of a client, if it was dialled, and the verdict on a checkpoint, if it was judged.
pub record Met : Type 0 where
  pub session : Option Session
  pub records : Option (List (List ℕ))
  pub verdict : Ruling

-- the files that the words name
abbrev pub files_asked : Option Asked → List (List ℕ)
files_asked None = files_of None
files_asked (Some (alone form)) = files_of (Some form)
files_asked (Some (serve policy links workers)) = policy ∷ []
files_asked (Some (talk policy level script)) = policy ∷ script ∷ []
files_asked (Some (judge policy traffic replies purged)) = policy ∷ traffic ∷ replies ∷ []
files_asked (Some (save policy traffic)) = policy ∷ traffic ∷ []
files_asked (Some (resume policy checkpoint traffic)) = policy ∷ checkpoint ∷ traffic ∷ []

-- what is due of them, for what these files hold, and for what was met, but for the ending's line
abbrev pub due_asked : Option Asked → Contents → Met → Due
due_asked None files met = due None files
due_asked (Some (alone form)) files met = due (Some form) files
due_asked (Some (serve policy links workers)) files met = service_due policy (first files) met.session
due_asked (Some (talk policy level script)) files met = visit_due policy level script files met.records
due_asked (Some (judge policy traffic replies purged)) files met = audit_due policy traffic replies purged files
due_asked (Some (save policy traffic)) files met = saving_due policy traffic files
due_asked (Some (resume policy checkpoint traffic)) files met = resumption_due policy checkpoint traffic met.verdict files

-- a status that the net has no part in
abbrev pub WithoutNet : Status → Type 0
WithoutNet status.NetFault = ⊥
WithoutNet ending = Unit {0}

-- the links of what is done without links
abbrev pub AreNone : Status → List Deal → List Back → Type 0
AreNone ending deals backs = WithoutNet ending × Nothing deals backs

-- the links of a run, which deals with the net only where links are asked for
abbrev pub Handed : (may : Moment → Type 0) → Contents → Met → Status → Option Asked → List Deal → List Back → Type 0
Handed may files met ending None deals backs = AreNone ending deals backs
Handed may files met ending (Some (alone form)) deals backs = AreNone ending deals backs
Handed may files met ending (Some (serve policy links workers)) deals backs = AreServed (IsSpelled (first files)) (IsService may (first files)) met.session ending links deals backs
Handed may files met ending (Some (talk policy level script)) deals backs = AreVisited (MayVisit files level) (IsVisit files level) met.records ending deals backs
Handed may files met ending (Some (judge policy traffic replies purged)) deals backs = AreNone ending deals backs
Handed may files met ending (Some (save policy traffic)) deals backs = AreNone ending deals backs
Handed may files met ending (Some (resume policy checkpoint traffic)) deals backs = AreNone ending deals backs

-- of the checkpoint: one that was written is taken again, and the verdict is that on one that was read
abbrev pub Judged : Contents → Met → Status → Option Asked → Type 0
Judged files met ending (Some (save policy traffic)) = IsSaved files ending
Judged files met ending (Some (resume policy checkpoint traffic)) = IsJudged files ending met.verdict
Judged files met ending asked = Unit {0}

-- what two streams took, and nothing else of an outside
abbrev pub streams : Option (List ℕ) → Option (List ℕ) → Seen
streams out audit = world None None 0 (stream out [] 0) (stream audit [] 0) (0, 0, 0)

-- The run tells the ending that is due, and the streams took what is due; or it gave up, and they took a front of it. The links that were dealt are those that the words ask for. A checkpoint that was written is taken again, and the verdict is that on the one that the words name.
pub record Runs (content : Told) (may : Moment → Type 0) (asked : Option Asked) (ending : Status) (before after : Seen) (net : Dealings) : Type 0 where
  pub contents : Contents
  pub met : Met
  pub held : AllHold content (files_asked asked) contents
  pub told_all : IfSome (told_by ending) (λ e. (e ≡ (due_asked asked contents met).ending) × Takes before after (told (due_asked asked contents met)).writes)
  pub begun : TakesFront before after (told (due_asked asked contents met)).writes
  pub links : Deals net (Handed may contents met ending asked)
  pub judged : Judged contents met ending asked

-- the same over an outside that is one value, with the counts
pub record RunsAsked (may : Moment → Type 0) (result : Result (Unit {0}) Stop) (asked : Option Asked) (before after : Seen) (faults faults' : ℕ) (net : Dealings) : Type 0 where
  pub contents : Contents
  pub met : Met
  pub held : AllHold before.content (files_asked asked) contents
  pub does : DoesBy faults faults' result before after (told (due_asked asked contents met))
  pub links : Deals net (Handed may contents met (status_of result) asked)
  pub judged : Judged contents met (status_of result) asked
  pub later : Remains faults faults'

-- how often the calls of the two streams have failed
pub record Counts : Type 0 where
  pub out : ℕ
  pub audit : ℕ

abbrev pub counts : ℕ → ℕ → Counts
counts out audit = record { out = out; audit = audit }

-- neither count of the streams has fallen
pub record NoneFell (before after : Counts) : Type 0 where
  pub out : before.out ≤ after.out
  pub audit : before.audit ≤ after.audit

-- one of them rose
abbrev pub OneRose : Counts → Counts → Type 0
OneRose before after = Rose before.out after.out ⊎ Rose before.audit after.audit

-- the count that a fault names rose
abbrev pub HasReason : Status → (files files' net net' : ℕ) → (before after : Counts) → Type 0
HasReason status.ReadFault files files' net net' before after = Rose files files'
HasReason status.WriteFault files files' net net' before after = OneRose before after
HasReason status.NetFault files files' net net' before after = Rose net net'
HasReason status.Ok files files' net net' before after = Unit {0}
HasReason (status.Ends ending) files files' net net' before after = Unit {0}
HasReason status.Memory files files' net net' before after = Unit {0}
