-- What a client that talks over a link does there, and what it shows.
use Rattle.std.specs.Prelude.{◌≡◌, ◌≤◌, ◌<◌, ◌⊎◌, ◌+◌, ℕ, cond, List, [], length, map, All, Result, IfSome}
use Rattle.std.specs.List.{flat_map}
use Rattle.std.specs.Io.KnownBytes.{Appends, Consumes}
use Rattle.std.specs.declared.option.Option.{Option}
use Rattle.std.specs.declared.option.Option.TheVariants.{Some, None}
use Rattle.lnfs_outside.specs.Bytes.{AppendsPart}
use Rattle.lnfs_outside.specs.Nets.{Back}
use Rattle.lnfs_rpc.specs.Formats.{frame_of}
use Rattle.lnfs_rpc.specs.Records.{Stream}
use Rattle.lnfs_incoming.specs.declared.ending.TheConstants.{BUDGET}
use Rattle.lnfs_policy.specs.Policy.{Policy}
use Rattle.lnfs_gss3.specs.Mechanism.{Signing}
use Rattle.lnfs_script.specs.Fits.{ActionFits, ActionSuits, IdentitySuits}
use Rattle.lnfs_script.specs.declared.script.Script.{Script}
use Rattle.lnfs_stage.specs.declared.ending.Ending.TheVariants.{LinkClosed}
use Rattle.lnfs_stage.specs.declared.stop.Stop.{Stop}
use Rattle.lnfs_stage.specs.declared.status.Status.{Status}
use Rattle.lnfs_stage.specs.declared.status.Status.TheVariants as status
use Rattle.lnfs_stage.specs.Ending.{status_of, told_by}
use Rattle.lnfs_stage.specs.Seen.{Seen}
use Rattle.lnfs_stage.specs.Writes.{Takes, to_out}
use Rattle.lnfs_stage.specs.Due.{Due}
use Rattle.lnfs_stage.specs.Does.{DoesBy}
use Rattle.lnfs_talk.specs.Exchange.{IsSpent}
use Rattle.lnfs_talk.specs.Talk.{Talk, talk}

-- the texts, and then the ending where a reply is still awaited
abbrev pub due_of : Talk → Due
due_of t = record { writes = map to_out t.texts; ending = cond t.state.is_over None (Some LinkClosed) }

-- the frames of the requests
abbrev pub frames_of : Talk → List ℕ
frames_of t = flat_map frame_of t.requests

-- standard output took the texts, and holds nothing of them back
abbrev pub AreShown : (before after : Seen) → (texts : List (List ℕ)) → Type 0
AreShown before after texts = Takes before after (map to_out texts) × ((texts ≡ []) ⊎ (after.out.waiting ≡ []))

-- a link, by what is told of it
abbrev pub link_with : (left taken : Option (List ℕ)) → (read_faults write_faults : ℕ) → Back
link_with left taken read_faults write_faults = record { left = left; taken = taken; read_faults = read_faults; write_faults = write_faults }

-- how often a call of a link has failed
abbrev pub faults_of : Back → ℕ
faults_of link = link.read_faults + link.write_faults

-- No further record can come, the next is too long, or so many have come.
abbrev pub IsClosed : (left : Option (List ℕ)) → (records : List (List ℕ)) → (pending : List ℕ) → Type 0
IsClosed left records pending = IsSpent left pending ⊎ (length records ≡ BUDGET)

-- a status that the files have no part in
abbrev pub WithoutFiles : Status → Type 0
WithoutFiles status.ReadFault = ⊥
WithoutFiles ending = Unit {0}

-- why it ended, beside what is due; no file is read
abbrev pub EndsAs : Status → (left : Option (List ℕ)) → (records : List (List ℕ)) → (pending : List ℕ) → Type 0
EndsAs (status.Ends ending) left records pending = IsClosed left records pending
EndsAs status.Ok left records pending = Unit {0}
EndsAs status.ReadFault left records pending = ⊥
EndsAs status.WriteFault left records pending = Unit {0}
EndsAs status.NetFault left records pending = Unit {0}
EndsAs status.Memory left records pending = Unit {0}

-- A script that a text spells under the policy is one of these, at a level of the policy.
pub record MayTalk (p : Policy) (level : ℕ) (s : Script) : Type 0 where
  pub level_is : level < length p.labels
  pub identity : IdentitySuits p s.identity
  pub fits : All ActionFits s.actions
  pub suits : All (ActionSuits p) s.actions

-- The link of a dialogue, from when it was new, by the status of the call. The bytes that were read are these records and what is pending. It took the
-- frames of the requests of the dialogue that the records make; where the call gave up, a front of them.
pub record IsTalk (m : Signing) (p : Policy) (level : ℕ) (s : Script) (ending : Status) (old now : Back) (records : List (List ℕ)) : Type 0 where
  pub pending : List ℕ
  pub read : List ℕ
  pub few : length records ≤ BUDGET
  pub reads : Consumes old.left now.left read
  pub cuts : Stream read records pending
  pub sent : IfSome (told_by ending) (λ told. Appends old.taken now.taken (frames_of (talk m p level s records)))
  pub begun : AppendsPart old.taken now.taken (frames_of (talk m p level s records))
  pub ends : EndsAs ending now.left records pending
  pub reading : old.read_faults ≤ now.read_faults
  pub writing : old.write_faults ≤ now.write_faults

-- It talked, and the texts of the dialogue were shown, or a front of them where it gave up. It says NetFault only where a call of the link failed.
pub record Talks (m : Signing) (p : Policy) (level : ℕ) (s : Script) (result : Result (Unit {0}) Stop) (before after : Seen) (old now : Back) : Type 0 where
  pub records : List (List ℕ)
  pub link : IsTalk m p level s (status_of result) old now records
  pub does : DoesBy (faults_of old) (faults_of now) result before after (due_of (talk m p level s records))
