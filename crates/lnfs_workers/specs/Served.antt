-- What a link gave and took while it was served.
use Rattle.std.specs.Prelude.{◌≡◌, ◌<◌, ◌≤◌, ℕ, List, [], ◌∷◌, ◌++◌, length, Option}
use Rattle.std.specs.List.{AllByRecursion}
use Rattle.std.specs.Io.KnownBytes.{Appends, Consumes, IsAtEnd}
use Rattle.lnfs_outside.specs.Causes.{Rose}
use Rattle.lnfs_outside.specs.Nets.{Back}
use Rattle.lnfs_types.specs.declared.event.Moment.{Moment}
use Rattle.lnfs_rpc.specs.Records.{Stream, IsPartial, IsTooLong}
use Rattle.lnfs_history.specs.declared.entry.Entry.{Entry}
use Rattle.lnfs_workers.specs.Transcripts.{messages, framed, transcript}
use Rattle.lnfs_incoming.specs.declared.ending.TheConstants.{BUDGET}
use Rattle.lnfs_incoming.specs.declared.ending.Ending.{Ending}
use Rattle.lnfs_incoming.specs.declared.ending.Ending.TheVariants.{Closed, Cut, ReadFault, WriteFault, TooLong, Budget, Memory}

-- what a link tells, as when it is handed back: the bytes to come and those taken, where they are told, and how many reads and writes have failed
abbrev pub Tells : Type 0
Tells = Back

abbrev pub telling : {L : Type 0} → (L → Option (List ℕ)) → (L → Option (List ℕ)) → (L → ℕ) → (L → ℕ) → L → Tells
telling {L} left taken read_faults write_faults link = record { left = left link; taken = taken link; read_faults = read_faults link; write_faults = write_faults link }

-- so far: the bytes read are the records of the entries and what is pending, the link took the frames of all replies, and no count has fallen
pub record Going (old now : Tells) (pending : List ℕ) (entries : List Entry) : Type 0 where
  pub read : List ℕ
  pub reads : Consumes old.left now.left read
  pub cuts : Stream read (messages entries) pending
  pub writes : Appends old.taken now.taken (transcript entries)
  pub reading : old.read_faults ≤ now.read_faults
  pub writing : old.write_faults ≤ now.write_faults

-- the last reply is the one that was not written whole
pub record Broken (entries : List Entry) (front lost : List ℕ) : Type 0 where
  pub earlier : List Entry
  pub last : Entry
  pub part : List ℕ
  pub all : entries ≡ earlier ++ last ∷ []
  pub before : front ≡ transcript earlier ++ part
  pub behind : framed last.reply ≡ part ++ lost

-- what each ending tells beside: of the records that were read and not served, of the bytes behind these, and of the replies that were not written
abbrev pub EndsAs : Ending → (old now : Tells) → (entries : List Entry) → (unserved : List (List ℕ)) → (pending front lost : List ℕ) → Type 0
-- the input ended outside a record
EndsAs Closed old now entries unserved pending front lost = IsAtEnd now.left × (unserved ≡ []) × (pending ≡ []) × (lost ≡ [])
-- it ended inside one
EndsAs Cut old now entries unserved pending front lost = IsAtEnd now.left × (unserved ≡ []) × (0 < length pending) × IsPartial pending × (lost ≡ [])
-- all records that were read are served
EndsAs ReadFault old now entries unserved pending front lost = Rose old.read_faults now.read_faults × (unserved ≡ []) × IsPartial pending × (lost ≡ [])
-- the last reply was written in part
EndsAs WriteFault old now entries unserved pending front lost = Rose old.write_faults now.write_faults × (unserved ≡ []) × Broken entries front lost
-- the next record is too long
EndsAs TooLong old now entries unserved pending front lost = (unserved ≡ []) × IsTooLong pending × (lost ≡ [])
-- so many records are served, and one more is there
EndsAs Budget old now entries unserved pending front lost = (length entries ≡ BUDGET) × (length unserved ≡ 1) × (lost ≡ [])
-- at most one record was read and not served
EndsAs Memory old now entries unserved pending front lost = length unserved ≤ 1

-- The bytes read are the records of the entries, those not served, and what is pending. The link took a front of the frames of the replies. No count has fallen
pub record Service (ending : Ending) (old now : Tells) (entries : List Entry) : Type 0 where
  pub read : List ℕ
  pub unserved : List (List ℕ)
  pub pending : List ℕ
  pub front : List ℕ
  pub lost : List ℕ
  pub reads : Consumes old.left now.left read
  pub cuts : Stream read (messages entries ++ unserved) pending
  pub writes : Appends old.taken now.taken front
  pub replies : transcript entries ≡ front ++ lost
  pub reading : old.read_faults ≤ now.read_faults
  pub writing : old.write_faults ≤ now.write_faults
  pub ends : EndsAs ending old now entries unserved pending front lost

-- of the link's class, and of a moment that the clock may give
abbrev pub IsOf : (class : ℕ) → (may : Moment → Type 0) → Entry → Type 0
IsOf class may e = (e.event.class ≡ class) × may e.event.moment

abbrev pub AreOf : (class : ℕ) → (may : Moment → Type 0) → List Entry → Type 0
AreOf class may entries = AllByRecursion (IsOf class may) entries
