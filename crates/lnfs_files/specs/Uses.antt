-- What a file is used for, and the tests that stand before it.
use Rattle.std.specs.Prelude.{◌≡◌, ℕ, List, Option, Some, Result, Ok, Err}
use Rattle.lnfs_arguments.specs.declared.stateid.StateId.{StateId}
use Rattle.lnfs_arguments.specs.declared.statuses.TheConstants.{NFS4ERR_BAD_STATEID, NFS4ERR_OLD_STATEID, NFS4ERR_NOSPC}
use Rattle.lnfs_world.specs.World.{Node, Open, World}
use Rattle.lnfs_world.specs.Outcome.{Site, Place, Outcome}
use Rattle.lnfs_monitor.specs.Rules.{Asks}
use Rattle.lnfs_monitor.specs.Rules as rules
use Rattle.lnfs_operations.specs.declared.Gate.TheVariants as gates
use Rattle.lnfs_operations.specs.declared.Refusal.{Refusal}
use Rattle.lnfs_operations.specs.Chain.{Answer, refuse}
use Rattle.lnfs_operations.specs.Chain as chain
use Rattle.lnfs_operations.specs.Judged.{where_allowed}
use Rattle.lnfs_operations.specs.Handles.{with_current, handle_named}
use Rattle.lnfs_operations.specs.StateIds.{Special, Anonymous, Bypass, Current, Way, Reading, Writing, where_open, where_usable}
use Rattle.lnfs_operations.specs.Files.{where_file}
use Rattle.lnfs_open.specs.Listed.{open_id}
use Rattle.lnfs_open.specs.declared.keys.OpenError.{OpenError}
use Rattle.lnfs_open.specs.declared.keys.OpenError.TheVariants.{Full, Bad, Old, Memory}
use Rattle.lnfs_files.specs.declared.references.Reference.{Reference}
use Rattle.lnfs_files.specs.declared.state_ids.Special as code_special
use Rattle.lnfs_files.specs.declared.state_ids.Special.TheVariants as specials
use Rattle.lnfs_files.specs.declared.state_ids.Way as code_way
use Rattle.lnfs_files.specs.declared.state_ids.Way.TheVariants as ways

abbrev pub special_of : code_special.Special → Special
special_of specials.Anonymous = Anonymous
special_of specials.Bypass = Bypass
special_of specials.Current = Current

abbrev pub way_of : code_way.Way → Way
way_of ways.Reading = Reading
way_of ways.Writing = Writing

-- what the rules of labels are asked of a use
abbrev pub asks_of : Way → (label : ℕ) → Asks
asks_of Reading label = rules.Read label
asks_of Writing label = rules.Write label

-- the tests of the current file handle before a use of it by a state id
abbrev pub where_current_usable : {R : Type 0} → Site → Place → World → StateId → Way → (Node → Outcome (Answer R)) → Outcome (Answer R)
where_current_usable site p w id way next =
    with_current p w (λ n.
    where_file p n (
    where_allowed site p (asks_of way n.label) (
    where_usable site p w n id way (next n))))

-- the open that a state id names, under the client of a level
pub record Refers (subject : ℕ) (client : Option ℕ) (id : StateId) (r : Reference) : Type 0 where
  pub level : r.client.level.0 ≡ subject
  pub number : client ≡ Some r.client.number
  pub named : open_id r.id ≡ handle_named id.other
  pub own : r.id.level.0 ≡ subject
  pub sequence : r.id.seq ≡ id.seqid

-- it is found, or an operation on it is refused
abbrev pub IsReference : (subject : ℕ) → (client : Option ℕ) → List Open → StateId → Result Reference Refusal → Type 0
IsReference subject client opens id (Ok r) = Refers subject client id r
IsReference subject client opens id (Err why) =
    (p : Place) (w : World) (n : Node) (next : Open → Outcome (Answer (Unit {0}))) → p.subject ≡ subject → p.client ≡ client → w.opens ≡ opens →
    where_open p w n id next ≡ refuse p why.gate why.status

-- What an error of the opens refuses. Want of memory is told otherwise.
abbrev pub refusal_by : OpenError → chain.Refusal
refusal_by Full = record { gate = gates.Quota; status = NFS4ERR_NOSPC }
refusal_by Bad = record { gate = gates.Open; status = NFS4ERR_BAD_STATEID }
refusal_by Old = record { gate = gates.Open; status = NFS4ERR_OLD_STATEID }
refusal_by Memory = record { gate = gates.Quota; status = NFS4ERR_NOSPC }
