-- What the code says of an operation on locks.
use Rattle.std.specs.Prelude.{◌≡◌, ◌≤◌, ◌<◌, ◌^◌, [], length, Option, Some, None, Result, Ok, Err}
use Rattle.lnfs_arguments.specs.SharedTexts.{state_id_text}
use Rattle.lnfs_operations.specs.declared.Gate.TheVariants.{Open}
use Rattle.lnfs_operations.specs.declared.Refusal as code
use Rattle.lnfs_operations.specs.Chain.{Answer, Done, Refused}
use Rattle.lnfs_operations.specs.Extra.{Said}
use Rattle.lnfs_nodes.specs.Trees.{refusal_of}
use Rattle.lnfs_engine.specs.declared.extra.ExtraRan.{ExtraRan}
use Rattle.lnfs_engine.specs.Further.{said_of}
use Rattle.lnfs_locks.specs.declared.numbers.TheConstants.{NFS4ERR_DENIED}
use Rattle.lnfs_locks.specs.Locks.{Locks}
use Rattle.lnfs_locks.specs.Denial.{denial_text}
use Rattle.lnfs_locks.specs.StateIds.{state_of}
use Rattle.lnfs_locks.specs.Effects.{Came, Denied, Free, Holds, kept_with}
use Rattle.lnfs_locking.specs.declared.search.Denied as found
use Rattle.lnfs_locking.specs.Asking.{denial_of}

-- what is said of an answer
abbrev pub said_by : Answer Came → Said
said_by (Refused why) = record { refusal = Some why; bytes = [] }
said_by (Done (Denied d)) = record { refusal = Some (record { gate = Open; status = NFS4ERR_DENIED }); bytes = denial_text d }
said_by (Done Free) = record { refusal = None; bytes = [] }
said_by (Done (Holds l gone)) = record { refusal = None; bytes = state_id_text (state_of l) }

-- the locks after it
abbrev pub locks_after : Answer Came → Locks → Locks
locks_after (Done (Holds l gone)) own = kept_with l gone own
locks_after answer own = own

-- an operation that ran says its answer, and leaves the locks that its answer leaves
pub record Ends (answer : Answer Came) (ran : ExtraRan) (old new : Locks) : Type 0 where
  pub said : said_of ran ≡ said_by answer
  pub locks : new ≡ locks_after answer old

-- a lock that stands in the way, if one does, or what refuses the test for it
abbrev pub tested_by : Result (Option found.Denied) code.Refusal → Answer Came
tested_by (Ok None) = Done Free
tested_by (Ok (Some d)) = Done (Denied (denial_of d))
tested_by (Err why) = Refused (refusal_of why)

-- One in the way has a range, and an owner of a length that can be told.
pub record IsToldOf (d : found.Denied) : Type 0 where
  pub range : d.range.first ≤ d.range.last
  pub owner : length d.row.now.owner < 2 ^ 32

abbrev pub CanBeTold : Option found.Denied → Type 0
CanBeTold None = Unit {0}
CanBeTold (Some d) = IsToldOf d
