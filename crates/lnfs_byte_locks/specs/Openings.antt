-- The open that a state id names for a new lock owner, as the code finds it (RFC 8881 section 18.10.3).
use Rattle.std.specs.Prelude.{◌≡◌, ℕ, not, Some, is_some, Result, Ok, Err}
use Rattle.lnfs_arguments.specs.declared.stateid.StateId.{StateId}
use Rattle.lnfs_arguments.specs.declared.statuses.TheConstants.{NFS4ERR_BAD_STATEID}
use Rattle.lnfs_world.specs.World.{Node, Open, World}
use Rattle.lnfs_world.specs.Outcome.{Place, Outcome}
use Rattle.lnfs_operations.specs.declared.Gate.TheVariants as gates
use Rattle.lnfs_operations.specs.declared.Refusal.{Refusal}
use Rattle.lnfs_operations.specs.Chain.{Answer, refuse, demand}
use Rattle.lnfs_operations.specs.StateIds.{special, where_open}
use Rattle.lnfs_open.specs.Listed.{row_of}
use Rattle.lnfs_open.specs.Opening.{open_named}
use Rattle.lnfs_locks.specs.Effects.{Came}
use Rattle.lnfs_byte_locks.specs.declared.openings.Opened.{Opened}

-- A state id with a meaning of its own names none.
abbrev pub where_opening : Place → World → Node → StateId → (Open → Outcome (Answer Came)) → Outcome (Answer Came)
where_opening p w n id next =
    demand (not (is_some (special id))) (refuse p gates.Open NFS4ERR_BAD_STATEID) (where_open p w n id next)

-- an open of a level
abbrev pub opened_in : (level : ℕ) → Opened → Open
opened_in level x = row_of (record { level = level; number = x.number }) x.row.now

-- an open of the client under which the operation came and of a node, in the state that a state id names
pub record IsOpened (p : Place) (w : World) (n : Node) (id : StateId) (x : Opened) : Type 0 where
  pub found : (client : ℕ) → p.client ≡ Some client →
      open_named w.opens (record { level = p.subject; number = client }) n.id (record { level = p.subject; number = x.number }) ≡ Some (opened_in p.subject x)
  pub leads : (next : Open → Outcome (Answer Came)) → where_opening p w n id next ≡ next (opened_in p.subject x)

-- it is found, or an operation on it is refused
abbrev pub FindsOpen : Place → World → Node → StateId → Result Opened Refusal → Type 0
FindsOpen p w n id (Ok x) = IsOpened p w n id x
FindsOpen p w n id (Err why) = (next : Open → Outcome (Answer Came)) → where_opening p w n id next ≡ refuse p why.gate why.status
