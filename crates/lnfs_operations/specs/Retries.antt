-- Which slot a SEQUENCE names.
use Rattle.std.specs.Prelude.{◌≡◌, ◌≤◌, ℕ, Some, slice_get}
use Rattle.lnfs_arguments.specs.declared.types.Sequence.{Sequence}
use Rattle.lnfs_world.specs.World.{Slot, Session, World}
use Rattle.lnfs_operations.specs.Identifiers.{session_named, session_under}
use Rattle.lnfs_operations.specs.Sequence.{Sent}

-- A slot of a session of the level, for a request whose record is no longer than the session grants.
pub record Names (level : ℕ) (w : World) (args : Sequence) (sent : Sent) (x : Session) (row : Slot) : Type 0 where
  pub own : (session_named args.session).level ≡ level
  pub session : session_under args.session w.sessions ≡ Some x
  pub size : sent.size ≤ x.channel.max_request
  pub slot : slice_get x.slots args.slot ≡ Some row
