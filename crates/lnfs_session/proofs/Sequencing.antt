-- The outcome of a SEQUENCE that names a slot.
use Rattle.std.proofs.Common.{◌≡◌, ℕ, true, Some, refl}
use Rattle.std.specs.Prelude.{◌==◌, nat_le, slice_get}
use Rattle.lnfs_types.specs.declared.event.Moment.{Moment}
use Rattle.lnfs_arguments.specs.declared.types.Sequence.{Sequence}
use Rattle.lnfs_world.specs.World.{Slot, Session, World}
use Rattle.lnfs_world.specs.Outcome.{begins_at}
use Rattle.lnfs_operations.specs.Identifiers.{session_named, session_under}
use Rattle.lnfs_operations.specs.Sequence.{Sent, sequence, on_slot}
use Rattle.lnfs_session.specs.Standing.{Lists, standing}

pub came_on : (args : Sequence) (sent : Sent) (level : ℕ) (moment : Moment) (rest : World) (lists : Lists) → ((session_named args.session).level == level) ≡ true → (x : Session) → session_under args.session lists.sessions ≡ Some x → nat_le sent.size x.channel.max_request ≡ true → nat_le sent.count x.channel.max_operations ≡ true → (slot : Slot) → slice_get x.slots args.slot ≡ Some slot → sequence args sent (begins_at level moment) (standing rest lists) ≡ on_slot args sent (begins_at level moment) (standing rest lists) x slot
came_on args sent level moment rest lists own x found size count slot there = rw (own, found, size, count, there) refl
