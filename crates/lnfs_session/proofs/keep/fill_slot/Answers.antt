use Rattle.std.proofs.Common.{◌≤◌, length, arith}
use Rattle.lnfs_session.specs.Listed.{slot_of}
use Rattle.lnfs_session.proofs.Slots.{set-slots, past-slots}
use Rattle.lnfs_session.proofs.keep.fill_slot.Goals as goal

pub returns-in-Some : goal.returns-in-Some
returns-in-Some c = set-slots c.args.slots.now.items c.args.number c.args.filled

pub returns-in_default : goal.returns-in_default
returns-in_default c =
    let past : length c.args.slots.now.items ≤ c.args.number = grind arith in
    past-slots c.args.slots.now.items c.args.number (slot_of c.args.filled) past
