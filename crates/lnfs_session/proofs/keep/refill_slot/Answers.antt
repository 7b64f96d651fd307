use Rattle.std.proofs.Common.{Some, ◌≤◌, length, map, ap, ◌∙◌, arith}
use Rattle.lnfs_world.specs.World as world
use Rattle.lnfs_operations.specs.Keeping.{with_slot}
use Rattle.lnfs_session.specs.Listed.{slot_of}
use Rattle.lnfs_session.proofs.Slots.{set-slots, past-slots}
use Rattle.lnfs_session.proofs.keep.refill_slot.Goals as goal

pub returns : goal.returns
returns c =
    set-slots c.args.slots.now.items c.args.number c.refill.new.slot
    ∙ ap (λ (filled : world.Slot). with_slot c.args.number filled (map slot_of c.args.slots.now.items)) c.in_ok-refill.ensures

pub returns-in_default : goal.returns-in_default
returns-in_default c =
    let past : length c.args.slots.now.items ≤ c.args.number = grind arith in
    let filled : world.Slot = record { sequence = c.args.sequence; kept = Some (record { arguments = c.args.bytes.now; reply = c.args.reply.now }) } in
    past-slots c.args.slots.now.items c.args.number filled past
