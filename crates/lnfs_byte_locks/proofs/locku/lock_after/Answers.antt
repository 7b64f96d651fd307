use Rattle.std.proofs.Common.{◌∙◌, refl, ap, sym, length, None}
use Rattle.lnfs_world.specs.Outcome.{Place}
use Rattle.lnfs_ranges.specs.Modes.{set}
use Rattle.lnfs_operations.specs.Extra.{place_at}
use Rattle.lnfs_engine.specs.Further.{spot_of}
use Rattle.lnfs_lock_args.specs.Values.{locku_args_of}
use Rattle.lnfs_byte_locks.proofs.Unlocks.{not_asked, no_room, is_room}
use Rattle.lnfs_byte_locks.proofs.locku.lock_after.Goals as goal

pub returns-in-Err : goal.returns-in-Err
returns-in-Err c =
    let at : Place = place_at (spot_of c.args.at.now) in
    not_asked (locku_args_of c.args.args.now) c.args.locks.now at c.args.store.now c.in-Err.why c.in-Err.ensures

pub returns-then-not-has_room : goal.returns-then-not-has_room
returns-then-not-has_room c =
    let at : Place = place_at (spot_of c.args.at.now) in
    let ranges = c.in_ok-ranges.ensures.value ∙ ap (λ last. set c.in-Ok.named.row.now.ranges c.args.args.now.asked.offset last None) c.last.ensures in
    let long = c.len.ensures ∙ ap length ranges in
    no_room (locku_args_of c.args.args.now) c.args.locks.now at c.args.store.now c.requires.facts c.in-Ok.named c.in-Ok.ensures c.has_room.result
    (λ l id many. c.has_room.ensures l id (many ∙ sym long)) c.if-not-has_room.true

pub returns : goal.returns
returns c =
    let at : Place = place_at (spot_of c.args.at.now) in
    let ranges = c.in_ok-ranges.ensures.value ∙ ap (λ last. set c.in-Ok.named.row.now.ranges c.args.args.now.asked.offset last None) c.last.ensures in
    let long = c.len.ensures ∙ ap length ranges in
    is_room (locku_args_of c.args.args.now) c.args.locks.now at c.args.store.now c.requires.facts c.in-Ok.named c.in-Ok.ensures c.has_room.result
    (λ l id many. c.has_room.ensures l id (many ∙ sym long)) c.if-not-has_room.false
    (record { id = c.in-Ok.named.id; seq = c.sequence_after.result; ranges = c.in_ok-ranges.ranges }) refl c.sequence_after.ensures ranges
