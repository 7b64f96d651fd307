use Rattle.std.proofs.Common.{refl, sym, ap, ◌∙◌}
use Rattle.lnfs_world.specs.Outcome.{Place}
use Rattle.lnfs_operations.specs.Extra.{place_at}
use Rattle.lnfs_engine.specs.Further.{spot_of}
use Rattle.lnfs_locks.specs.Arguments.{Asked}
use Rattle.lnfs_locking.specs.Keys.{id_of}
use Rattle.lnfs_lock_args.specs.Values.{asked_of}
use Rattle.lnfs_world.specs.Opens.{sequence_after}
use Rattle.lnfs_byte_locks.proofs.LockSteps.{no_number, room, is_taken}
use Rattle.lnfs_byte_locks.proofs.taking.taking_of.Goals as goal

pub returns-in_default : goal.returns-in_default
returns-in_default c = λ n node is.
    let p : Place = place_at (spot_of c.args.at.now) in
    no_number c.args.locks.now p c.args.asks.now.client n c.args.asks.now.holder c.args.store.now (asked_of c.args.asked.now) is c.in_default.ensures.none

pub returns-then-not-has_room : goal.returns-then-not-has_room
returns-then-not-has_room c = λ n node is.
    let p : Place = place_at (spot_of c.args.at.now) in
    room c.args.locks.now p c.args.asks.now.client n c.args.asks.now.holder c.args.store.now (asked_of c.args.asked.now) is _ _ c.has_room.result c.in-Some.ensures.some c.in_ok-ranges.ensures
    (λ l same long. c.has_room.ensures l same (long ∙ sym c.len.ensures))
    ∙ c.if-not-has_room.true

pub returns : goal.returns
returns c = λ n node is.
    let p : Place = place_at (spot_of c.args.at.now) in
    let a : Asked = asked_of c.args.asked.now in (
      room c.args.locks.now p c.args.asks.now.client n c.args.asks.now.holder c.args.store.now a is _ _ c.has_room.result c.in-Some.ensures.some c.in_ok-ranges.ensures
          (λ l same long. c.has_room.ensures l same (long ∙ sym c.len.ensures))
          ∙ c.if-not-has_room.false,
      is_taken c.args.locks.now p c.args.asks.now.client n c.args.asks.now.holder c.args.store.now a is _ _ c.in-Some.ensures.some c.in_ok-ranges.ensures
          (c.sequence_after.ensures ∙ ap sequence_after c.sequence_of.ensures) refl refl (c.node_key.ensures ∙ node) c.in_ok-from_slice.ensures c.opening_of.ensures c.wanted_by.ensures.first c.wanted_by.ensures.last c.wanted_by.ensures.write,
    )
