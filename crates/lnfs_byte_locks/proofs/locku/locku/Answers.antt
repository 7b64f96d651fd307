use Rattle.std.proofs.Common.{refl, subst, None}
use Rattle.lnfs_world.specs.Outcome.{Place}
use Rattle.lnfs_world.specs.World.{World}
use Rattle.lnfs_operations.specs.Extra.{place_at}
use Rattle.lnfs_engine.specs.Further.{spot_of}
use Rattle.lnfs_lock_args.specs.Values.{locku_args_of}
use Rattle.lnfs_locks.specs.Arguments.{LockUArgs}
use Rattle.lnfs_locks.specs.Locks.{Locks}
use Rattle.lnfs_byte_locks.specs.Unlocking.{IsUnlocked, Unlocks}
use Rattle.lnfs_byte_locks.proofs.Unlocks.{after_is, is_given_to, stays, kept}
use Rattle.lnfs_byte_locks.proofs.Concluded.{refusal_ends}
use Rattle.lnfs_byte_locks.proofs.locku.locku.Goals as goal

pub returns-in-Err : goal.returns-in-Err
returns-in-Err c =
    let at : Place = place_at (spot_of c.args.at.now) in
    refusal_ends _ c.in-Err.why c.in-Err.why c.refused.result c.args.locks.now c.refused.ensures refl
    (subst (λ r. Unlocks (locku_args_of c.args.args.now) c.args.locks.now at c.args.store.now r) c.in-Err.is c.in_ok-unlocked.ensures)

pub returns : goal.returns
returns c =
    let at : Place = place_at (spot_of c.args.at.now) in
    let args : LockUArgs = locku_args_of c.args.args.now in
    let own : Locks = c.args.locks.now in
    let w : World = c.args.store.now in
    let facts = c.requires.facts in
    let y = c.in-Ok.unlocked in
    let is : IsUnlocked args own at w y = subst (λ r. Unlocks args own at w r) c.in-Ok.is c.in_ok-unlocked.ensures in
    kept args own at w facts y is c.opens.result.now c.opens.ensures c.change.new.self
    (c.change.ensures is.lock is.there (is_given_to args own at w facts y is) (stays args own at w facts y is c.opens.result.now c.opens.ensures))
    (record { refusal = None; bytes = c.in_ok-bytes.bytes }) refl (c.in_ok-bytes.ensures (after_is args own at w facts y is) is.same refl)
