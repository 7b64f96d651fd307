use Rattle.std.proofs.Common.{refl}
use Rattle.lnfs_world.specs.Outcome.{Place}
use Rattle.lnfs_operations.specs.Extra.{place_at}
use Rattle.lnfs_engine.specs.Further.{spot_of}
use Rattle.lnfs_locks.specs.Arguments.{Known}
use Rattle.lnfs_byte_locks.proofs.OwnLocks.{err_holder, of_lock}
use Rattle.lnfs_byte_locks.proofs.holders.known_holder.Goals as goal

pub returns-in_err-named : goal.returns-in_err-named
returns-in_err-named c = λ client n of node.
    err_holder c.args.locks.now (place_at (spot_of c.args.at.now)) c.args.store.now client n (Known c.args.lock.now) c.from_residual.result c.in_err-named.field-0.0 c.from_residual.ensures.1 (c.in_err-named.ensures n node)

pub returns : goal.returns
returns c = λ client n of node.
    of_lock c.args.store.now c.args.locks.now c.requires.facts (place_at (spot_of c.args.at.now)) client of n c.args.lock.now c.in_ok-named.named (c.in_ok-named.ensures n node) _ refl c.as_slice.ensures refl
