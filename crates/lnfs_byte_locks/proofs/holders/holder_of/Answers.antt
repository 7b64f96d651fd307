use Rattle.std.proofs.Common.{sym, subst}
use Rattle.lnfs_operations.specs.Extra.{place_at}
use Rattle.lnfs_engine.specs.Further.{spot_of}
use Rattle.lnfs_lock_args.specs.declared.values.Locker.{Locker}
use Rattle.lnfs_lock_args.specs.Values.{locker_of}
use Rattle.lnfs_byte_locks.specs.Holders.{FindsHolder}
use Rattle.lnfs_byte_locks.proofs.holders.holder_of.Goals as goal

pub returns-in-New : goal.returns-in-New
returns-in-New c = λ client n of node.
    subst (λ (l : Locker). FindsHolder c.args.locks.now (place_at (spot_of c.args.at.now)) c.args.store.now client n (locker_of l) c.new_holder.result)
    (sym c.in-New.is) (c.new_holder.ensures client n of node)

pub returns-in-Known : goal.returns-in-Known
returns-in-Known c = λ client n of node.
    subst (λ (l : Locker). FindsHolder c.args.locks.now (place_at (spot_of c.args.at.now)) c.args.store.now client n (locker_of l) c.known_holder.result)
    (sym c.in-Known.is) (c.known_holder.ensures client n of node)
