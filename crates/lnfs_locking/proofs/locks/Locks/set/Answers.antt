use Rattle.std.proofs.Common.{map, sym, subst}
use Rattle.lnfs_world.specs.Rows.{Rising}
use Rattle.lnfs_counts.specs.Counted.{order_by}
use Rattle.lnfs_locks.specs.Locks as kept
use Rattle.lnfs_locks.specs.Locks.{lock_order}
use Rattle.lnfs_locking.specs.Keys.{id_of}
use Rattle.lnfs_locking.specs.Rows.{lock_id, lock_at, entry_of, with_ranges}
use Rattle.lnfs_locking.proofs.Keeping.{AreFound, rise_changed, changed}
use Rattle.lnfs_locking.proofs.locks.Locks.set.Goals as goal

pub invariant_of-self : goal.invariant_of-self
invariant_of-self c =
    let ls = map entry_of c.self.inside.rows.entries in
    let was = c.self.invariant.indexed in
    record {
      indexed = record {
        own = c.set_row.ensures.own was.own;
        rise = subst (Rising (order_by lock_id)) (sym c.set_row.ensures.set) (rise_changed (with_ranges c.args.seq c.args.ranges) (lock_at ls (id_of c.args.id)) ls was.rise);
        nodes = subst (AreFound c.self.inside.nodes) (sym c.set_row.ensures.set) (changed ls c.self.inside.nodes (id_of c.args.id) c.args.seq c.args.ranges was.nodes);
      };
      lasting = c.self.invariant.lasting;
    }

pub returns-clause-rise : goal.returns-clause-rise
returns-clause-rise c = subst (λ (k : kept.Locks). Rising lock_order k.locks) c.self.view_is c.self.invariant.indexed.rise
