use Rattle.std.proofs.Common.{◌&&◌, ◌||◌, map, sym, ap, subst, ◌∙◌}
use Rattle.lnfs_world.specs.Rows.{Rising}
use Rattle.lnfs_world.specs.World.{same_id}
use Rattle.lnfs_counts.specs.Counted.{order_by}
use Rattle.lnfs_locks.specs.Locks.{Lock}
use Rattle.lnfs_locking.specs.Keys.{id_of}
use Rattle.lnfs_locking.specs.Groups.{holds}
use Rattle.lnfs_locking.specs.Rows.{lock_of, lock_id, entry_of}
use Rattle.lnfs_locking.proofs.Keeping.{AreFound, rise_inserted, entered}
use Rattle.lnfs_locking.proofs.entering.enter.Goals as goal

pub returns-clause-indexed : goal.returns-clause-indexed
returns-clause-indexed c =
    let ls = map entry_of c.args.rows.now.entries in
    let lock : Lock = lock_of (id_of c.args.id) c.args.row in
    let was = c.requires.indexed in
    record {
      own = c.in_default.ensures.own c.requires.level was.own;
      rise = subst (Rising (order_by lock_id)) (sym c.in_default.ensures.added) (rise_inserted lock ls was.rise);
      nodes = subst (AreFound c.enter.new.self) (sym c.in_default.ensures.added) (entered ls c.args.nodes.now c.enter.new.self lock c.requires.absent was.nodes
          (λ g i. c.in_ok-enter.ensures.entered g i ∙ ap (λ n. (same_id n g && same_id (id_of c.args.id) i) || holds c.args.nodes.now g i) c.node_key-node.ensures));
    }
