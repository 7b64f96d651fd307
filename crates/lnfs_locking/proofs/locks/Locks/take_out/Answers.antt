use Rattle.std.proofs.Common.{◌≡◌, not, None, List, map, sym, ap, subst}
use Rattle.std.specs.Prelude.{filter}
use Rattle.lnfs_world.specs.Rows.{Rising}
use Rattle.lnfs_world.specs.World.{same_id}
use Rattle.lnfs_counts.specs.Counted.{order_by}
use Rattle.lnfs_counts.specs.Counters.{lasts_of}
use Rattle.lnfs_counts.proofs.Rows.{none_gone}
use Rattle.lnfs_locks.specs.Locks as kept
use Rattle.lnfs_locks.specs.Locks.{Lock}
use Rattle.lnfs_locking.specs.Keys.{id_of}
use Rattle.lnfs_locking.specs.Rows.{lock_of, lock_id, lock_at, entry_of}
use Rattle.lnfs_locking.proofs.Keeping.{AreFound, rise_filter, left}
use Rattle.lnfs_locking.proofs.locks.Locks.take_out.Goals as goal

pub returns-in-None : goal.returns-in-None
returns-in-None c =
    let i = id_of c.args.id in
    let locks = map entry_of c.self.inside.rows.entries in
    let s : kept.Locks = record { lasts = lasts_of c.self.inside.counters.entries; locks = locks } in
    let none : lock_at locks i ≡ None = sym c.in-None.ensures.row in
    let all : s ≡ record s { locks = filter (λ l. not (same_id i l.id)) s.locks } = ap (λ (ls : List Lock). record s { locks = ls }) (sym (none_gone lock_id i locks none)) in
    subst (λ (k : kept.Locks). k ≡ record k { locks = filter (λ l. not (same_id i l.id)) k.locks }) c.self.view_is all

pub invariant_of-self : goal.invariant_of-self
invariant_of-self c =
    let ls = map entry_of c.self.inside.rows.entries in
    let i = id_of c.args.id in
    let lock : Lock = lock_of i c.in-Some.row.now in
    let was = c.self.invariant.indexed in
    record {
      indexed = record {
        own = c.drop_row.ensures.own was.own;
        rise = subst (Rising (order_by lock_id)) (sym c.drop_row.ensures.left) (rise_filter (λ l. not (same_id i l.id)) ls was.rise);
        nodes = subst (AreFound c.leave.new.self) (sym c.drop_row.ensures.left) (left ls c.self.inside.nodes c.leave.new.self i (id_of c.node_key-node.result) lock (sym c.in-Some.ensures.row) c.node_key-node.ensures was.nodes c.leave.ensures);
      };
      lasting = c.self.invariant.lasting;
    }
