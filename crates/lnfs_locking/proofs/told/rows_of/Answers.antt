use Rattle.std.proofs.Common.{map}
use Rattle.lnfs_lock_rows.specs.Told as told
use Rattle.lnfs_counts.proofs.Telling.{one_told}
use Rattle.lnfs_locking.specs.Rows.{entry_of}
use Rattle.lnfs_locking.proofs.told.rows_of.Goals as goal

pub loop-id-preserved : goal.loop-id-preserved
loop-id-preserved c =
    one_told told.lock_of entry_of c.loop-id.rows.items c.push.new.self.items c.in_ok-row_of.field-0 (c.in-Some.id.now, c.in-Some.row.now) c.next.new.self c.loop-id.id-iterator (map entry_of c.args.locks.now.entries)
    c.loop-id.invariant c.in-Some.ensures.steps c.in_ok-row_of.ensures c.in_ok-push.ensures.items
