use Rattle.std.proofs.Common.{map}
use Rattle.lnfs_rows.specs.Told as told
use Rattle.lnfs_counts.proofs.Telling.{one_told}
use Rattle.lnfs_open.specs.Listed.{open_of}
use Rattle.lnfs_open.proofs.told.rows_of.Goals as goal

pub loop-id-preserved : goal.loop-id-preserved
loop-id-preserved c =
    one_told told.open_of open_of c.loop-id.rows.items c.push.new.self.items c.row_of.result (c.in-Some.id.now, c.in-Some.row.now) c.next.new.self c.loop-id.id-iterator (map open_of c.args.opens.now.entries)
    c.loop-id.invariant c.in-Some.ensures.steps c.row_of.ensures c.in_ok-push.ensures.items
