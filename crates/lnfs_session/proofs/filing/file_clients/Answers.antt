use Rattle.std.proofs.Common.{◌∙◌}
use Rattle.lnfs_rows.specs.Lasts.{given_of}
use Rattle.lnfs_rows.specs.Told.{client_of}
use Rattle.lnfs_session.specs.Makes.{IsNumber}
use Rattle.lnfs_session.proofs.Filed.{row_holds, room_at, filed_at}
use Rattle.lnfs_session.proofs.filing.file_clients.Goals as goal

pub file_one-requires-clause-number : goal.file_one-requires-clause-number
file_one-requires-clause-number c = (row_holds (λ x. IsNumber x.id) client_of c.args.rows.now c.loop-row.row-index _ c.loop-row-test.true c.requires.numbers).1

pub file_one-requires-clause-few : goal.file_one-requires-clause-few
file_one-requires-clause-few c =
    let so = c.loop-row.invariant in
    room_at client_of c.args.rows.now c.loop-row.row-index _ c.loop-row-test.true (given_of c.args.lasts.now) c.requires c.loop-row.levels so.filed so.lasts

pub loop-row-preserved : goal.loop-row-preserved
loop-row-preserved c =
    let so = c.loop-row.invariant in
    record {
      filed = filed_at client_of c.args.rows.now c.loop-row.row-index _ c.loop-row-test.true (given_of c.args.lasts.now) c.requires c.loop-row.levels so.filed so.lasts c.file_one.new.levels c.in_ok-file_one.ensures;
      lasts = c.in_ok-file_one.ensures.lasts ∙ so.lasts;
    }
