use Rattle.std.proofs.Common.{◌+◌, [], drop, get_or, map}
use Rattle.lnfs_rows.specs.declared.opens.OpenRow.{OpenRow}
use Rattle.lnfs_rows.specs.Lasts.{given_of}
use Rattle.lnfs_rows.specs.Told as told
use Rattle.lnfs_counts.proofs.Coming.{next_begun, one_more}
use Rattle.lnfs_open.specs.Indexed.{own_id}
use Rattle.lnfs_open.specs.Listed.{open_of}
use Rattle.lnfs_open.proofs.Remade.{can_come}
use Rattle.lnfs_open.proofs.opens.Opens.from_rows.Goals as goal

abbrev no_row : OpenRow
no_row = record { id = record { level = 0; number = 0 }; client = 0; owner = record { ref_ptr = (0, 0); now = [] }; node = record { level = 0; number = 0 }; access = 0; deny = 0; sequence = 0 }

pub enter-requires-clause-come : goal.enter-requires-clause-come
enter-requires-clause-come c =
    let rows = c.args.rows.now in
    let i = c.loop-row.row-index in
    let lasts = given_of c.args.lasts.now in
    let all = map told.open_of rows in
    let parts = c.loop-row.parts in
    let made = map open_of parts.rows.entries in
    let so = next_begun own_id lasts all made told.open_of rows i no_row parts.counters c.loop-row-test.true c.loop-row.invariant.begun in
    can_come lasts all made (told.open_of (get_or rows i no_row)) (map told.open_of (drop (i + 1) rows)) parts.counters c.requires.makes so

pub loop-row-preserved : goal.loop-row-preserved
loop-row-preserved c =
    let rows = c.args.rows.now in
    let i = c.loop-row.row-index in
    let lasts = given_of c.args.lasts.now in
    let all = map told.open_of rows in
    let parts = c.loop-row.parts in
    let made = map open_of parts.rows.entries in
    let so = next_begun own_id lasts all made told.open_of rows i no_row parts.counters c.loop-row-test.true c.loop-row.invariant.begun in
    let entered = c.in_ok-enter.ensures in
    record {
      kept = entered.kept;
      begun = one_more own_id lasts all c.requires.makes.numbered made (told.open_of (get_or rows i no_row)) (map told.open_of (drop (i + 1) rows)) parts.counters so
          (map open_of c.enter.new.self.rows.entries) c.enter.new.self.counters entered.added entered.lasts entered.last entered.count;
    }
