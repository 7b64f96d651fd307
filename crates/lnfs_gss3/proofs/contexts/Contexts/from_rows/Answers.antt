use Rattle.std.proofs.Common.{◌+◌, ◌<◌, ◌^◌, drop, get_or, map}
use Rattle.lnfs_rows.specs.declared.sessions.ContextRow.{ContextRow}
use Rattle.lnfs_rows.specs.Lasts.{given_of}
use Rattle.lnfs_rows.specs.Told as told
use Rattle.lnfs_counts.proofs.Coming.{next_begun, of_row, was_given, has_room, one_more}
use Rattle.lnfs_gss3.specs.Listed.{own_id, context_of}
use Rattle.lnfs_gss3.proofs.contexts.Contexts.from_rows.Goals as goal

abbrev no_row : ContextRow
no_row = record { id = record { level = 0; number = 0 }; parent = 0 }

pub enter_row-requires-clause-parent : goal.enter_row-requires-clause-parent
enter_row-requires-clause-parent c =
    let rows = c.args.rows.now in
    let i = c.loop-row.row-index in
    let lasts = given_of c.args.lasts.now in
    let all = map told.context_of rows in
    let made = map context_of c.loop-row.contexts.entries in
    let so = next_begun own_id lasts all made told.context_of rows i no_row c.loop-row.counters c.loop-row-test.true c.loop-row.invariant in
    of_row own_id lasts all c.requires.makes.numbered made (told.context_of (get_or rows i no_row)) (map told.context_of (drop (i + 1) rows)) c.loop-row.counters so (λ x. x.parent < 2 ^ 32) c.requires.makes.parents

pub enter_row-requires-clause-given : goal.enter_row-requires-clause-given
enter_row-requires-clause-given c =
    let rows = c.args.rows.now in
    let i = c.loop-row.row-index in
    let lasts = given_of c.args.lasts.now in
    let all = map told.context_of rows in
    let made = map context_of c.loop-row.contexts.entries in
    let so = next_begun own_id lasts all made told.context_of rows i no_row c.loop-row.counters c.loop-row-test.true c.loop-row.invariant in
    was_given own_id lasts all c.requires.makes.numbered made (told.context_of (get_or rows i no_row)) (map told.context_of (drop (i + 1) rows)) c.loop-row.counters so

pub enter_row-requires-clause-few : goal.enter_row-requires-clause-few
enter_row-requires-clause-few c =
    let rows = c.args.rows.now in
    let i = c.loop-row.row-index in
    let lasts = given_of c.args.lasts.now in
    let all = map told.context_of rows in
    let made = map context_of c.loop-row.contexts.entries in
    let so = next_begun own_id lasts all made told.context_of rows i no_row c.loop-row.counters c.loop-row-test.true c.loop-row.invariant in
    has_room own_id lasts all c.requires.makes.numbered made (told.context_of (get_or rows i no_row)) (map told.context_of (drop (i + 1) rows)) c.loop-row.counters so

pub loop-row-preserved : goal.loop-row-preserved
loop-row-preserved c =
    let rows = c.args.rows.now in
    let i = c.loop-row.row-index in
    let lasts = given_of c.args.lasts.now in
    let all = map told.context_of rows in
    let made = map context_of c.loop-row.contexts.entries in
    let so = next_begun own_id lasts all made told.context_of rows i no_row c.loop-row.counters c.loop-row-test.true c.loop-row.invariant in
    let entered = c.in_ok-enter_row.ensures in
    one_more own_id lasts all c.requires.makes.numbered made (told.context_of (get_or rows i no_row)) (map told.context_of (drop (i + 1) rows)) c.loop-row.counters so
    (map context_of c.enter_row.new.contexts.entries) c.enter_row.new.counters entered.added entered.lasts entered.last entered.count
