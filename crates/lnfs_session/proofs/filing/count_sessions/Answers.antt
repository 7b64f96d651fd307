use Rattle.std.proofs.Common.{◌<◌, ◌+◌, refl, sym, ap, ◌∙◌, subst}
use Rattle.lnfs_world.specs.declared.numbers.TheConstants.{LAST_NUMBER}
use Rattle.lnfs_counts.specs.Counters.{last_at, count_at}
use Rattle.lnfs_counts.proofs.Counted.{with_number, told_same}
use Rattle.lnfs_rows.specs.declared.sessions.SessionRow.{SessionRow}
use Rattle.lnfs_rows.specs.Lasts.{given_of}
use Rattle.lnfs_rows.specs.Told.{session_of}
use Rattle.lnfs_session.specs.Sessions.{own_id}
use Rattle.lnfs_session.proofs.Filed.{was_given, room_of, counted_at}
use Rattle.lnfs_session.proofs.filing.count_sessions.Goals as goal

pub count_given-requires-clause-given : goal.count_given-requires-clause-given
count_given-requires-clause-given c =
    let made = c.loop-row.made in
    subst (λ (x : SessionRow). 0 < last_at made x.id.level) (sym c.row-item.is)
    (was_given session_of c.args.rows.now c.loop-row.row-index c.row-item.result c.loop-row-test.true (given_of c.args.lasts.now) c.requires (last_at made) (count_at made) c.loop-row.invariant.counted)

pub count_given-requires-clause-few : goal.count_given-requires-clause-few
count_given-requires-clause-few c =
    let made = c.loop-row.made in
    subst (λ (x : SessionRow). count_at made x.id.level < LAST_NUMBER) (sym c.row-item.is)
    (room_of session_of c.args.rows.now c.loop-row.row-index c.row-item.result c.loop-row-test.true (given_of c.args.lasts.now) c.requires (last_at made) (count_at made) c.loop-row.invariant.counted)

pub loop-row-preserved : goal.loop-row-preserved
loop-row-preserved c =
    let made = c.loop-row.made in
    let one = c.count_given.ensures in
    let counted = counted_at session_of c.args.rows.now c.loop-row.row-index c.row-item.result c.loop-row-test.true (given_of c.args.lasts.now) c.requires (last_at made) (count_at made) c.loop-row.invariant.counted in
    record {
      counted = told_same own_id _ _ _ _ counted _ _ _ _ refl refl one.last (λ l. one.count l ∙ ap (λ (x : SessionRow). with_number x.id.level (count_at made x.id.level + 1) (count_at made) l) c.row-item.is);
      lasts = one.lasts ∙ c.loop-row.invariant.lasts;
    }
