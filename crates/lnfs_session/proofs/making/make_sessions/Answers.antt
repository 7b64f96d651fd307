use Rattle.std.proofs.Common.{◌≤◌, sym, ap, ◌∙◌, subst}
use Rattle.lnfs_world.specs.Rows.{inserted}
use Rattle.lnfs_world.specs.World.{session_order}
use Rattle.lnfs_world.specs.declared.numbers.TheConstants.{LAST_NUMBER}
use Rattle.lnfs_rows.specs.declared.sessions.SessionRow.{SessionRow}
use Rattle.lnfs_rows.specs.Told as told
use Rattle.lnfs_session.specs.declared.rows.SessionRef.{SessionRef}
use Rattle.lnfs_session.specs.Listed.{session_of}
use Rattle.lnfs_session.specs.Sessions.{own_id}
use Rattle.lnfs_session.proofs.Filed.{row_holds, next_inserted}
use Rattle.lnfs_session.proofs.making.make_sessions.Goals as goal

pub make_session-requires : goal.make_session-requires
make_session-requires c =
    let row = c.row-item.result in
    subst (λ (x : SessionRow). x.client ≤ LAST_NUMBER) (sym c.row-item.is) (row_holds (λ x. x.client ≤ LAST_NUMBER) told.session_of c.args.rows.now c.loop-row.row-index row c.loop-row-test.true c.requires.clients)

pub loop-row-preserved : goal.loop-row-preserved
loop-row-preserved c =
    let row = c.row-item.result in
    let entry = ap (λ (k : SessionRef). session_of (k, c.in_ok-session.session)) c.session_ref.ensures ∙ c.in_ok-session.ensures ∙ ap told.session_of c.row-item.is in
    c.in_ok-add_session.ensures.added
    ∙ (λ t. inserted session_order (entry t) (c.loop-row.invariant t))
    ∙ next_inserted own_id told.session_of c.args.rows.now c.loop-row.row-index row c.loop-row-test.true c.requires.rise
