use Rattle.std.proofs.Common.{ap, ◌∙◌}
use Rattle.lnfs_world.specs.Rows.{inserted}
use Rattle.lnfs_world.specs.World.{client_order}
use Rattle.lnfs_rows.specs.Told as told
use Rattle.lnfs_session.specs.declared.rows.ClientRef.{ClientRef}
use Rattle.lnfs_session.specs.Listed.{client_of}
use Rattle.lnfs_session.specs.Indexed.{own_id}
use Rattle.lnfs_session.specs.Makes.{IsNumber}
use Rattle.lnfs_session.proofs.Filed.{row_holds, next_inserted}
use Rattle.lnfs_session.proofs.making.make_clients.Goals as goal

pub client_ref-requires : goal.client_ref-requires
client_ref-requires c = (row_holds (λ x. IsNumber x.id) told.client_of c.args.rows.now c.loop-row.row-index _ c.loop-row-test.true c.requires.numbers).1

pub loop-row-preserved : goal.loop-row-preserved
loop-row-preserved c =
    let entry = ap (λ (k : ClientRef). client_of (k, c.in_ok-client.client)) c.client_ref.ensures ∙ c.in_ok-client.ensures in
    c.in_ok-add_client.ensures.added
    ∙ (λ t. inserted client_order (entry t) (c.loop-row.invariant t))
    ∙ next_inserted own_id told.client_of c.args.rows.now c.loop-row.row-index _ c.loop-row-test.true c.requires.rise
