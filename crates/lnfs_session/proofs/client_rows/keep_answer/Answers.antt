use Rattle.std.proofs.Common.{Some, ap, sym}
use Rattle.lnfs_world.specs.World as world
use Rattle.lnfs_session.specs.declared.rows.Client.{Client}
use Rattle.lnfs_session.specs.Listed.{client_of, kept_of}
use Rattle.lnfs_session.specs.Standing.{answered}
use Rattle.lnfs_session.proofs.ClientRows.{set_nowhere, set_there}
use Rattle.lnfs_session.proofs.client_rows.keep_answer.Goals as goal

pub returns-in_default : goal.returns-in_default
returns-in_default c = set_nowhere (answered (kept_of c.args.kept)) c.args.id c.args.rows.now.entries _ (sym c.in_default.ensures.value) (ap (λ m. m.entries) c.get_mut.follows.holds-at-none)

pub returns : goal.returns
returns c =
    let row : Client = record c.in-Some.row.now { sequence = c.next_sequence-row.result; kept = Some c.args.kept } in
    let old : world.Client = client_of (c.args.id, c.in-Some.row.now) in
    set_there (answered (kept_of c.args.kept)) c.args.id c.args.rows.now.entries _ c.in-Some.row.now row c.get_mut.ensures.ordered (sym c.in-Some.ensures.value) (c.get_mut.follows.holds row).0
    (λ t. record (client_of (c.args.id, row)) { sequence = c.next_sequence-row.ensures t })
