use Rattle.std.proofs.Common.{Some, refl, ap, sym}
use Rattle.lnfs_session.specs.declared.rows.Client.{Client}
use Rattle.lnfs_session.specs.Standing.{seen_at}
use Rattle.lnfs_session.proofs.ClientRows.{set_nowhere, set_there}
use Rattle.lnfs_session.proofs.client_rows.set_seen.Goals as goal

pub returns-in_default : goal.returns-in_default
returns-in_default c = set_nowhere (seen_at c.args.secs) c.args.id c.args.rows.now.entries _ (sym c.in_default.ensures.value) (ap (λ m. m.entries) c.get_mut.follows.holds-at-none)

pub returns : goal.returns
returns c =
    let row : Client = record c.in-Some.row.now { seen = Some c.args.secs } in
    set_there (seen_at c.args.secs) c.args.id c.args.rows.now.entries _ c.in-Some.row.now row c.get_mut.ensures.ordered (sym c.in-Some.ensures.value) (c.get_mut.follows.holds row).0 refl
