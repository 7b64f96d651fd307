use Rattle.std.proofs.Common.{not, filter, ap, ◌∙◌}
use Rattle.lnfs_world.specs.World.{same_id}
use Rattle.lnfs_open.specs.Opening.{ended_of}
use Rattle.lnfs_open.proofs.opens.Opens.close.Goals as goal

pub returns-clause-lists : goal.returns-clause-lists
returns-clause-lists c =
    let s = c.args.self.now in
    c.take_out.ensures
    ∙ (λ t. record s { opens = filter (λ o. not (same_id (c.key.ensures t) o.id)) s.opens })
    ∙ ap (λ r. ended_of r s) c.in_ok-find.ensures.row
