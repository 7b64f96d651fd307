use Rattle.lnfs_tree.specs.Places.{world_of}
use Rattle.lnfs_tree.specs.Rows.{id_of}
use Rattle.lnfs_data.proofs.Settled.{accessed_totals}
use Rattle.lnfs_data.proofs.setting.touch.Goals as goal

pub returns-clause-counts : goal.returns-clause-counts
returns-clause-counts c =
    let i = id_of c.args.id in
    accessed_totals c.args.quota.now i c.args.at c.args.tree.now c.access.new.tree c.requires c.access.ensures
    (λ n inner found alike. c.law_totals.ensures.touched_alike c.args.quota.now i inner n (world_of c.args.tree.now) c.requires found alike)
