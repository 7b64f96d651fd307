use Rattle.lnfs_vault.proofs.Keeping.{no_bytes}
use Rattle.lnfs_vault.proofs.stand.Stand.first.Goals as goal

pub new-requires : goal.new-requires
new-requires g c = record { empty = no_bytes c.args.site.now c.in_ok-tree.tree c.in_ok-tree.ensures.tree; bounds = c.in_ok-tree.ensures.bounds }
