use Rattle.std.proofs.Common.{refl}
use Rattle.lnfs_world.specs.First.{first_tree}
use Rattle.lnfs_site.specs.Site.{first_world}
use Rattle.lnfs_site.proofs.example.first_world_of_four_lines.Goals as goal

pub returns : goal.returns
unfolding first_world first_tree
returns c = record { nodes = refl; names = refl; lasts = refl }
