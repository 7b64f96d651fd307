-- A world with the rows of a tree and of the opens.
use Rattle.lnfs_world.specs.World.{World}
use Rattle.lnfs_tree.specs.Rows.{Rows}
use Rattle.lnfs_open.specs.Lists.{Lists}
use Rattle.lnfs_nodes.specs.Trees.{with_tree}

abbrev pub with_opens : World → Lists → World
with_opens rest s = record rest { opens = s.opens; lasts = record rest.lasts { opens = s.lasts } }

abbrev pub with_files : World → Rows → Lists → World
with_files rest t s = with_opens (with_tree rest t) s
