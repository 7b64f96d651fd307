-- The first world of every policy has all facts of a world, and nothing but directories.
use Rattle.std.proofs.Common.{map}
use Rattle.lnfs_calipso.specs.Label.{IsPreorderWithBottom}
use Rattle.lnfs_policy.specs.Policy.{Policy, dominance}
use Rattle.lnfs_world.specs.Facts.{Facts}
use Rattle.lnfs_world.proofs.FirstTrees as trees
use Rattle.lnfs_world.proofs.FirstTrees.{IsBare}
use Rattle.lnfs_site.specs.Site.{first_label, first_dir, first_world}

pub first_facts : (p : Policy) → IsPreorderWithBottom (dominance p) → Facts (dominance p) (first_world p)
unfolding first_world
first_facts p lattice = trees.first_facts (dominance p) lattice (first_label p 0) (map (first_dir p) p.dirs)

pub first_bare : (p : Policy) → IsBare (first_world p)
unfolding first_world
first_bare p = trees.first_bare (dominance p) (first_label p 0) (map (first_dir p) p.dirs)
