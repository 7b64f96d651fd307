use Rattle.std.proofs.Common.{arith}
use Rattle.lnfs_world.specs.Tree.{root, parent_of}
use Rattle.lnfs_world.proofs.Seals.{unseal}
use Rattle.lnfs_world.proofs.Ways.{no_parent, no_turn}
use Rattle.lnfs_world.proofs.Walks.{under_right, under_found}
use Rattle.lnfs_world.proofs.WholeWalks.{whole_right, whole_found}
use Rattle.lnfs_world.proofs.laws.tree.Goals as goal

pub returns : goal.returns
returns c = record {
  tree = λ dom w facts. unseal facts.nodes.tree;
  loops = λ dom w d steps facts is turns.
      let tree = unseal facts.nodes.tree in
      let ends = tree.ends d is in
      omega (arith, no_turn (parent_of w.entries) (no_parent w.entries root tree.free) steps ends.0 d ends.1 turns);
  whole = λ dom w moved target facts is. (whole_right dom w facts moved target, whole_found dom w facts moved target is);
  walk = λ dom lattice s w moved target facts is seen. (under_right dom s w moved target, under_found dom lattice s w facts moved target is seen);
}
