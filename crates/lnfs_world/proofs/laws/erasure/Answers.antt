use Rattle.std.proofs.Common.{ap, ◌∙◌, arith}
use Rattle.std.specs.Prelude.{option_map}
use Rattle.lnfs_world.specs.World.{node_at}
use Rattle.lnfs_world.specs.Erased.{outer_of}
use Rattle.lnfs_world.proofs.Lawfulness.{erased_twice, sees_by_label}
use Rattle.lnfs_world.proofs.Nodes.{node_at-seen, outer-shrunk}
use Rattle.lnfs_world.proofs.laws.erasure.Goals as goal

pub returns : goal.returns
returns c = record {
  below = λ dom lattice level s w above. erased_twice dom lattice level s w above;
  names = λ dom lattice level w i facts. sees_by_label dom lattice level w i facts;
  outer = λ dom level w i above. ap (option_map outer_of) (node_at-seen dom level i w.nodes above) ∙ outer-shrunk dom level (node_at w.nodes i);
  inner = λ dom level n apart. grind arith;
}
