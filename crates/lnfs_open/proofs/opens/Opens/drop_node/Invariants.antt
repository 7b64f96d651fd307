use Rattle.std.proofs.Common.{◌≡◌, length}
use Rattle.std.specs.Prelude.{not, filter}
use Rattle.lnfs_world.specs.World.{same_id}
use Rattle.lnfs_open.specs.Listed.{id_of}
use Rattle.lnfs_open.proofs.opens.Opens.drop_node.Given as goal

abbrev pub invariant-loop-id : goal.invariant-loop-id
invariant-loop-id l = record {
  opens : filter (λ o. not (same_id (id_of l.node) o.node)) l.self.opens ≡ filter (λ o. not (same_id (id_of l.node) o.node)) l.fn.self.opens;
  lasts : l.self.lasts ≡ l.fn.self.lasts;
}

abbrev pub decreases-loop-id : goal.decreases-loop-id
decreases-loop-id l = length l.self.opens
