use Rattle.lnfs_world.proofs.Seals.{unseal}
use Rattle.lnfs_tree.proofs.laws.makes_tree.Goals as goal

pub returns : goal.returns
returns c = λ dom t facts storable few lasts. record {
  nodes = record { rise = facts.rise; storable = storable };
  names = record { rise = facts.entries_rise; apart = facts.names; joined = (unseal facts.tree).joined; few = few };
  lasts = lasts;
}
