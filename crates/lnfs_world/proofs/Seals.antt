-- What is sealed holds.
use Rattle.lnfs_world.specs.Tree.{Sealed}

pub seal : {P : Type 0} → P → Sealed P
unfolding Sealed
seal p = p

pub unseal : {P : Type 0} → Sealed P → P
unfolding Sealed
unseal p = p
