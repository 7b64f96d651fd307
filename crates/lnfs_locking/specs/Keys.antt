-- Identifiers as the code keeps them.
use Rattle.lnfs_world.specs.World.{Id}
use Rattle.lnfs_locking.specs.declared.keys.Key.{Key}

abbrev pub id_of : Key → Id
id_of k = record { level = k.level; number = k.number }

abbrev pub key_of : Id → Key
key_of i = record { level = i.level; number = i.number }
