-- Which locks stand in which group.
use Rattle.std.specs.Prelude.{Bool, is_some}
use Rattle.std.specs.Ordering.{ordering_then}
use Rattle.std.specs.declared.cmp.Ordering.{Ordering}
use Rattle.std.specs.BTreeMap.{get}
use Rattle.lnfs_world.specs.World.{Id, id_order}
use Rattle.lnfs_locking.specs.declared.groups.Groups.{Groups}
use Rattle.lnfs_locking.specs.declared.groups.Place.{Place}
use Rattle.lnfs_locking.specs.Keys.{id_of, key_of}

abbrev pub place_cmp : Place → Place → Ordering
place_cmp a b = ordering_then (id_order (id_of a.group) (id_of b.group)) (id_order (id_of a.id) (id_of b.id))

abbrev pub place_of : (group i : Id) → Place
place_of group i = record { group = key_of group; id = key_of i }

abbrev pub holds : Groups → (group i : Id) → Bool
holds g group i = is_some (get place_cmp g.places (place_of group i))
