-- The locks of a level, from an identifier on.
use Rattle.std.specs.Prelude.{◌==◌, ◌&&◌, Bool}
use Rattle.std.specs.Ordering.{is_le}
use Rattle.lnfs_world.specs.World.{Id, id_order}
use Rattle.lnfs_locks.specs.Locks.{Lock}

-- whether a lock of the level passes a test, and doesn't lie before
abbrev pub from_on : Id → (Lock → Bool) → Lock → Bool
from_on i test l = l.id.level == i.level && (is_le (id_order i l.id) && test l)
