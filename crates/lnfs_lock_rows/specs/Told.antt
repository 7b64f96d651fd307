-- What rows of locks stand for.
use Rattle.std.specs.Prelude.{map}
use Rattle.lnfs_rows.specs.Lasts.{given_of}
use Rattle.lnfs_rows.specs.Told.{id_of}
use Rattle.lnfs_locks.specs.Locks as locks
use Rattle.lnfs_lock_rows.specs.declared.LockRow.{LockRow}
use Rattle.lnfs_lock_rows.specs.declared.LockRows.{LockRows}

abbrev pub lock_of : LockRow → locks.Lock
lock_of l = record {
  id = id_of l.id;
  client = l.client;
  opening = l.opening;
  owner = l.owner.now;
  node = id_of l.node;
  sequence = l.sequence;
  ranges = l.ranges.items;
}

abbrev pub locks_told : LockRows → locks.Locks
locks_told rows = record { lasts = given_of rows.lasts.items; locks = map lock_of rows.locks.items }
