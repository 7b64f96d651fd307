use Rattle.std.proofs.Common.{◌≡◌, ◌-◌, map}
use Rattle.lnfs_xdr.specs.Format.{times}
use Rattle.lnfs_xdr.specs.Reading.{read}
use Rattle.lnfs_xdr.proofs.Loops.{grown}
use Rattle.lnfs_lock_rows.specs.Told.{lock_of}
use Rattle.lnfs_layout.specs.Grammar.{many, lock_row}
use Rattle.lnfs_layout.proofs.locks.read_locks.Given as goal

abbrev pub invariant-loop : goal.invariant-loop
invariant-loop l = record {
  so_far : grown {E = ⊥} (map lock_of l.rows.items) (read (times (l.count - l.counter) lock_row) l.reader.rest) ≡ read (many lock_row) l.fn.reader.rest;
  total : l.reader.total ≡ l.fn.reader.total;
}
