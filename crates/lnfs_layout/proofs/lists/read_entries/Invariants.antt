use Rattle.std.proofs.Common.{◌≡◌, ◌-◌, map}
use Rattle.lnfs_xdr.specs.Format.{times}
use Rattle.lnfs_xdr.specs.Reading.{read}
use Rattle.lnfs_xdr.proofs.Loops.{grown}
use Rattle.lnfs_rows.specs.Told.{entry_of}
use Rattle.lnfs_layout.specs.Grammar.{many, entry_row}
use Rattle.lnfs_layout.proofs.lists.read_entries.Given as goal

abbrev pub invariant-loop : goal.invariant-loop
invariant-loop l = record {
  so_far : grown {E = ⊥} (map entry_of l.rows.items) (read (times (l.count - l.counter) entry_row) l.reader.rest) ≡ read (many entry_row) l.fn.reader.rest;
  total : l.reader.total ≡ l.fn.reader.total;
}
