use Rattle.std.proofs.Common.{◌≡◌, ◌-◌, map}
use Rattle.lnfs_xdr.specs.Format.{times}
use Rattle.lnfs_xdr.specs.Reading.{read}
use Rattle.lnfs_xdr.proofs.Loops.{grown}
use Rattle.lnfs_rows.specs.Told.{open_of}
use Rattle.lnfs_layout.specs.Grammar.{many, open_row}
use Rattle.lnfs_layout.proofs.lists.read_opens.Given as goal

abbrev pub invariant-loop : goal.invariant-loop
invariant-loop l = record {
  so_far : grown {E = ⊥} (map open_of l.rows.items) (read (times (l.count - l.counter) open_row) l.reader.rest) ≡ read (many open_row) l.fn.reader.rest;
  total : l.reader.total ≡ l.fn.reader.total;
}
