use Rattle.std.proofs.Common.{◌≡◌, ◌-◌, map}
use Rattle.lnfs_xdr.specs.Format.{times}
use Rattle.lnfs_xdr.specs.Reading.{read}
use Rattle.lnfs_xdr.proofs.Loops.{grown}
use Rattle.lnfs_rows.specs.Told.{client_of}
use Rattle.lnfs_layout.specs.Grammar.{many, client_row}
use Rattle.lnfs_layout.proofs.lists.read_clients.Given as goal

abbrev pub invariant-loop : goal.invariant-loop
invariant-loop l = record {
  so_far : grown {E = ⊥} (map client_of l.rows.items) (read (times (l.count - l.counter) client_row) l.reader.rest) ≡ read (many client_row) l.fn.reader.rest;
  total : l.reader.total ≡ l.fn.reader.total;
}
