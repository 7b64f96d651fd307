use Rattle.std.proofs.Common.{◌≡◌, ◌-◌, map}
use Rattle.lnfs_xdr.specs.Format.{times}
use Rattle.lnfs_xdr.specs.Reading.{read}
use Rattle.lnfs_xdr.proofs.Loops.{grown}
use Rattle.lnfs_rows.specs.Told.{node_of}
use Rattle.lnfs_layout.specs.Grammar.{many, node_row}
use Rattle.lnfs_layout.proofs.lists.read_nodes.Given as goal

abbrev pub invariant-loop : goal.invariant-loop
invariant-loop l = record {
  so_far : grown {E = ⊥} (map node_of l.rows.items) (read (times (l.count - l.counter) node_row) l.reader.rest) ≡ read (many node_row) l.fn.reader.rest;
  total : l.reader.total ≡ l.fn.reader.total;
}
