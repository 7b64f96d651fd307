use Rattle.std.proofs.Common.{◌≡◌, ◌-◌}
use Rattle.lnfs_xdr.specs.Format.{times}
use Rattle.lnfs_xdr.specs.Reading.{read}
use Rattle.lnfs_xdr.proofs.Loops.{grown}
use Rattle.lnfs_layout.specs.Grammar.{many, range_row}
use Rattle.lnfs_layout.proofs.locks.read_ranges.Given as goal

abbrev pub invariant-loop : goal.invariant-loop
invariant-loop l = record {
  so_far : grown {E = ⊥} l.ranges.items (read (times (l.count - l.counter) range_row) l.reader.rest) ≡ read (many range_row) l.fn.reader.rest;
  total : l.reader.total ≡ l.fn.reader.total;
}
