use Rattle.std.proofs.Common.{◌≡◌, ◌-◌}
use Rattle.lnfs_xdr.specs.Format.{times}
use Rattle.lnfs_xdr.specs.Reading.{read}
use Rattle.lnfs_xdr.proofs.Loops.{grown}
use Rattle.lnfs_layout.specs.Grammar.{last_row}
use Rattle.lnfs_layout.proofs.lasts.read_rows.Given as goal

abbrev pub invariant-loop : goal.invariant-loop
invariant-loop l = record {
  so_far : grown {E = ⊥} l.rows.items (read (times (l.levels - l.counter) last_row) l.reader.rest) ≡ read (times l.levels last_row) l.fn.reader.rest;
  total : l.reader.total ≡ l.fn.reader.total;
}
