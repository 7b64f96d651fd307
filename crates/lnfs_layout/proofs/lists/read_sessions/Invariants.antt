use Rattle.std.proofs.Common.{◌≡◌, ◌-◌, map}
use Rattle.lnfs_xdr.specs.Format.{times}
use Rattle.lnfs_xdr.specs.Reading.{read}
use Rattle.lnfs_xdr.proofs.Loops.{grown}
use Rattle.lnfs_rows.specs.Told.{session_of}
use Rattle.lnfs_layout.specs.Grammar.{many, session_row}
use Rattle.lnfs_layout.proofs.lists.read_sessions.Given as goal

abbrev pub invariant-loop : goal.invariant-loop
invariant-loop l = record {
  so_far : grown {E = ⊥} (map session_of l.rows.items) (read (times (l.count - l.counter) session_row) l.reader.rest) ≡ read (many session_row) l.fn.reader.rest;
  total : l.reader.total ≡ l.fn.reader.total;
}
