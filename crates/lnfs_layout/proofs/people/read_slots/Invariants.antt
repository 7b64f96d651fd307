use Rattle.std.proofs.Common.{◌≡◌, ◌-◌, map}
use Rattle.lnfs_xdr.specs.Format.{times}
use Rattle.lnfs_xdr.specs.Reading.{read}
use Rattle.lnfs_xdr.proofs.Loops.{grown}
use Rattle.lnfs_rows.specs.Told.{slot_of}
use Rattle.lnfs_layout.specs.Grammar.{many, slot_row}
use Rattle.lnfs_layout.proofs.people.read_slots.Given as goal

abbrev pub invariant-loop : goal.invariant-loop
invariant-loop l = record {
  so_far : grown {E = ⊥} (map slot_of l.rows.items) (read (times (l.count - l.counter) slot_row) l.reader.rest) ≡ read (many slot_row) l.fn.reader.rest;
  total : l.reader.total ≡ l.fn.reader.total;
}
