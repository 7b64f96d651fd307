use Rattle.std.proofs.Common.{◌≡◌, ◌-◌, ℕ}
use Rattle.lnfs_xdr.specs.Format.{times}
use Rattle.lnfs_arguments.specs.Grammar.{callback}
use Rattle.lnfs_xdr.specs.Reading.{read}
use Rattle.lnfs_xdr.proofs.Loops.{grown}
use Rattle.lnfs_arguments.proofs.read_sessions.callbacks_of.Given as goal

abbrev pub invariant-loop : goal.invariant-loop
invariant-loop l = record {
  so_far : grown {E = ℕ × ℕ} l.callbacks.items (read (times (l.count - l.counter) callback) l.reader.rest) ≡ read (times l.count callback) l.fn.reader.rest;
  total : l.reader.total ≡ l.fn.reader.total;
}
