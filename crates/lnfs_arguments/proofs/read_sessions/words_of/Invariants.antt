use Rattle.std.proofs.Common.{◌≡◌, ◌-◌, ℕ}
use Rattle.lnfs_xdr.specs.Format.{Word, times}
use Rattle.lnfs_xdr.specs.Reading.{read}
use Rattle.lnfs_xdr.proofs.Loops.{grown}
use Rattle.lnfs_arguments.proofs.read_sessions.words_of.Given as goal

abbrev pub invariant-loop : goal.invariant-loop
invariant-loop l = record {
  so_far : grown {E = ℕ × ℕ} l.words.items (read (times (l.count - l.counter) Word) l.reader.rest) ≡ read (times l.count Word) l.fn.reader.rest;
  total : l.reader.total ≡ l.fn.reader.total;
}
