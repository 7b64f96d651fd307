use Rattle.std.proofs.Common.{◌≡◌, drop}
use Rattle.lnfs_format.specs.Reading.{read_bytes, HasFit}
use Rattle.lnfs_format.proofs.reading.Reading.read.Given as goal

abbrev pub invariant-loop-byte : goal.invariant-loop-byte
invariant-loop-byte l = record {
  reads : read_bytes l.fn.self l.bytes ≡ read_bytes l.reading (drop l.byte-index l.bytes);
  fits : HasFit l.reading;
}
