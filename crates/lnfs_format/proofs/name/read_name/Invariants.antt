use Rattle.std.proofs.Common.{◌≡◌, drop}
use Rattle.lnfs_format.specs.Kinds.{reads_name}
use Rattle.lnfs_format.proofs.name.read_name.Given as goal

abbrev pub invariant-loop-row : goal.invariant-loop-row
invariant-loop-row l = reads_name l.rows l.bytes ≡ reads_name (drop l.row-index l.rows) l.bytes
