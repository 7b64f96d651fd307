use Rattle.std.proofs.Common.{◌≡◌, drop}
use Rattle.lnfs_format.specs.Kinds.{writes_name}
use Rattle.lnfs_format.proofs.name.write_name.Given as goal

abbrev pub invariant-loop-row : goal.invariant-loop-row
invariant-loop-row l = writes_name l.rows l.label ≡ writes_name (drop l.row-index l.rows) l.label
