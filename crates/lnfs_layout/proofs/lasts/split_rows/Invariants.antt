use Rattle.std.proofs.Common.{take}
use Rattle.lnfs_layout.specs.Lasts.{IsSplit}
use Rattle.lnfs_layout.proofs.lasts.split_rows.Given as goal

abbrev pub invariant-loop-row : goal.invariant-loop-row
invariant-loop-row l = IsSplit (take l.row-index l.rows) l.lasts l.locks.items
