use Rattle.std.proofs.Common.{map, drop}
use Rattle.lnfs_rows.specs.Lasts.{given_of}
use Rattle.lnfs_rows.specs.Told as told
use Rattle.lnfs_counts.proofs.Coming.{IsBegun}
use Rattle.lnfs_gss3.specs.Listed.{own_id, context_of}
use Rattle.lnfs_gss3.proofs.contexts.Contexts.from_rows.Given as goal

-- the contexts of the rows before
abbrev pub invariant-loop-row : goal.invariant-loop-row
invariant-loop-row l = IsBegun own_id (given_of l.lasts) (map told.context_of l.rows) (map context_of l.contexts.entries) (map told.context_of (drop l.row-index l.rows)) l.counters
