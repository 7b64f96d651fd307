use Rattle.std.proofs.Common.{◌≡◌, ◌++◌, map}
use Rattle.lnfs_rows.specs.Told as told
use Rattle.lnfs_open.specs.Listed.{open_of}
use Rattle.lnfs_open.proofs.told.rows_of.Given as goal

-- the rows so far, and the opens that are left
abbrev pub invariant-loop-id : goal.invariant-loop-id
invariant-loop-id l = map told.open_of l.rows.items ++ map open_of l.id-iterator ≡ map open_of l.opens.entries
