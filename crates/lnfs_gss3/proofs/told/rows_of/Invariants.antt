use Rattle.std.proofs.Common.{◌≡◌, ◌++◌, map}
use Rattle.lnfs_rows.specs.Told as told
use Rattle.lnfs_gss3.specs.Listed.{context_of}
use Rattle.lnfs_gss3.proofs.told.rows_of.Given as goal

-- the rows so far, and the contexts that are left
abbrev pub invariant-loop-id : goal.invariant-loop-id
invariant-loop-id l = map told.context_of l.rows.items ++ map context_of l.id-iterator ≡ map context_of l.contexts.entries
