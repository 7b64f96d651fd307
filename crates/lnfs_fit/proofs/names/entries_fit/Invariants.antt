use Rattle.std.proofs.Common.{ℕ, ◌<◌}
use Rattle.lnfs_operations.specs.Bounds.{EntryBounds}
use Rattle.lnfs_fit.specs.Places.{nth_entry}
use Rattle.lnfs_fit.specs.RowsOf.{entries_of}
use Rattle.lnfs_fit.proofs.names.entries_fit.Given as goal

abbrev pub invariant-loop-place : goal.invariant-loop-place
invariant-loop-place l = (t : ℕ) → t < l.place → EntryBounds (nth_entry (entries_of l.entries) t)
