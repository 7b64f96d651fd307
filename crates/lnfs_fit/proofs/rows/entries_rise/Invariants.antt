use Rattle.std.proofs.Common.{◌≡◌, ℕ, suc, ◌<◌}
use Rattle.std.specs.declared.cmp.Ordering.TheVariants.{Less}
use Rattle.lnfs_world.specs.World.{entry_order}
use Rattle.lnfs_fit.specs.Places.{nth_entry}
use Rattle.lnfs_fit.specs.RowsOf.{entries_of}
use Rattle.lnfs_fit.proofs.rows.entries_rise.Given as goal

abbrev pub invariant-loop-place : goal.invariant-loop-place
invariant-loop-place l = (k : ℕ) → suc k < l.place → entry_order (nth_entry (entries_of l.entries) k) (nth_entry (entries_of l.entries) (suc k)) ≡ Less
