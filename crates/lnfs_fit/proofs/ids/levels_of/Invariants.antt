use Rattle.std.proofs.Common.{◌≡◌, ℕ, ◌<◌, length, get_or}
use Rattle.lnfs_fit.specs.Ids.{nth_id}
use Rattle.lnfs_fit.specs.RowsOf.{ids_of}
use Rattle.lnfs_fit.proofs.ids.levels_of.Given as goal

abbrev pub invariant-loop-place : goal.invariant-loop-place
invariant-loop-place l = record {
  len : length l.levels.items ≡ l.place;
  value : (k : ℕ) → k < l.place → get_or l.levels.items k 0 ≡ (nth_id (ids_of l.ids) k).level;
}
