use Rattle.std.proofs.Common.{◌≡◌, ℕ, ◌-◌, ◌<◌, ◌≤◌, length}
use Rattle.std.specs.declared.cmp.Ordering.TheVariants.{Less}
use Rattle.lnfs_world.specs.World.{id_order}
use Rattle.lnfs_rows.specs.Told.{id_of}
use Rattle.lnfs_fit.specs.Ids.{nth_id}
use Rattle.lnfs_fit.specs.RowsOf.{ids_of}
use Rattle.lnfs_fit.proofs.ids.place_of.Given as goal

abbrev pub invariant-halve : goal.invariant-halve
invariant-halve l = record {
  order : l.low ≤ l.high;
  within : l.high ≤ length l.ids;
  before : (k : ℕ) → k < l.low → id_order (nth_id (ids_of l.ids) k) (id_of l.id) ≡ Less;
  behind : (k : ℕ) → l.high ≤ k → k < length l.ids → id_order (id_of l.id) (nth_id (ids_of l.ids) k) ≡ Less;
}

abbrev pub decreases-halve : goal.decreases-halve
decreases-halve l = l.high - l.low
