use Rattle.std.proofs.Common.{◌≡◌, ◌+◌, ◌++◌, [], ℕ, List, length}
use Rattle.lnfs_history.specs.Entries.{known, part}
use Rattle.lnfs_workers.specs.Pairs.{EachAt}
use Rattle.lnfs_workers.proofs.pool.with_places.Given as goal

abbrev pub invariant-loop-given : goal.invariant-loop-given
invariant-loop-given g l = record {
  front : (given : List (ℕ × g.row.L.Denot)) × (l.fn.links.items ≡ given ++ l.left.items)
      × EachAt (λ n link one. (one.class ≡ link.0) × (one.link ≡ link.1) × (one.place ≡ part n [])) 0 given l.all.items
      × (length l.all.items ≡ length given)
      × (l.keeper ≡ known l.fn.keeper.log (length given));
  room : length l.all.items + length l.left.items ≡ length l.fn.links.items;
}

abbrev pub decreases-loop-given : goal.decreases-loop-given
decreases-loop-given g l = length l.left.items
