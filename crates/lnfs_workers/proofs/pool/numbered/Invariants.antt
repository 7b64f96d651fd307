use Rattle.std.proofs.Common.{◌≡◌, ◌+◌, ◌++◌, List, length}
use Rattle.lnfs_workers.specs.Pairs.{Each}
use Rattle.lnfs_workers.proofs.pool.numbered.Given as goal

abbrev pub invariant-loop-links : goal.invariant-loop-links
invariant-loop-links g l = record {
  front : (taken : List _) × (l.fn.hands.items ≡ taken ++ l.left.items)
      × Each (λ links job. job.links ≡ links) taken l.jobs.items
      × (length l.jobs.items ≡ length taken);
  room : length l.jobs.items + length l.left.items ≡ length l.fn.hands.items;
}

abbrev pub decreases-loop-links : goal.decreases-loop-links
decreases-loop-links g l = length l.left.items
