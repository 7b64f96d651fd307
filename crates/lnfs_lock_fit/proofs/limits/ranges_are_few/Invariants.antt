use Rattle.std.proofs.Common.{◌≡◌, ℕ, ◌+◌, ◌<◌, ◌≤◌, length, get_or, take}
use Rattle.lnfs_site.specs.Site.{site_of}
use Rattle.lnfs_locks.specs.declared.numbers.TheConstants.{RANGES_OF_A_LEVEL}
use Rattle.lnfs_locks.specs.Facts.{ranges_at}
use Rattle.lnfs_lock_fit.specs.RowsOf.{locks_of}
use Rattle.lnfs_lock_fit.proofs.limits.ranges_are_few.Given as goal

abbrev pub invariant-loop-place : goal.invariant-loop-place
invariant-loop-place l = record {
  len : length l.sums.items ≡ (site_of l.site).levels + 1;
  few : (k : ℕ) → k < (site_of l.site).levels + 1 → get_or l.sums.items k 0 ≤ RANGES_OF_A_LEVEL;
  value : (k : ℕ) → k < (site_of l.site).levels + 1 → get_or l.sums.items k 0 ≡ ranges_at k (take l.place (locks_of l.rows));
}
