use Rattle.std.proofs.Common.{take}
use Rattle.lnfs_calipso.specs.declared.lattice.TheConstants.{MAX_LEVELS}
use Rattle.lnfs_quota.proofs.FromHomes.{IsCounted}
use Rattle.lnfs_quota.proofs.quota.Quota.counted_homes.Given as goal

-- the homes so far are counted
abbrev pub invariant-loop-home : goal.invariant-loop-home
invariant-loop-home l = IsCounted MAX_LEVELS (take l.home-index l.homes) l.quota
