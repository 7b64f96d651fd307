use Rattle.std.proofs.Common.{◌≡◌, ◌≤◌, true, subst}
use Rattle.std.specs.Prelude.{◌↔◌}
use Rattle.std.specs.List.{AllByRecursion}
use Rattle.lnfs_ranges.specs.Modes.{AreRuns}
use Rattle.lnfs_locks.specs.declared.numbers.TheConstants.{LAST_OFFSET}
use Rattle.lnfs_lock_fit.proofs.fits.has_ranges.Goals as goal

pub returns : goal.returns
returns c =
    let told = subst (λ rs. (c.ranges_fit.result ≡ true) ↔ (AreRuns rs × AllByRecursion (λ r. r.last ≤ LAST_OFFSET) rs)) c.deref.ensures.value c.ranges_fit.ensures in (
      λ fit. let both = told.0 fit in record { runs = both.0; ends = both.1 },
      λ has. told.1 (has.runs, has.ends),
    )
