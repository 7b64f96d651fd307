use Rattle.std.proofs.Common.{◌≡◌, ℕ, ◌<◌, ◌≤◌, false}
use Rattle.lnfs_calipso.specs.Label.{has_comp}
use Rattle.lnfs_policy.proofs.fits.is_below.Given as goal

abbrev pub invariant-loop-comp : goal.invariant-loop-comp
invariant-loop-comp l = (k : ℕ) → l.bound ≤ k → k < l.comp → has_comp l.label.comps k ≡ false
