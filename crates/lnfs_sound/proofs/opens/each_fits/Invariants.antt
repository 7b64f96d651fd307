use Rattle.std.proofs.Common.{ℕ, ◌<◌}
use Rattle.lnfs_sound.specs.Parts.{IsFitOpen}
use Rattle.lnfs_sound.specs.RowsOf.{opens_of, nth_open}
use Rattle.lnfs_sound.proofs.opens.each_fits.Given as goal

abbrev pub invariant-loop-place : goal.invariant-loop-place
invariant-loop-place l = (k : ℕ) → k < l.place → IsFitOpen (nth_open (opens_of l.rows) k)
