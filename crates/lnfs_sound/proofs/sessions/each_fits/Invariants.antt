use Rattle.std.proofs.Common.{ℕ, ◌<◌}
use Rattle.lnfs_sound.specs.Parts.{IsFitSession}
use Rattle.lnfs_sound.specs.RowsOf.{sessions_of, nth_session}
use Rattle.lnfs_sound.proofs.sessions.each_fits.Given as goal

abbrev pub invariant-loop-place : goal.invariant-loop-place
invariant-loop-place l = (k : ℕ) → k < l.place → IsFitSession (nth_session (sessions_of l.rows) k)
