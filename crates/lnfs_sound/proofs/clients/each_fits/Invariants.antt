use Rattle.std.proofs.Common.{ℕ, ◌<◌}
use Rattle.lnfs_sound.specs.Parts.{IsFitClient}
use Rattle.lnfs_sound.specs.RowsOf.{clients_of, nth_client}
use Rattle.lnfs_sound.proofs.clients.each_fits.Given as goal

abbrev pub invariant-loop-place : goal.invariant-loop-place
invariant-loop-place l = (k : ℕ) → k < l.place → IsFitClient (nth_client (clients_of l.rows) k)
