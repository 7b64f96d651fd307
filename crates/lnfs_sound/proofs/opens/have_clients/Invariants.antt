use Rattle.std.proofs.Common.{◌≡◌, ℕ, ◌<◌, true}
use Rattle.lnfs_world.specs.Facts.{has_confirmed}
use Rattle.lnfs_sound.specs.RowsOf.{clients_of, opens_of, nth_open}
use Rattle.lnfs_sound.proofs.opens.have_clients.Given as goal

abbrev pub invariant-loop-place : goal.invariant-loop-place
invariant-loop-place l = (k : ℕ) → k < l.place → has_confirmed (clients_of l.clients) (nth_open (opens_of l.rows) k).id.level (nth_open (opens_of l.rows) k).client ≡ true
