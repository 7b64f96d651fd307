use Rattle.std.proofs.Common.{ℕ, ◌<◌}
use Rattle.lnfs_sound.specs.Parts.{IsFitSlot}
use Rattle.lnfs_sound.specs.RowsOf.{slots_of, nth_slot}
use Rattle.lnfs_sound.proofs.sessions.slots_fit.Given as goal

abbrev pub invariant-loop-place : goal.invariant-loop-place
invariant-loop-place l = (k : ℕ) → k < l.place → IsFitSlot l.most (nth_slot (slots_of l.slots) k)
