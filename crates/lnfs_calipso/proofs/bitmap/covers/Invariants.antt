use Rattle.std.proofs.Common.{◌≡◌, ◌<◌, ℕ, slice_index, bit_and}
use Rattle.std.specs.Int.{bit_not, w32}
use Rattle.lnfs_calipso.proofs.bitmap.covers.Given as goal

abbrev pub invariant-loop-place : goal.invariant-loop-place
invariant-loop-place l = (k : ℕ) → k < l.place → bit_and (slice_index l.low k) (bit_not w32 (slice_index l.high k)) ≡ 0
