use Rattle.std.proofs.Common.{◌≡◌, ℕ, ◌*◌, ◌<◌, true}
use Rattle.lnfs_attrs.specs.Bitmaps.{has_attr}
use Rattle.lnfs_attrs.proofs.bitmap.Bitmap.is_within.Given as goal

-- the words before were looked at
abbrev pub invariant-loop-place : goal.invariant-loop-place
invariant-loop-place l = (n : ℕ) → n < 32 * l.place → has_attr l.self n ≡ true → has_attr l.other n ≡ true
