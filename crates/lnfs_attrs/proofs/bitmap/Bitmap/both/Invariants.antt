use Rattle.std.proofs.Common.{◌≡◌, ℕ, ◌*◌, ◌/◌, ◌%◌, ◌<◌, get_or, length}
use Rattle.std.specs.Prelude.{◌&&◌}
use Rattle.lnfs_attrs.specs.Bitmaps.{bit, has_attr}
use Rattle.lnfs_attrs.proofs.bitmap.Bitmap.both.Given as goal

-- the words before are made
abbrev pub invariant-loop-place : goal.invariant-loop-place
invariant-loop-place l =
    (length l.words ≡ 8) × ((n : ℕ) → n < 32 * l.place → bit (get_or l.words (n / 32) 0) (n % 32) ≡ (has_attr l.self n && has_attr l.other n))
