use Rattle.std.proofs.Common.{◌≡◌, ◌≤◌, take}
use Rattle.lnfs_attrs.specs.Bitmaps.{trimmed}
use Rattle.lnfs_attrs.proofs.bitmap.used_words.Given as goal

abbrev pub invariant-loop-place : goal.invariant-loop-place
invariant-loop-place l = (l.used ≤ l.place) × (trimmed (take l.place l.words) ≡ take l.used l.words)
