use Rattle.std.proofs.Common.{◌≡◌, ℕ, ◌-◌, List, length}
use Rattle.lnfs_xdr.specs.Format.{Word, times}
use Rattle.lnfs_xdr.specs.Reading.{read}
use Rattle.lnfs_xdr.proofs.Loops.{grown}
use Rattle.lnfs_attrs.specs.Bitmaps.{filled}
use Rattle.lnfs_attrs.proofs.bitmap.words_of.Given as goal

abbrev pub invariant-loop-place : goal.invariant-loop-place
invariant-loop-place l =
    ((front : List ℕ) × (length front ≡ l.place) × (l.words ≡ filled 8 front)
    × (grown {E = ℕ × ℕ} front (read (times (l.count - l.place) Word) l.reader.rest) ≡ read (times l.count Word) l.fn.reader.rest))
    × (l.reader.total ≡ l.fn.reader.total)
