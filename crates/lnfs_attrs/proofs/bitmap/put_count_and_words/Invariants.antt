use Rattle.std.proofs.Common.{◌≡◌, ◌++◌, length, take}
use Rattle.std.specs.List.{flat_map}
use Rattle.lnfs_xdr.specs.Canon.{word}
use Rattle.lnfs_attrs.proofs.bitmap.put_count_and_words.Given as goal

abbrev pub invariant-loop-word : goal.invariant-loop-word
invariant-loop-word l = l.out ≡ l.fn.out ++ word (length l.words) ++ flat_map word (take l.word-index l.words)
