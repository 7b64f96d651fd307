use Rattle.std.proofs.Common.{◌≡◌, drop}
use Rattle.lnfs_calipso.specs.Body.{words_in}
use Rattle.lnfs_calipso.proofs.body.read_words.Given as goal

abbrev pub invariant-loop-place : goal.invariant-loop-place
invariant-loop-place l = l.words.items ≡ words_in l.place (drop 6 l.bytes)
