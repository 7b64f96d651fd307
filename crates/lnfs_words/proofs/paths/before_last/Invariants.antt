use Rattle.std.proofs.Common.{◌≡◌, length}
use Rattle.lnfs_words.specs.Paths.{before_last}
use Rattle.lnfs_words.proofs.paths.before_last.Given as goal

-- nothing is behind the front but bytes that are no separator
abbrev pub invariant-loop-last : goal.invariant-loop-last
invariant-loop-last l = before_last l.separator l.text ≡ before_last l.separator l.front

abbrev pub decreases-loop-last : goal.decreases-loop-last
decreases-loop-last l = length l.front
