use Rattle.std.proofs.Common.{◌≡◌, map}
use Rattle.lnfs_rows.specs.Lasts.{each_of}
use Rattle.lnfs_tree.specs.Flat.{last_row}
use Rattle.lnfs_tree.proofs.telling.numbers_of.Given as goal

-- those of the levels so far
abbrev pub invariant-loop-level : goal.invariant-loop-level
invariant-loop-level l = l.numbers.items ≡ each_of l.level (map last_row l.lasts.entries)
