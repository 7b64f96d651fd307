use Rattle.std.proofs.Common.{◌≡◌, ◌++◌, ◌-◌}
use Rattle.lnfs_rows.specs.Lasts.{given_of}
use Rattle.lnfs_rows.specs.World.{lasts_of}
use Rattle.lnfs_layout.specs.Texts.{lasts_text}
use Rattle.lnfs_layout.proofs.lasts.put_lasts.Given as goal

abbrev pub invariant-loop-level : goal.invariant-loop-level
invariant-loop-level l = l.out ++ lasts_text l.level (l.levels - l.level) (lasts_of l.lasts) (given_of l.locks) ≡ l.fn.out ++ lasts_text 0 l.levels (lasts_of l.lasts) (given_of l.locks)
