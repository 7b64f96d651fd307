use Rattle.std.proofs.Common.{◌≡◌, take}
use Rattle.lnfs_rows.specs.Lasts.{given_of}
use Rattle.lnfs_session.specs.Levels.{HaveNone, lasts_of}
use Rattle.lnfs_session.proofs.filing.levels_given.Given as goal

-- the levels so far
abbrev pub invariant-loop-level : goal.invariant-loop-level
invariant-loop-level l = record {
  none : HaveNone l.levels;
  lasts : lasts_of l.levels.entries ≡ given_of (take l.level l.lasts);
}
