use Rattle.std.proofs.Common.{◌≡◌, map, take}
use Rattle.lnfs_counts.specs.Counters.{last_at, count_at, lasts_of}
use Rattle.lnfs_counts.specs.Counted.{IsCounted}
use Rattle.lnfs_rows.specs.Lasts.{given_of}
use Rattle.lnfs_rows.specs.Told.{session_of}
use Rattle.lnfs_session.specs.Sessions.{own_id}
use Rattle.lnfs_session.proofs.filing.count_sessions.Given as goal

-- the rows so far
abbrev pub invariant-loop-row : goal.invariant-loop-row
invariant-loop-row l = record {
  counted : IsCounted own_id (map session_of (take l.row-index l.rows)) (given_of l.lasts) (last_at l.made) (count_at l.made);
  lasts : lasts_of l.made.entries ≡ given_of l.lasts;
}
