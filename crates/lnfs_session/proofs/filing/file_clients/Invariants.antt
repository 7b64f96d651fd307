use Rattle.std.proofs.Common.{◌≡◌, map, take}
use Rattle.lnfs_rows.specs.Lasts.{given_of}
use Rattle.lnfs_rows.specs.Told.{client_of}
use Rattle.lnfs_session.specs.Levels.{lasts_of}
use Rattle.lnfs_session.specs.Indexed.{AreFiled}
use Rattle.lnfs_session.proofs.filing.file_clients.Given as goal

-- the rows so far
abbrev pub invariant-loop-row : goal.invariant-loop-row
invariant-loop-row l = record {
  filed : AreFiled (map client_of (take l.row-index l.rows)) l.levels;
  lasts : lasts_of l.levels.entries ≡ given_of l.lasts;
}
