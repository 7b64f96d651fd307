use Rattle.std.proofs.Common.{map, drop}
use Rattle.lnfs_rows.specs.Lasts.{given_of}
use Rattle.lnfs_rows.specs.Told as told
use Rattle.lnfs_counts.proofs.Coming.{IsBegun}
use Rattle.lnfs_open.specs.Indexed.{own_id}
use Rattle.lnfs_open.specs.Listed.{open_of}
use Rattle.lnfs_open.specs.Kept.{IsKept}
use Rattle.lnfs_open.proofs.opens.Opens.from_rows.Given as goal

-- the opens of the rows before
abbrev pub invariant-loop-row : goal.invariant-loop-row
invariant-loop-row l = record {
  kept : IsKept l.parts.rows.entries l.parts.counters l.parts.finder l.parts.tallies;
  begun : IsBegun own_id (given_of l.lasts) (map told.open_of l.rows) (map open_of l.parts.rows.entries) (map told.open_of (drop l.row-index l.rows)) l.parts.counters;
}
