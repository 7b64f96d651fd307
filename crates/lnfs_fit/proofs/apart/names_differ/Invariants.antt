use Rattle.std.proofs.Common.{take}
use Rattle.lnfs_world.specs.Rows.{Apart}
use Rattle.lnfs_world.specs.Facts.{same_name}
use Rattle.lnfs_fit.specs.RowsOf.{entries_of}
use Rattle.lnfs_fit.specs.Keys.{AreSeen}
use Rattle.lnfs_fit.proofs.apart.names_differ.Given as goal

abbrev pub invariant-loop-place : goal.invariant-loop-place
invariant-loop-place l = record {
  apart : Apart same_name (take l.place (entries_of l.entries));
  seen : AreSeen l.seen (take l.place (entries_of l.entries));
}
