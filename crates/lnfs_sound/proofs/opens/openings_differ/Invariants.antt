use Rattle.std.proofs.Common.{take}
use Rattle.lnfs_world.specs.Rows.{Apart}
use Rattle.lnfs_world.specs.Facts.{same_opening}
use Rattle.lnfs_sound.specs.Keys.{AreOpenings}
use Rattle.lnfs_sound.specs.RowsOf.{opens_of}
use Rattle.lnfs_sound.proofs.opens.openings_differ.Given as goal

abbrev pub invariant-loop-place : goal.invariant-loop-place
invariant-loop-place l = record {
  apart : Apart same_opening (take l.place (opens_of l.rows));
  seen : AreOpenings l.seen (take l.place (opens_of l.rows));
}
