use Rattle.std.proofs.Common.{take}
use Rattle.lnfs_world.specs.Rows.{Apart}
use Rattle.lnfs_world.specs.Facts.{are_rivals}
use Rattle.lnfs_sound.specs.Keys.{AreRivals}
use Rattle.lnfs_sound.specs.RowsOf.{clients_of}
use Rattle.lnfs_sound.proofs.clients.rivals_differ.Given as goal

abbrev pub invariant-loop-place : goal.invariant-loop-place
invariant-loop-place l = record {
  apart : Apart are_rivals (take l.place (clients_of l.rows));
  seen : AreRivals l.seen (take l.place (clients_of l.rows));
}
