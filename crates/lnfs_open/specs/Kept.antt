-- What holds of all that is kept.
use Rattle.std.specs.Prelude.{List, map}
use Rattle.lnfs_counts.specs.Counters.{Counters, lasts_of}
use Rattle.lnfs_open.specs.declared.keys.Key.{Key}
use Rattle.lnfs_open.specs.declared.keys.OpenRow.{OpenRow}
use Rattle.lnfs_open.specs.declared.finder.Finder.{Finder}
use Rattle.lnfs_open.specs.Lists.{Lists}
use Rattle.lnfs_open.specs.Listed.{open_of, AreOwn}
use Rattle.lnfs_open.specs.Indexed.{IsIndexed}
use Rattle.lnfs_open.specs.Finding.{index_of}
use Rattle.lnfs_open.specs.declared.tallies.Tallies.{Tallies}
use Rattle.lnfs_open.specs.Tallies.{AreTallied}

abbrev pub lists_in : List (Key × OpenRow) → Counters → Lists
lists_in rows counters = record { opens = map open_of rows; lasts = lasts_of counters.entries }

pub record IsKept (rows : List (Key × OpenRow)) (counters : Counters) (finder : Finder) (tallies : Tallies) : Type 0 where
  pub own : AreOwn rows
  pub indexed : IsIndexed (lists_in rows counters) (index_of counters finder)
  pub tallied : AreTallied (map open_of rows) tallies
