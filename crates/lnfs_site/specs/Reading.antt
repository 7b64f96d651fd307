-- What the code answers of a label that is read.
use Rattle.lnfs_world.specs.Outcome as world
use Rattle.lnfs_site.specs.declared.reading.LabelRead.{LabelRead}
use Rattle.lnfs_site.specs.declared.reading.LabelRead.TheVariants.{LevelOf, WrongFormat, BadLabel}

abbrev pub read_of : LabelRead → world.LabelRead
read_of (LevelOf level) = world.LevelOf level.0
read_of WrongFormat = world.WrongFormat
read_of BadLabel = world.BadLabel
