-- What a translation answers where reading or writing doesn't succeed.
use Rattle.lnfs_format.specs.declared.formats.ReadError.{ReadError}
use Rattle.lnfs_format.specs.declared.formats.ReadError.TheVariants as reading
use Rattle.lnfs_format.specs.declared.formats.WriteError.{WriteError}
use Rattle.lnfs_format.specs.declared.formats.WriteError.TheVariants as writing
use Rattle.lnfs_map.specs.declared.table.MapError.{MapError}
use Rattle.lnfs_map.specs.declared.table.MapError.TheVariants.{WrongLfs, BadLabel, NoRow, Memory}

abbrev pub of_reading : ReadError → MapError
of_reading reading.WrongLfs = WrongLfs
of_reading reading.BadLabel = BadLabel
of_reading reading.Memory = Memory

abbrev pub of_writing : WriteError → MapError
of_writing writing.WrongLfs = WrongLfs
of_writing writing.NotInFormat = NoRow
of_writing writing.Memory = Memory
