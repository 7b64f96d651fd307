-- What the code's labels and directories stand for.
use Rattle.std.specs.Prelude.{option_map}
use Rattle.lnfs_world.specs.World.{Stored as StoredLabel}
use Rattle.lnfs_world.specs.First.{FirstDir}
use Rattle.lnfs_world.specs.declared.stored.Stored.{Stored}
use Rattle.lnfs_world.specs.declared.stored.DirSpec.{DirSpec}

abbrev pub stored_of : Stored → StoredLabel
stored_of s = record { lfs = s.lfs; pi = s.pi; bytes = s.bytes }

abbrev pub dir_of : DirSpec → FirstDir
dir_of d = record { path = d.path; level = d.level.0; stored = option_map stored_of d.stored }
