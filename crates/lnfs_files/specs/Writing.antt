-- WRITE behind the tests of its file and its state id.
use Rattle.std.specs.Prelude.{ℕ, Option, Some, None, length, nat_le, if◌then◌else◌}
use Rattle.lnfs_world.specs.World.{Node, World}
use Rattle.lnfs_world.specs.Effects.{size_written}
use Rattle.lnfs_world.specs.Outcome.{Site, Place, Outcome}
use Rattle.lnfs_world.specs.declared.numbers.TheConstants.{MOST_FILE}
use Rattle.lnfs_operations.specs.Chain.{Answer, done}
use Rattle.lnfs_operations.specs.Files.{where_fitting}
use Rattle.lnfs_operations.specs.Write.{Arguments, data_written}

-- what is done of a file that may be written
abbrev pub write_on : Site → Arguments → Place → World → Node → Outcome (Answer ℕ)
write_on site args p w n =
    where_fitting site p w n (size_written args.offset args.content n.inner.content) (
    done p (length args.content) (data_written p n args))

-- a size that a file may have
abbrev pub fitting_size : (size : ℕ) → Option ℕ
fitting_size size = if nat_le size MOST_FILE then Some size else None
