-- What a call that sets data may still answer where all tests have passed.
use Rattle.std.specs.Prelude.{Ok, Err}
use Rattle.lnfs_tree.specs.declared.node.TreeError.TheVariants.{Memory}
use Rattle.lnfs_data.specs.Worlds.{Answer}

abbrev pub IsMade : Answer → Type 0
IsMade (Ok it) = Unit {0}
IsMade (Err Memory) = Unit {0}
IsMade (Err why) = ⊥
