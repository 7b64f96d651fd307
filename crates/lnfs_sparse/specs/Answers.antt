-- What the code says of an operation on the data of files.
use Rattle.std.specs.Prelude.{◌≡◌, ℕ, List}
use Rattle.lnfs_world.specs.World.{World}
use Rattle.lnfs_world.specs.Outcome.{Outcome, done_to}
use Rattle.lnfs_operations.specs.Chain.{Answer}
use Rattle.lnfs_engine.specs.declared.extra.ExtraRan.{ExtraRan}
use Rattle.lnfs_engine.specs.Further.{said_of}
use Rattle.lnfs_sparse_ops.specs.Outcome.{said}

-- An operation that ran says its answer, and makes its changes.
pub record Ends (o : Outcome (Answer (List ℕ))) (ran : ExtraRan) (old new : World) : Type 0 where
  pub said : said_of ran ≡ said o.answer
  pub world : new ≡ done_to old o
