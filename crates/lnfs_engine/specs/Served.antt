-- What the code says of a COMPOUND that was served.
use Rattle.std.specs.Prelude.{◌≡◌, ℕ, List, ◌++◌, option_map}
use Rattle.lnfs_world.specs.Lawful.{Turn}
use Rattle.lnfs_operations.specs.SlotRule.{Answer}
use Rattle.lnfs_engine.specs.declared.engine.Ran.{Ran}
use Rattle.lnfs_engine.specs.Runs.{denial_of}

pub record IsServed {S : Type 0} (out : List ℕ) (after : S) (t : Turn Answer S) (ran : Ran) : Type 0 where
  pub result : ran.reply.items ≡ out ++ t.answer.result
  pub denied : option_map denial_of ran.denial ≡ t.answer.denial
  pub stands : after ≡ t.state
