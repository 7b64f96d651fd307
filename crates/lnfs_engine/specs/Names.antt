-- What the code's answers of operations that change the tree stand for.
use Rattle.std.specs.Prelude.{Result, Ok, Err}
use Rattle.lnfs_arguments.specs.declared.types.Op.{Op}
use Rattle.lnfs_results.specs.declared.types.OpResult.{OpResult}
use Rattle.lnfs_world.specs.World.{World}
use Rattle.lnfs_world.specs.Outcome.{Place, Outcome}
use Rattle.lnfs_operations.specs.declared.Refusal.{Refusal}
use Rattle.lnfs_operations.specs.Chain.{Answer}
use Rattle.lnfs_operations.specs.Served.{Nowhere, success, replied}
use Rattle.lnfs_engine.specs.Replies.{Acts, own_of}

-- An operation that was answered, by what its result tells: the reply, the place of the next one and the world afterwards,
-- whichever operation of the table it is.
abbrev pub Serves : {R : Type 0} → (R → OpResult) → Outcome (Answer R) → Result OpResult Refusal → (next : Place) → (old new : World) → Type 0
Serves result o answer next old new = (op : Op) → Acts (replied op (λ r. success (result r) Nowhere) o) (own_of op Nowhere answer) next old new

-- where the next operation stands
abbrev pub landed : {A : Type 0} → (A → Place) → Place → Result A Refusal → Place
landed lands p (Ok a) = lands a
landed lands p (Err why) = p
