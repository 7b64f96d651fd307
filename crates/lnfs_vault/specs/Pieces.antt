-- What the pieces of a vault are to their callers, and what a core is.
use Rattle.std.specs.Prelude.{Bool, List, Option}
use Rattle.lnfs_types.specs.declared.event.Event.{Event}
use Rattle.lnfs_policy.specs.Policy.{Policy}
use Rattle.lnfs_world.specs.World.{World}
use Rattle.lnfs_world.specs.Both.{Both, both}

-- Books: their policy, the events that are in the journal, one whose step was made and that is still to come into it, and whether want of memory has stopped them.
pub record Held : Type 0 where
  pub policy : Policy
  pub journal : List Event
  pub pending : Option Event
  pub stopped : Bool

abbrev pub held : Policy → List Event → Option Event → Bool → Held
held policy journal pending stopped = record { policy = policy; journal = journal; pending = pending; stopped = stopped }

-- A front: a policy, and what signs.
pub record Given (M : Type 0) : Type 0 where
  pub policy : Policy
  pub mechanism : M

-- A core: a policy, what signs, the world with what serves further operations, and whether want of memory has stopped it.
pub record Standing (M E : Type 0) : Type 0 where
  pub policy : Policy
  pub mechanism : M
  pub world : World
  pub extra : E
  pub stopped : Bool

-- the state that stands
abbrev pub state_of : {M E Row : Type 0} → (E → List Row) → Standing M E → Both Row
state_of rows s = both s.world (rows s.extra)
