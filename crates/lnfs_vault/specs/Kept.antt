-- What a vault is to its callers.
use Rattle.std.specs.Prelude.{Bool, List}
use Rattle.lnfs_types.specs.declared.event.Event.{Event}
use Rattle.lnfs_policy.specs.Policy.{Policy}

-- its policy, the events that it was given, and whether want of memory has stopped it
pub record Kept : Type 0 where
  pub policy : Policy
  pub journal : List Event
  pub stopped : Bool
