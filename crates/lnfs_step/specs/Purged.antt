-- The journal purged for a level, and what it means that replies tell nothing else.
use Rattle.std.specs.Prelude.{◌≡◌, ℕ, Bool, false, List, [], Option, Some, None, filter}
use Rattle.lnfs_types.specs.declared.event.Event.{Event}
use Rattle.lnfs_policy.specs.Policy.{Policy, dominance}
use Rattle.lnfs_gss3.specs.Mechanism.{Signing}
use Rattle.lnfs_step.specs.Level.{level_of}

-- a level that dominates the event's, if it has one
abbrev pub is_dominated : (ℕ → ℕ → Bool) → ℕ → Option ℕ → Bool
is_dominated dom s None = false
is_dominated dom s (Some level) = dom s level

abbrev pub is_for : Signing → Policy → ℕ → Event → Bool
is_for m p s event = is_dominated (dominance p) s (level_of m p event.class event.message)

-- the events of the levels that s dominates
unfoldable pub purged : Signing → Policy → List Event → ℕ → List Event
purged m p journal s = filter (is_for m p s) journal

-- The events that the requester of an event dominates. A requester without a level dominates none.
abbrev pub purged_to : Signing → Policy → List Event → Option ℕ → List Event
purged_to m p journal None = []
purged_to m p journal (Some s) = purged m p journal s

abbrev pub purged_for : Signing → Policy → List Event → Event → List Event
purged_for m p journal event = purged_to m p journal (level_of m p event.class event.message)

-- One function gives every reply from the event and from those before it that its requester dominates.
abbrev pub IsSecret : Signing → Policy → (reply : List Event → Event → Option (List ℕ)) → Type 0
IsSecret m p reply = (f : List Event → Event → Option (List ℕ)) ×
    ((journal : List Event) (event : Event) → reply journal event ≡ f (purged_for m p journal event) event)
