-- Which replies are there already, while the events are served level by level.
use Rattle.std.specs.Prelude.{◌≡◌, ◌<◌, ℕ, List, length, map, slice_index_or, Option, Some, None}
use Rattle.lnfs_types.specs.declared.event.Event.{Event}
use Rattle.lnfs_policy.specs.Policy.{Policy}
use Rattle.lnfs_operations.specs.Extra.{Extra}
use Rattle.lnfs_gss3.specs.Mechanism.{Signing}
use Rattle.lnfs_audit.specs.Replies.{answers_to}
use Rattle.lnfs_audit.specs.Levels.{level_in}

-- a level is one of the first so many, or there is none
abbrev pub IsBelow : ℕ → Option ℕ → Type 0
IsBelow n None = Unit {0}
IsBelow n (Some level) = level < n

-- of all replies those at some places are there
pub record AreFilled (Place : ℕ → Type 0) (all replies : List (Option (List ℕ))) : Type 0 where
  pub count : length replies ≡ length all
  pub there : (i : ℕ) → i < length all → Place i → slice_index_or replies i None ≡ slice_index_or all i None

-- the level of the event at a place
abbrev pub level_at : Signing → Policy → List Event → ℕ → Option ℕ
level_at m p events i = slice_index_or (map (level_in m p) events) i None

-- the answers to the events of the first so many levels, and to those without one
abbrev pub AreServed : (X : Extra) → Signing → Policy → List Event → ℕ → List (Option (List ℕ)) → Type 0
AreServed X m p events n replies = AreFilled (λ i. IsBelow n (level_at m p events i)) (answers_to X m p events) replies
