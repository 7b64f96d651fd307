-- What the place of a link is told of a record, by what came of it.
use Rattle.std.specs.Prelude.{◌≡◌, ◌≤◌, ℕ, List, [], ◌∷◌, ◌++◌, length, Option, IfSome}
use Rattle.lnfs_types.specs.declared.limits.TheConstants.{RECORD_LIMIT}
use Rattle.lnfs_types.specs.declared.event.Event.{Event}
use Rattle.lnfs_history.specs.Entries.{Part, part, entry}
use Rattle.lnfs_workers.specs.declared.outcome.Outcome.{Outcome}
use Rattle.lnfs_workers.specs.declared.outcome.Outcome.TheVariants.{Replied, Lost, NoMemory}

-- the event with its reply; the event with the reply that was due; or nothing
abbrev pub Told : (before : Part) → Event → Outcome → (after : Part) → Type 0
Told before event (Replied reply) after = after ≡ part before.link (before.entries ++ entry event reply ∷ [])
Told before event Lost after = (reply : Option (List ℕ)) × (after ≡ part before.link (before.entries ++ entry event reply ∷ []))
Told before event NoMemory after = after ≡ before

-- a reply is a record that a fragment holds
abbrev pub IsShort : Outcome → Type 0
IsShort (Replied reply) = IfSome reply (λ r. length r ≤ RECORD_LIMIT)
IsShort Lost = Unit {0}
IsShort NoMemory = Unit {0}
