-- Numbers that count in each level, as the code keeps them.
use Rattle.std.specs.Prelude.{ℕ, ◌+◌, ◌==◌, ◌&&◌, if◌then◌else◌}
use Rattle.std.specs.Ordering.{nat_cmp}
use Rattle.std.specs.Option.{unwrap_or}
use Rattle.std.specs.BTreeMap.{BTreeMap, get}
use Rattle.lnfs_traffic.specs.declared.turns.Past.{Past}

-- the last number that was given in a level: before the first, 0
abbrev pub last_in : BTreeMap ℕ ℕ → ℕ → ℕ
last_in counts level = unwrap_or (get nat_cmp counts level) 0

-- a row that has its next event, after so many clients and sessions of its level
abbrev pub next_past : Past → (clients sessions : ℕ) → Past
next_past past clients sessions =
    if past.events == 0 then record past { client = clients + 1 }
    else (if past.events == 1 then record past { session = sessions + 1 } else past)

-- the numbers of a level after an event in a row of the level `given`, where only the event with so many before it gets one
abbrev pub last_after : (events before given : ℕ) → (last : ℕ → ℕ) → ℕ → ℕ
last_after events before given last level = if events == before && given == level then last level + 1 else last level
