-- An open of a file is made, joined, found and ended (RFC 8881 sections 8.2.2, 9.1, 18.2 and 18.16).
use Rattle.std.specs.Prelude.{◌≡◌, ℕ, ◌==◌, ◌&&◌, ◌||◌, Bool, cond, List, Option, Some, None, Result, Ok, Err, count_by, nat_le, nat_lt, if◌then◌else◌}
use Rattle.std.specs.List.{find}
use Rattle.lnfs_world.specs.Rows.{inserted}
use Rattle.lnfs_world.specs.World.{Id, Open, open_order, same_id}
use Rattle.lnfs_world.specs.Change.{Change, AddOpen, SetOpen, EndOpen}
use Rattle.lnfs_world.specs.Facts.{same_opening}
use Rattle.lnfs_world.specs.Effects.{has_number, next_id}
use Rattle.lnfs_world.specs.Opens.{joined}
use Rattle.lnfs_world.specs.declared.numbers.TheConstants.{OPENS_OF_A_LEVEL}
use Rattle.lnfs_open.specs.declared.keys.OpenRef.{OpenRef}
use Rattle.lnfs_open.specs.declared.keys.OpenError.{OpenError}
use Rattle.lnfs_open.specs.declared.keys.OpenError.TheVariants.{Full, Bad, Old, Memory}
use Rattle.lnfs_open.specs.Lists.{Lists, ran}
use Rattle.lnfs_open.specs.Listed.{open_id}

-- ---- a new state of an open

-- who opens what
pub record Wish : Type 0 where
  pub client : Id
  -- the opaque name of the open owner
  pub owner : List ℕ
  pub node : Id
  pub access : ℕ
  pub deny : ℕ

-- the open that is asked, as it is where it is a new one
abbrev pub new_open : Lists → Wish → Open
new_open s wish = record {
  id = next_id s.lasts wish.client.level;
  client = wish.client.number;
  owner = wish.owner;
  node = wish.node;
  access = wish.access;
  deny = wish.deny;
  sequence = 1;
}

-- what the client and the owner have open of the node already
abbrev pub own_open : Lists → Wish → Option Open
own_open s wish = find (same_opening (new_open s wish)) s.opens

-- the opens after one of them, where it is there, has another state
abbrev pub rows_set : (Open → Open) → Option Open → List Open → List Open
rows_set g None opens = opens
rows_set g (Some o) opens = inserted open_order (g o) opens

-- whether a level may have one more open, and has a number for it
abbrev pub has_open_left : Lists → (level : ℕ) → Bool
has_open_left s level = nat_lt (count_by (λ o. o.id.level == level) s.opens) OPENS_OF_A_LEVEL && has_number s.lasts level

-- an open in its new state, and the change that brings it there
pub record Opened : Type 0 where
  pub row : Open
  pub change : Change

-- the open of the client and the owner is joined, or there is a new one
abbrev pub opened_by : Lists → Wish → Option Open → Result Opened OpenError
opened_by s wish (Some o) = Ok (record { row = joined wish.access wish.deny o; change = SetOpen (joined wish.access wish.deny o) })
opened_by s wish None =
    if has_open_left s wish.client.level
    then Ok (record { row = new_open s wish; change = AddOpen (new_open s wish) })
    else Err Full

abbrev pub opened_of : Lists → Wish → Result Opened OpenError
opened_of s wish = opened_by s wish (own_open s wish)

-- Memory is taken only where a row is added.
abbrev pub TakesMemory : Change → Type 0
TakesMemory (AddOpen row) = Unit {0}
TakesMemory c = ⊥

-- whether a reference names an open in its present state
abbrev pub Names : OpenRef → Open → Type 0
Names r o = (open_id r ≡ o.id) × (r.seq ≡ o.sequence)

-- A call answers and does what is told, or is refused as is told and leaves all as it was; without memory it leaves it too.
abbrev pub Does : Result Opened OpenError → (before after : Lists) → Result OpenRef OpenError → Type 0
Does (Ok opened) before after (Ok answer) = Names answer opened.row × (after ≡ ran opened.change before)
Does (Ok opened) before after (Err Memory) = TakesMemory opened.change × (after ≡ before)
Does (Err why) before after (Err error) = (error ≡ why) × (after ≡ before)
Does told before after result = ⊥

-- An open that is there is joined, and answered.
abbrev pub IsJoined : (access deny : ℕ) → Option Open → Option OpenRef → Type 0
IsJoined access deny None None = Unit {0}
IsJoined access deny (Some o) (Some answer) = Names answer (joined access deny o)
IsJoined access deny o result = ⊥

-- ---- whether there is room

abbrev pub room_for : Lists → (level : ℕ) → Result (Unit {0}) OpenError
room_for s level = if has_open_left s level then Ok tt else Err Full

-- an open that is there is joined
abbrev pub room_by : Lists → (level : ℕ) → Option Open → Result (Unit {0}) OpenError
room_by s level (Some o) = Ok tt
room_by s level None = room_for s level

-- None stands for a node that isn't made yet
abbrev pub room_at : Lists → (client : Id) → (owner : List ℕ) → Option Id → Result (Unit {0}) OpenError
room_at s client owner None = room_for s client.level
room_at s client owner (Some node) = room_by s client.level (own_open s (record { client = client; owner = owner; node = node; access = 0; deny = 0 }))

-- ---- the open that a state id names

-- the open of an identifier that is of a client, and of a node
abbrev pub open_named : List Open → (client node i : Id) → Option Open
open_named opens client node i = cond (i.level == client.level) (find (λ o. same_id i o.id && (client.number == o.client && same_id node o.node)) opens) None

-- the sequence 0 stands for any (RFC 8881 section 8.2.2)
abbrev pub at_sequence : (sequence : ℕ) → Option Open → Result Open OpenError
at_sequence sequence None = Err Bad
at_sequence sequence (Some o) =
    if nat_le sequence o.sequence
    then (if sequence == 0 || sequence == o.sequence then Ok o else Err Old)
    else Err Bad

abbrev pub found_of : List Open → (client node i : Id) → (sequence : ℕ) → Result Open OpenError
found_of opens client node i sequence = at_sequence sequence (open_named opens client node i)

-- ---- its end

abbrev pub ended_of : Result Open OpenError → Lists → Lists
ended_of (Ok o) s = ran (EndOpen o.id) s
ended_of (Err why) s = s

-- what is answered where one is ended
abbrev pub Ends : Result (Unit {0}) OpenError → Result Open OpenError → Type 0
Ends (Ok answer) (Ok o) = Unit {0}
Ends (Err error) (Err why) = error ≡ why
Ends result told = ⊥
