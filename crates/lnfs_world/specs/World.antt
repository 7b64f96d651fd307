-- A world: the rows of all that a server keeps, each list in the order of its keys.
use Rattle.std.specs.Ordering.{nat_cmp, ordering_then}
use Rattle.std.specs.declared.cmp.Ordering.{Ordering}
use Rattle.std.specs.Prelude.{ℕ, Bool, true, false, ◌&&◌, ◌==◌, List, Option, Some, None, nat_le}
use Rattle.std.specs.Option.{option_map}
use Rattle.std.specs.List.{find}
use Rattle.lnfs_types.specs.declared.event.Moment.{Moment}

-- An identifier: the level that it was given in, and its number there. A node's is its file handle,
-- and the level in it the node's home.
pub record Id : Type 0 where
  pub level : ℕ
  pub number : ℕ

-- The arguments of a request that was accepted, and the answer that it got, for when it comes again
-- (RFC 8881 section 2.10.6).
pub record Kept : Type 0 where
  pub arguments : List ℕ
  pub reply : List ℕ

-- A client's record (RFC 8881 section 18.35.4).
pub record Client : Type 0 where
  pub id : Id
  -- the opaque name of the client owner
  pub owner : List ℕ
  -- tells one boot of the client from the next
  pub verifier : List ℕ
  -- whether a CREATE_SESSION has confirmed it
  pub confirmed : Bool
  -- the sequence that its next CREATE_SESSION has to bring, and the last that came
  pub sequence : ℕ
  pub kept : Option Kept
  -- whether it said that it reclaims no more (RFC 8881 section 18.51)
  pub reclaimed : Bool
  -- the seconds of the moment at which its lease was last renewed, if it was (RFC 8881 section 8.3)
  pub seen : Option ℕ

-- What a session grants of a channel (RFC 8881 section 18.36).
pub record Channel : Type 0 where
  pub max_request : ℕ
  pub max_response : ℕ
  pub max_cached : ℕ
  pub max_operations : ℕ
  pub max_requests : ℕ

-- A slot: its last sequence, and the COMPOUND that came under it.
pub record Slot : Type 0 where
  pub sequence : ℕ
  pub kept : Option Kept

pub record Session : Type 0 where
  pub id : Id
  -- the number of its client, which is of the same level
  pub client : ℕ
  pub channel : Channel
  pub slots : List Slot

-- A security context, made under a parent of the policy.
pub record Context : Type 0 where
  pub id : Id
  pub parent : ℕ

pub data Kind : Type 0 where
  File : Kind
  Directory : Kind
  SymbolicLink : Kind

-- A label as it was given (RFC 7862 section 12.2.4).
pub record Stored : Type 0 where
  pub lfs : ℕ
  pub pi : ℕ
  pub bytes : List ℕ

-- What only those see of a node who dominate its label.
pub record Inner : Type 0 where
  pub stored : Option Stored
  pub mode : ℕ
  -- a file's data, or a symbolic link's text
  pub content : List ℕ
  pub change : ℕ
  pub accessed : Moment
  pub metadata : Moment
  pub modified : Moment
  -- the cookie that a directory's next name takes
  pub cookies : ℕ

pub record Node : Type 0 where
  pub id : Id
  pub kind : Kind
  -- the level of its label
  pub label : ℕ
  -- what an exclusive create brought (RFC 8881 section 18.16.3)
  pub verifier : Option (List ℕ)
  pub inner : Inner

-- A name in a directory.
pub record Entry : Type 0 where
  pub directory : Id
  pub cookie : ℕ
  pub name : List ℕ
  pub node : Id

-- An open of a file (RFC 8881 section 9.1).
pub record Open : Type 0 where
  pub id : Id
  -- the number of its client, which is of the same level
  pub client : ℕ
  -- the opaque name of the open owner
  pub owner : List ℕ
  pub node : Id
  pub access : ℕ
  pub deny : ℕ
  pub sequence : ℕ

-- Of each kind of identifier the last that was given in each level, in the order of levels.
pub record Lasts : Type 0 where
  pub clients : List Id
  pub sessions : List Id
  pub contexts : List Id
  pub nodes : List Id
  pub opens : List Id

pub record World : Type 0 where
  pub clients : List Client
  pub sessions : List Session
  pub contexts : List Context
  pub nodes : List Node
  pub entries : List Entry
  pub opens : List Open
  pub lasts : Lasts

-- ---- the order of rows

abbrev pub id_order : Id → Id → Ordering
id_order a b = ordering_then (nat_cmp a.level b.level) (nat_cmp a.number b.number)

abbrev pub client_order : Client → Client → Ordering
client_order a b = id_order a.id b.id

abbrev pub session_order : Session → Session → Ordering
session_order a b = id_order a.id b.id

abbrev pub context_order : Context → Context → Ordering
context_order a b = id_order a.id b.id

abbrev pub node_order : Node → Node → Ordering
node_order a b = id_order a.id b.id

abbrev pub open_order : Open → Open → Ordering
open_order a b = id_order a.id b.id

-- by directory and cookie
abbrev pub entry_order : Entry → Entry → Ordering
entry_order a b = ordering_then (id_order a.directory b.directory) (nat_cmp a.cookie b.cookie)

-- last identifiers by level
abbrev pub level_order : Id → Id → Ordering
level_order a b = nat_cmp a.level b.level

-- ---- look-ups

abbrev pub same_id : Id → Id → Bool
same_id a b = a.level == b.level && a.number == b.number

abbrev pub client_at : List Client → Id → Option Client
client_at clients i = find (λ c. same_id i c.id) clients

abbrev pub session_at : List Session → Id → Option Session
session_at sessions i = find (λ x. same_id i x.id) sessions

abbrev pub node_at : List Node → Id → Option Node
node_at nodes i = find (λ n. same_id i n.id) nodes

abbrev pub label_at : List Node → Id → Option ℕ
label_at nodes i = option_map (λ n. n.label) (node_at nodes i)

abbrev pub is_directory : Kind → Bool
is_directory File = false
is_directory Directory = true
is_directory SymbolicLink = false

-- whether what is there is a directory
abbrev pub directory_at : List Node → Id → Option Bool
directory_at nodes i = option_map (λ n. is_directory n.kind) (node_at nodes i)

abbrev pub number_in : Option Id → ℕ
number_in None = 0
number_in (Some i) = i.number

-- the last number that was given in a level: before the first, 0
abbrev pub last_of : ℕ → List Id → ℕ
last_of level lasts = number_in (find (λ i. i.level == level) lasts)

-- not above the last number of its level
abbrev pub is_given : List Id → Id → Bool
is_given lasts i = nat_le i.number (last_of i.level lasts)
