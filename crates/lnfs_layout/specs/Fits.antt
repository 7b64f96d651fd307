-- What the layout has room for: each number is below what its column holds.
use Rattle.std.specs.Prelude.{◌≡◌, ℕ, ◌<◌, ◌^◌, List, length, All, MatchOption, Option, slice_index_or}
use Rattle.lnfs_types.specs.declared.event.Moment.{Moment}
use Rattle.lnfs_world.specs.World as world
use Rattle.lnfs_world.specs.World.{Id, Kept, Client, Channel, Slot, Session, Context, Stored, Node, Entry, Open, World, last_of}
use Rattle.lnfs_rows.specs.declared.lists.Lasts.{Lasts}
use Rattle.lnfs_ranges.specs.declared.range.LockRange.{LockRange}
use Rattle.lnfs_locks.specs.Locks.{Lock, Locks}
use Rattle.lnfs_layout.specs.declared.numbers.TheConstants.{VERIFIER}

abbrev pub IsWord : ℕ → Type 0
IsWord n = n < 2 ^ 32

abbrev pub IsLong : ℕ → Type 0
IsLong n = n < 2 ^ 64

-- the length has room
abbrev pub IsRun : List ℕ → Type 0
IsRun v = length v < 2 ^ 64

abbrev pub IfThere : {A : Type 0} → (A → Type 0) → Option A → Type 0
IfThere P x = MatchOption x (Unit {0}) P

-- so many rows have a count, and each fits
pub record ListFits {A : Type 0} (P : A → Type 0) (xs : List A) : Type 0 where
  pub count : length xs < 2 ^ 64
  pub each : All P xs

pub record IdFits (i : Id) : Type 0 where
  pub level : IsWord i.level
  pub number : IsLong i.number

pub record MomentFits (m : Moment) : Type 0 where
  pub secs : IsLong m.secs
  pub nanos : IsWord m.nanos

pub record KeptFits (k : Kept) : Type 0 where
  pub arguments : IsRun k.arguments
  pub reply : IsRun k.reply

pub record ClientFits (c : Client) : Type 0 where
  pub id : IdFits c.id
  pub owner : IsRun c.owner
  pub verifier : length c.verifier ≡ VERIFIER
  pub sequence : IsWord c.sequence
  pub kept : IfThere KeptFits c.kept
  pub seen : IfThere IsLong c.seen

pub record ChannelFits (x : Channel) : Type 0 where
  pub max_request : IsWord x.max_request
  pub max_response : IsWord x.max_response
  pub max_cached : IsWord x.max_cached
  pub max_operations : IsWord x.max_operations
  pub max_requests : IsWord x.max_requests

pub record SlotFits (s : Slot) : Type 0 where
  pub sequence : IsWord s.sequence
  pub kept : IfThere KeptFits s.kept

pub record SessionFits (x : Session) : Type 0 where
  pub id : IdFits x.id
  pub client : IsLong x.client
  pub channel : ChannelFits x.channel
  pub slots : ListFits SlotFits x.slots

pub record ContextFits (x : Context) : Type 0 where
  pub id : IdFits x.id
  pub parent : IsLong x.parent

pub record StoredFits (s : Stored) : Type 0 where
  pub lfs : IsWord s.lfs
  pub pi : IsWord s.pi
  pub bytes : IsRun s.bytes

-- the columns that say which node it is
pub record HeadFits (n : Node) : Type 0 where
  pub id : IdFits n.id
  pub label : IsWord n.label

pub record MomentsFit (n : Node) : Type 0 where
  pub accessed : MomentFits n.inner.accessed
  pub metadata : MomentFits n.inner.metadata
  pub modified : MomentFits n.inner.modified

pub record NodeFits (n : Node) : Type 0 where
  pub head : HeadFits n
  pub verifier : IfThere (λ v. length v ≡ VERIFIER) n.verifier
  pub stored : IfThere StoredFits n.inner.stored
  pub mode : IsWord n.inner.mode
  pub content : IsRun n.inner.content
  pub change : IsLong n.inner.change
  pub moments : MomentsFit n
  pub cookies : IsLong n.inner.cookies

pub record EntryFits (e : Entry) : Type 0 where
  pub directory : IdFits e.directory
  pub cookie : IsLong e.cookie
  pub name : IsRun e.name
  pub node : IdFits e.node

pub record OpenFits (o : Open) : Type 0 where
  pub id : IdFits o.id
  pub client : IsLong o.client
  pub owner : IsRun o.owner
  pub node : IdFits o.node
  pub access : IsWord o.access
  pub deny : IsWord o.deny
  pub sequence : IsWord o.sequence

pub record RangeFits (r : LockRange) : Type 0 where
  pub first : IsLong r.first
  pub last : IsLong r.last

pub record LockFits (l : Lock) : Type 0 where
  pub id : IdFits l.id
  pub client : IsLong l.client
  pub opening : IsLong l.opening
  pub owner : IsRun l.owner
  pub node : IdFits l.node
  pub sequence : IsWord l.sequence
  pub ranges : ListFits RangeFits l.ranges

-- each number of a list has room
abbrev pub AreLongs : List ℕ → Type 0
AreLongs ns = (i : ℕ) → slice_index_or ns i 0 < 2 ^ 64

pub record LastsFit (l : Lasts) : Type 0 where
  pub clients : AreLongs l.clients.items
  pub sessions : AreLongs l.sessions.items
  pub contexts : AreLongs l.contexts.items
  pub nodes : AreLongs l.nodes.items
  pub opens : AreLongs l.opens.items

-- the last number of each level has room
abbrev pub NumbersFit : List Id → Type 0
NumbersFit lasts = (level : ℕ) → IsLong (last_of level lasts)

pub record WorldLastsFit (l : world.Lasts) : Type 0 where
  pub clients : NumbersFit l.clients
  pub sessions : NumbersFit l.sessions
  pub contexts : NumbersFit l.contexts
  pub nodes : NumbersFit l.nodes
  pub opens : NumbersFit l.opens

-- all rows of a world
pub record RowsFit (w : World) : Type 0 where
  pub clients : ListFits ClientFits w.clients
  pub sessions : ListFits SessionFits w.sessions
  pub contexts : ListFits ContextFits w.contexts
  pub nodes : ListFits NodeFits w.nodes
  pub entries : ListFits EntryFits w.entries
  pub opens : ListFits OpenFits w.opens

-- all locks
abbrev pub LockRowsFit : Locks → Type 0
LockRowsFit own = ListFits LockFits own.locks
