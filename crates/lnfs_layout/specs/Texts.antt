-- The one spelling of each row.
use Rattle.std.specs.Prelude.{ℕ, zero, suc, Bool, List, [], ◌++◌, length, Option, Some, None}
use Rattle.std.specs.List.{flat_map}
use Rattle.lnfs_types.specs.declared.event.Moment.{Moment}
use Rattle.lnfs_xdr.specs.Format.{number_of}
use Rattle.lnfs_xdr.specs.Canon.{word, long, byte}
use Rattle.lnfs_world.specs.World.{Id, Kept, Client, Channel, Slot, Session, Context, Kind, File, Directory, SymbolicLink, Stored, Node, Entry, Open, Lasts, World, last_of}
use Rattle.lnfs_ranges.specs.declared.range.LockRange.{LockRange}
use Rattle.lnfs_locks.specs.Locks.{Lock, Locks}
use Rattle.lnfs_layout.specs.declared.numbers.TheConstants.{MAGIC, NF4REG, NF4DIR, NF4LNK, YES, NO}

-- ---- columns

unfoldable pub run_text : List ℕ → List ℕ
run_text v = long (length v) ++ v

unfoldable pub flag_text : Bool → List ℕ
flag_text b = byte (number_of b)

abbrev pub present_text : {A : Type 0} → (A → List ℕ) → Option A → List ℕ
present_text text None = byte NO
present_text text (Some x) = byte YES ++ text x

abbrev pub many_text : {A : Type 0} → (A → List ℕ) → List A → List ℕ
many_text text xs = long (length xs) ++ flat_map text xs

unfoldable pub moment_text : Moment → List ℕ
moment_text m = long m.secs ++ word m.nanos

unfoldable pub id_text : Id → List ℕ
id_text i = word i.level ++ long i.number

-- ---- clients, sessions, contexts

unfoldable pub kept_text : Kept → List ℕ
kept_text k = run_text k.arguments ++ run_text k.reply

unfoldable pub client_text : Client → List ℕ
client_text c = id_text c.id ++ run_text c.owner ++ c.verifier ++ flag_text c.confirmed ++ word c.sequence ++ present_text kept_text c.kept ++ flag_text c.reclaimed ++ present_text long c.seen

unfoldable pub channel_text : Channel → List ℕ
channel_text x = word x.max_request ++ word x.max_response ++ word x.max_cached ++ word x.max_operations ++ word x.max_requests

unfoldable pub slot_text : Slot → List ℕ
slot_text s = word s.sequence ++ present_text kept_text s.kept

unfoldable pub session_text : Session → List ℕ
session_text x = id_text x.id ++ long x.client ++ channel_text x.channel ++ many_text slot_text x.slots

unfoldable pub context_text : Context → List ℕ
context_text x = word x.id.level ++ long x.parent ++ long x.id.number

-- ---- nodes and names

abbrev pub kind_number : Kind → ℕ
kind_number File = NF4REG
kind_number Directory = NF4DIR
kind_number SymbolicLink = NF4LNK

unfoldable pub stored_text : Stored → List ℕ
stored_text s = word s.lfs ++ word s.pi ++ run_text s.bytes

unfoldable pub head_text : Node → List ℕ
head_text n = id_text n.id ++ word (kind_number n.kind) ++ word n.label

unfoldable pub moments_text : Node → List ℕ
moments_text n = moment_text n.inner.accessed ++ moment_text n.inner.metadata ++ moment_text n.inner.modified

unfoldable pub node_text : Node → List ℕ
node_text n = head_text n ++ present_text stored_text n.inner.stored ++ word n.inner.mode ++ run_text n.inner.content ++ long n.inner.change ++ moments_text n ++ present_text (λ v. v) n.verifier ++ long n.inner.cookies

unfoldable pub entry_text : Entry → List ℕ
entry_text e = id_text e.directory ++ long e.cookie ++ run_text e.name ++ id_text e.node

-- ---- opens

unfoldable pub open_text : Open → List ℕ
open_text o = id_text o.id ++ long o.client ++ run_text o.owner ++ id_text o.node ++ word o.access ++ word o.deny ++ word o.sequence

-- ---- locks

unfoldable pub range_text : LockRange → List ℕ
range_text r = long r.first ++ long r.last ++ flag_text r.write

unfoldable pub lock_text : Lock → List ℕ
lock_text l = id_text l.id ++ long l.client ++ long l.opening ++ run_text l.owner ++ id_text l.node ++ word l.sequence ++ many_text range_text l.ranges

-- ---- last numbers of a level, those of locks beside those of a world; and of so many levels from one on

unfoldable pub last_text : (level : ℕ) → Lasts → (locks : List Id) → List ℕ
last_text level l locks = long (last_of level l.clients) ++ long (last_of level l.sessions) ++ long (last_of level l.contexts) ++ long (last_of level l.nodes) ++ long (last_of level l.opens) ++ long (last_of level locks)

unfoldable pub lasts_text : (level levels : ℕ) → Lasts → (locks : List Id) → List ℕ
lasts_text level zero l locks = []
lasts_text level (suc levels) l locks = last_text level l locks ++ lasts_text (suc level) levels l locks

-- ---- the whole

unfoldable pub lists_text : World → List ℕ
lists_text w = many_text client_text w.clients ++ many_text session_text w.sessions ++ many_text context_text w.contexts ++ many_text node_text w.nodes ++ many_text entry_text w.entries ++ many_text open_text w.opens

-- of a world and of the locks beside it, under a policy of so many levels and of this digest, after so many events
unfoldable pub layout_text : (levels : ℕ) → (digest : List ℕ) → (events : ℕ) → World → Locks → List ℕ
layout_text levels digest events w own = long MAGIC ++ digest ++ long events ++ lasts_text 0 levels w.lasts own.lasts ++ lists_text w ++ many_text lock_text own.locks
