-- Each text is a spelling of its row.
use Rattle.std.proofs.Common.{◌≡◌, ℕ, Bool, true, false, List, length, Option, Some, None, refl, append_assoc, arith}
use Rattle.std.proofs.lemmas.List.Elements.{recursion_from_All}
use Rattle.lnfs_types.specs.declared.event.Moment.{Moment}
use Rattle.lnfs_xdr.specs.Format.{Long}
use Rattle.lnfs_xdr.specs.Canon.{word, long}
use Rattle.lnfs_xdr.proofs.Spelled.{Spelled, word_spelled, long_spelled, among_spelled, byte_spelled, raw_spelled, done_spelled, ◌▸◌, last, grouped, on_true, on_false, times_spelled}
use Rattle.lnfs_world.specs.World.{Id, Kept, Client, Channel, Slot, Session, Context, Kind, File, Directory, SymbolicLink, Stored, Node, Entry, Open}
use Rattle.lnfs_ranges.specs.declared.range.LockRange.{LockRange}
use Rattle.lnfs_locks.specs.Locks.{Lock}
use Rattle.lnfs_layout.specs.declared.numbers.TheConstants.{VERIFIER, NF4REG, NF4DIR, NF4LNK}
use Rattle.lnfs_layout.specs.Grammar.{Rows, run, flag, present, many, verifier_bytes, moment, identifier, kept_parts, client_row, channel_row, slot_row, session_row, context_row, kind, stored_label, node_head, node_moments, node_row, entry_row, open_row, range_row, lock_row}
use Rattle.lnfs_layout.specs.Texts.{run_text, flag_text, present_text, many_text, moment_text, id_text, kept_text, client_text, channel_text, slot_text, session_text, context_text, kind_number, stored_text, head_text, moments_text, node_text, entry_text, open_text, range_text, lock_text}
use Rattle.lnfs_layout.specs.Fits.{IsLong, IsRun, IfThere, ListFits, IdFits, MomentFits, KeptFits, ClientFits, ChannelFits, SlotFits, SessionFits, ContextFits, StoredFits, HeadFits, MomentsFit, NodeFits, EntryFits, OpenFits, RangeFits, LockFits}

-- ---- columns

pub run_spelled : (v : List ℕ) → IsRun v → Spelled run v (run_text v)
unfolding run run_text
run_spelled v fits = long_spelled (length v) fits ▸ raw_spelled (length v) v refl

flag_spelled : (b : Bool) → Spelled flag b (flag_text b)
unfolding flag flag_text
flag_spelled true = last (byte_spelled _ 1 refl (omega arith)) (done_spelled true)
flag_spelled false = last (byte_spelled _ 0 refl (omega arith)) (done_spelled false)

present_spelled : {A : Type 0} (f : Rows A) (text : A → List ℕ) (P : A → Type 0) → ((x : A) → P x → Spelled f x (text x)) → (x : Option A) → IfThere P x → Spelled (present f) x (present_text text x)
present_spelled f text P each None fits = last (byte_spelled _ 0 refl (omega arith)) (on_true (done_spelled None))
present_spelled f text P each (Some x) fits = byte_spelled _ 1 refl (omega arith) ▸ on_false (last (each x fits) (done_spelled (Some x)))

pub many_spelled : {A : Type 0} (f : Rows A) (text : A → List ℕ) (P : A → Type 0) → ((x : A) → P x → Spelled f x (text x)) → (xs : List A) → ListFits P xs → Spelled (many f) xs (many_text text xs)
many_spelled f text P each xs fits = long_spelled (length xs) fits.count ▸ times_spelled f text xs (recursion_from_All (λ x. Spelled f x (text x)) xs (λ k d lt. each _ (fits.each k d lt)))

verifier_spelled : (v : List ℕ) → length v ≡ VERIFIER → Spelled verifier_bytes v v
verifier_spelled v e = raw_spelled VERIFIER v e

moment_spelled : (m : Moment) → MomentFits m → Spelled moment m (moment_text m)
unfolding moment moment_text
moment_spelled m fits = long_spelled _ fits.secs ▸ last (word_spelled _ fits.nanos) (done_spelled m)

id_spelled : (i : Id) → IdFits i → Spelled identifier i (id_text i)
unfolding identifier id_text
id_spelled i fits = word_spelled _ fits.level ▸ last (long_spelled _ fits.number) (done_spelled i)

-- ---- clients, sessions, contexts

kept_spelled : (k : Kept) → KeptFits k → Spelled kept_parts k (kept_text k)
unfolding kept_parts kept_text
kept_spelled k fits = run_spelled _ fits.arguments ▸ last (run_spelled _ fits.reply) (done_spelled k)

some_kept_spelled : (k : Option Kept) → IfThere KeptFits k → Spelled (present kept_parts) k (present_text kept_text k)
some_kept_spelled k fits = present_spelled kept_parts kept_text KeptFits kept_spelled k fits

pub client_spelled : (c : Client) → ClientFits c → Spelled client_row c (client_text c)
unfolding client_row client_text
client_spelled c fits =
    grouped (id_spelled c.id fits.id ▸ run_spelled c.owner fits.owner ▸ verifier_spelled c.verifier fits.verifier ▸ flag_spelled c.confirmed ▸ word_spelled c.sequence fits.sequence
    ▸ some_kept_spelled c.kept fits.kept ▸ flag_spelled c.reclaimed ▸ last (present_spelled Long long IsLong long_spelled c.seen fits.seen) (done_spelled c)) (simp append_assoc)

channel_spelled : (x : Channel) → ChannelFits x → Spelled channel_row x (channel_text x)
unfolding channel_row channel_text
channel_spelled x fits =
    grouped (word_spelled _ fits.max_request ▸ word_spelled _ fits.max_response ▸ word_spelled _ fits.max_cached ▸ word_spelled _ fits.max_operations ▸ last (word_spelled _ fits.max_requests) (done_spelled x)) (simp append_assoc)

slot_spelled : (s : Slot) → SlotFits s → Spelled slot_row s (slot_text s)
unfolding slot_row slot_text
slot_spelled s fits = word_spelled _ fits.sequence ▸ last (some_kept_spelled s.kept fits.kept) (done_spelled s)

pub session_spelled : (x : Session) → SessionFits x → Spelled session_row x (session_text x)
unfolding session_row session_text
session_spelled x fits =
    grouped (id_spelled x.id fits.id ▸ long_spelled x.client fits.client ▸ channel_spelled x.channel fits.channel ▸ last (many_spelled slot_row slot_text SlotFits slot_spelled x.slots fits.slots) (done_spelled x)) (simp append_assoc)

pub context_spelled : (x : Context) → ContextFits x → Spelled context_row x (context_text x)
unfolding context_row context_text
context_spelled x fits = grouped (word_spelled _ fits.id.level ▸ long_spelled _ fits.parent ▸ last (long_spelled _ fits.id.number) (done_spelled x)) (simp append_assoc)

-- ---- nodes and names

kind_spelled : (k : Kind) → Spelled kind k (word (kind_number k))
unfolding kind
kind_spelled File = last (among_spelled _ NF4REG refl (omega arith)) (on_true (done_spelled File))
kind_spelled Directory = last (among_spelled _ NF4DIR refl (omega arith)) (on_false (on_true (done_spelled Directory)))
kind_spelled SymbolicLink = last (among_spelled _ NF4LNK refl (omega arith)) (on_false (on_false (done_spelled SymbolicLink)))

stored_spelled : (s : Stored) → StoredFits s → Spelled stored_label s (stored_text s)
unfolding stored_label stored_text
stored_spelled s fits = grouped (word_spelled _ fits.lfs ▸ word_spelled _ fits.pi ▸ last (run_spelled _ fits.bytes) (done_spelled s)) (simp append_assoc)

head_spelled : (n : Node) → HeadFits n → Spelled node_head (n.id, n.kind, n.label) (head_text n)
unfolding node_head head_text
head_spelled n fits = grouped (id_spelled n.id fits.id ▸ kind_spelled n.kind ▸ last (word_spelled n.label fits.label) (done_spelled (n.id, n.kind, n.label))) (simp append_assoc)

moments_spelled : (n : Node) → MomentsFit n → Spelled node_moments (n.inner.accessed, n.inner.metadata, n.inner.modified) (moments_text n)
unfolding node_moments moments_text
moments_spelled n fits =
    grouped (moment_spelled n.inner.accessed fits.accessed ▸ moment_spelled n.inner.metadata fits.metadata ▸ last (moment_spelled n.inner.modified fits.modified) (done_spelled (n.inner.accessed, n.inner.metadata, n.inner.modified))) (simp append_assoc)

pub node_spelled : (n : Node) → NodeFits n → Spelled node_row n (node_text n)
unfolding node_row node_text
node_spelled n fits =
    grouped (head_spelled n fits.head ▸ present_spelled stored_label stored_text StoredFits stored_spelled n.inner.stored fits.stored ▸ word_spelled n.inner.mode fits.mode ▸ run_spelled n.inner.content fits.content
    ▸ long_spelled n.inner.change fits.change ▸ moments_spelled n fits.moments ▸ present_spelled verifier_bytes (λ v. v) (λ v. length v ≡ VERIFIER) verifier_spelled n.verifier fits.verifier ▸ last (long_spelled n.inner.cookies fits.cookies) (done_spelled n)) (simp append_assoc)

pub entry_spelled : (e : Entry) → EntryFits e → Spelled entry_row e (entry_text e)
unfolding entry_row entry_text
entry_spelled e fits = grouped (id_spelled e.directory fits.directory ▸ long_spelled e.cookie fits.cookie ▸ run_spelled e.name fits.name ▸ last (id_spelled e.node fits.node) (done_spelled e)) (simp append_assoc)

-- ---- opens and locks

pub open_spelled : (o : Open) → OpenFits o → Spelled open_row o (open_text o)
unfolding open_row open_text
open_spelled o fits =
    grouped (id_spelled o.id fits.id ▸ long_spelled o.client fits.client ▸ run_spelled o.owner fits.owner ▸ id_spelled o.node fits.node ▸ word_spelled o.access fits.access ▸ word_spelled o.deny fits.deny
    ▸ last (word_spelled o.sequence fits.sequence) (done_spelled o)) (simp append_assoc)

range_spelled : (r : LockRange) → RangeFits r → Spelled range_row r (range_text r)
unfolding range_row range_text
range_spelled r fits = grouped (long_spelled r.first fits.first ▸ long_spelled r.last fits.last ▸ last (flag_spelled r.write) (done_spelled r)) (simp append_assoc)

pub lock_spelled : (l : Lock) → LockFits l → Spelled lock_row l (lock_text l)
unfolding lock_row lock_text
lock_spelled l fits =
    grouped (id_spelled l.id fits.id ▸ long_spelled l.client fits.client ▸ long_spelled l.opening fits.opening ▸ run_spelled l.owner fits.owner ▸ id_spelled l.node fits.node ▸ word_spelled l.sequence fits.sequence
    ▸ last (many_spelled range_row range_text RangeFits range_spelled l.ranges fits.ranges) (done_spelled l)) (simp append_assoc)
