-- What is written is read again.
use Rattle.std.proofs.Common.{◌≡◌, ℕ, zero, suc, ◌≤◌, Bool, true, false, List, [], ◌∷◌, ◌++◌, length, map, Some, Result, Ok, Err, refl, sym, ap, subst, ◌∙◌, append_assoc, arith, inl}
use Rattle.std.specs.Prelude.{nat_le, IfOk}
use Rattle.std.specs.Str.{bytes_eq}
use Rattle.std.specs.Global.{Vec}
use Rattle.std.proofs.lemmas.Bool.Decides.{nat_tests}
use Rattle.std.proofs.lemmas.List.{append-nil}
use Rattle.std.proofs.lemmas.Slice.Eq.{bytes_eq-Decides}
use Rattle.lnfs_xdr.specs.Format.{times}
use Rattle.lnfs_xdr.specs.Canon.{long}
use Rattle.lnfs_xdr.specs.Message.{Message, Tells}
use Rattle.lnfs_xdr.proofs.Spelled.{Spelled, long_spelled, long_among_spelled, raw_spelled, done_spelled, ◌▸◌, last, grouped}
use Rattle.lnfs_world.specs.World as world
use Rattle.lnfs_world.specs.World.{World, last_of}
use Rattle.lnfs_rows.specs.declared.lists.Lasts.{Lasts}
use Rattle.lnfs_rows.specs.declared.lists.Lists.{Lists}
use Rattle.lnfs_rows.specs.Lasts.{given_of, each_from, each_of}
use Rattle.lnfs_rows.specs.World.{AreOf, lasts_of, world_of}
use Rattle.lnfs_locks.specs.Locks.{Locks}
use Rattle.lnfs_lock_rows.specs.declared.LockRows.{LockRows}
use Rattle.lnfs_lock_rows.specs.Told.{locks_told}
use Rattle.lnfs_layout.specs.declared.numbers.TheConstants.{MAGIC, MOST_EVENTS, DIGEST}
use Rattle.lnfs_layout.specs.declared.lasts.LastRow.{LastRow}
use Rattle.lnfs_layout.specs.Grammar.{last_row, client_row, session_row, context_row, node_row, entry_row, open_row, lock_row}
use Rattle.lnfs_layout.specs.Texts.{last_text, lasts_text, lists_text, layout_text, client_text, session_text, context_text, node_text, entry_text, open_text, lock_text, many_text}
use Rattle.lnfs_layout.specs.Lasts.{AreEach, AreOfLevels}
use Rattle.lnfs_layout.specs.Fits.{IsLong, AreLongs, NumbersFit, WorldLastsFit, ClientFits, SessionFits, ContextFits, NodeFits, EntryFits, OpenFits, LockFits, LastsFit, RowsFit, LockRowsFit}
use Rattle.lnfs_layout.specs.Whole.{Told, head, lasts_told, lock_lasts_told, last_numbers, people, files, body, chosen, layout}
use Rattle.lnfs_layout.proofs.LastNumbers.{last_at, each_given}
use Rattle.lnfs_layout.proofs.Spellings.{many_spelled, client_spelled, session_spelled, context_spelled, node_spelled, entry_spelled, open_spelled, lock_spelled}

-- ---- last numbers, of a world and of locks

abbrev row_of : (level : ℕ) → world.Lasts → (locks : List world.Id) → LastRow
row_of level l locks = record { clients = last_of level l.clients; sessions = last_of level l.sessions; contexts = last_of level l.contexts; nodes = last_of level l.nodes; opens = last_of level l.opens; locks = last_of level locks }

abbrev rows_of : (level levels : ℕ) → world.Lasts → (locks : List world.Id) → List LastRow
rows_of level zero l locks = []
rows_of level (suc levels) l locks = row_of level l locks ∷ rows_of (suc level) levels l locks

-- each number of a level has room
record RowFits (r : LastRow) : Type 0 where
  clients : IsLong r.clients
  sessions : IsLong r.sessions
  contexts : IsLong r.contexts
  nodes : IsLong r.nodes
  opens : IsLong r.opens
  locks : IsLong r.locks

row_fits : (l : world.Lasts) (locks : List world.Id) → WorldLastsFit l → NumbersFit locks → (i : ℕ) → RowFits (row_of i l locks)
row_fits l locks fits own i = record { clients = fits.clients i; sessions = fits.sessions i; contexts = fits.contexts i; nodes = fits.nodes i; opens = fits.opens i; locks = own i }

row_spelled : (level : ℕ) (l : world.Lasts) (locks : List world.Id) → RowFits (row_of level l locks) → Spelled last_row (row_of level l locks) (last_text level l locks)
unfolding last_row last_text
row_spelled level l locks fits =
    grouped (long_spelled _ fits.clients ▸ long_spelled _ fits.sessions ▸ long_spelled _ fits.contexts ▸ long_spelled _ fits.nodes ▸ long_spelled _ fits.opens ▸ last (long_spelled _ fits.locks) (done_spelled (row_of level l locks))) (simp append_assoc)

rows_spelled : (level levels : ℕ) (l : world.Lasts) (locks : List world.Id) → ((i : ℕ) → RowFits (row_of i l locks)) → Spelled (times levels last_row) (rows_of level levels l locks) (lasts_text level levels l locks)
unfolding lasts_text
rows_spelled level zero l locks fits = done_spelled []
rows_spelled level (suc levels) l locks fits = row_spelled level l locks (fits level) ▸ last (rows_spelled (suc level) levels l locks fits) (done_spelled (rows_of level (suc levels) l locks))

-- a column of the rows has the numbers of its levels
column : (c : LastRow → ℕ) (lasts : List world.Id) (l : world.Lasts) (locks : List world.Id) (each : (i : ℕ) → c (row_of i l locks) ≡ last_of i lasts) (level levels : ℕ) → map c (rows_of level levels l locks) ≡ each_from level levels lasts
column c lasts l locks each level zero = refl
column c lasts l locks each level (suc levels) = rw (each level, column c lasts l locks each (suc level) levels) refl

again : (ns : List ℕ) (levels : ℕ) → length ns ≡ levels → given_of (each_of levels (given_of ns)) ≡ given_of ns
again ns levels e = ap (λ (n : ℕ). given_of (each_of n (given_of ns))) (sym e) ∙ ap given_of (each_given ns)

lasts_again : (levels : ℕ) (l : world.Lasts) (locks : List world.Id) → AreOfLevels levels l → lasts_told (rows_of 0 levels l locks) ≡ l
lasts_again levels l locks each =
    rw (
      column (λ r. r.clients) l.clients l locks (λ i. refl) 0 levels,
      column (λ r. r.sessions) l.sessions l locks (λ i. refl) 0 levels,
      column (λ r. r.contexts) l.contexts l locks (λ i. refl) 0 levels,
      column (λ r. r.nodes) l.nodes l locks (λ i. refl) 0 levels,
      column (λ r. r.opens) l.opens l locks (λ i. refl) 0 levels,
    ) (λ i. record { clients = each.clients i; sessions = each.sessions i; contexts = each.contexts i; nodes = each.nodes i; opens = each.opens i })

locks_again : (levels : ℕ) (l : world.Lasts) (locks : List world.Id) → AreEach levels locks → lock_lasts_told (rows_of 0 levels l locks) ≡ locks
locks_again levels l locks each = ap given_of (column (λ r. r.locks) locks l locks (λ i. refl) 0 levels) ∙ each

numbers_spelled : (levels : ℕ) (l : world.Lasts) (locks : List world.Id) → AreOfLevels levels l → AreEach levels locks → WorldLastsFit l → NumbersFit locks → Spelled (last_numbers levels) (l, locks) (lasts_text 0 levels l locks)
unfolding last_numbers
numbers_spelled levels l locks each own lasts numbers =
    let rows : List LastRow = rows_of 0 levels l locks in
    let told : Spelled (last_numbers levels) (lasts_told rows, lock_lasts_told rows) (lasts_text 0 levels l locks) = last (rows_spelled 0 levels l locks (row_fits l locks lasts numbers)) (done_spelled (lasts_told rows, lock_lasts_told rows)) in
    let first : Spelled (last_numbers levels) (l, lock_lasts_told rows) (lasts_text 0 levels l locks) =
    subst (λ (x : world.Lasts). Spelled (last_numbers levels) (x, lock_lasts_told rows) (lasts_text 0 levels l locks)) (lasts_again levels l locks each) told
    in
    subst (λ (x : List world.Id). Spelled (last_numbers levels) (l, x) (lasts_text 0 levels l locks)) (locks_again levels l locks own) first

-- those that a list has of each level
of_levels : (levels : ℕ) (l : Lasts) → AreOf levels l → AreOfLevels levels (lasts_of l)
of_levels levels l each = record {
  clients = again l.clients.items levels each.clients;
  sessions = again l.sessions.items levels each.sessions;
  contexts = again l.contexts.items levels each.contexts;
  nodes = again l.nodes.items levels each.nodes;
  opens = again l.opens.items levels each.opens;
}

last_fits : (ns : List ℕ) → AreLongs ns → NumbersFit (given_of ns)
last_fits ns all = λ level. rw (last_at ns level) (all level)

lasts_fit : (l : Lasts) → LastsFit l → WorldLastsFit (lasts_of l)
lasts_fit l fits = record {
  clients = last_fits l.clients.items fits.clients;
  sessions = last_fits l.sessions.items fits.sessions;
  contexts = last_fits l.contexts.items fits.contexts;
  nodes = last_fits l.nodes.items fits.nodes;
  opens = last_fits l.opens.items fits.opens;
}

-- ---- the whole

people_spelled : (w : World) → RowsFit w → Spelled people (w.clients, w.sessions, w.contexts) (many_text client_text w.clients ++ (many_text session_text w.sessions ++ many_text context_text w.contexts))
unfolding people
people_spelled w fits =
    many_spelled client_row client_text ClientFits client_spelled w.clients fits.clients ▸ many_spelled session_row session_text SessionFits session_spelled w.sessions fits.sessions
    ▸ last (many_spelled context_row context_text ContextFits context_spelled w.contexts fits.contexts) (done_spelled (w.clients, w.sessions, w.contexts))

files_spelled : (w : World) → RowsFit w → Spelled files (w.nodes, w.entries, w.opens) (many_text node_text w.nodes ++ (many_text entry_text w.entries ++ many_text open_text w.opens))
unfolding files
files_spelled w fits =
    many_spelled node_row node_text NodeFits node_spelled w.nodes fits.nodes ▸ many_spelled entry_row entry_text EntryFits entry_spelled w.entries fits.entries
    ▸ last (many_spelled open_row open_text OpenFits open_spelled w.opens fits.opens) (done_spelled (w.nodes, w.entries, w.opens))

within : (n m : ℕ) → n ≤ m → nat_le n m ≡ true
within n m le = grind (arith, nat_tests)

body_spelled : (levels events : ℕ) (w : World) (own : Locks) → events ≤ MOST_EVENTS → AreOfLevels levels w.lasts → AreEach levels own.lasts → WorldLastsFit w.lasts → NumbersFit own.lasts → RowsFit w → LockRowsFit own
    → Spelled (body levels) (record { events = events; world = w; locks = own }) (long events ++ lasts_text 0 levels w.lasts own.lasts ++ lists_text w ++ many_text lock_text own.locks)
unfolding body lists_text
body_spelled levels events w own few each own_each lasts numbers fits locks =
    grouped (long_among_spelled _ events (within events MOST_EVENTS few) (omega (arith, few)) ▸ numbers_spelled levels w.lasts own.lasts each own_each lasts numbers ▸ people_spelled w fits ▸ files_spelled w fits
    ▸ last (many_spelled lock_row lock_text LockFits lock_spelled own.locks locks) (done_spelled (record { events = events; world = w; locks = own }))) (simp append_assoc)

head_spelled : (digest : List ℕ) → length digest ≡ DIGEST → Spelled head digest (long MAGIC ++ digest)
unfolding head
head_spelled digest size = long_among_spelled _ MAGIC refl (omega arith) ▸ raw_spelled DIGEST digest size

on_same : {B : Type 0} (b : Bool) (m n : Message B) (x : B) (bytes : List ℕ) → b ≡ true → Tells m x bytes → Tells (chosen b m n) x bytes
on_same true m n x bytes e t = t
on_same false m n x bytes e t = absurd cc

pub world_again : (levels : ℕ) (digest : List ℕ) (events : ℕ) (w : World) (own : Locks) → length digest ≡ DIGEST → events ≤ MOST_EVENTS → AreOfLevels levels w.lasts → AreEach levels own.lasts → WorldLastsFit w.lasts → NumbersFit own.lasts
    → RowsFit w → LockRowsFit own → Tells (layout levels digest) (Some (record { events = events; world = w; locks = own })) (layout_text levels digest events w own)
unfolding layout layout_text
world_again levels digest events w own size few each own_each lasts numbers fits locks =
    let told : Told = record { events = events; world = w; locks = own } in
    let back : List ℕ = long events ++ lasts_text 0 levels w.lasts own.lasts ++ lists_text w ++ many_text lock_text own.locks in
    let read : Spelled (body levels) told back = body_spelled levels events w own few each own_each lasts numbers fits locks in
    let parts : long MAGIC ++ digest ++ long events ++ lasts_text 0 levels w.lasts own.lasts ++ lists_text w ++ many_text lock_text own.locks ≡ (long MAGIC ++ digest) ++ back = simp append_assoc in
    let same : bytes_eq digest digest ≡ true = (bytes_eq-Decides digest digest).1 refl in
    inl (
      digest,
      long MAGIC ++ digest,
      back,
      (head_spelled digest size).is,
      parts,
      on_same (bytes_eq digest digest) _ _ (Some told) back same (inl (told, back, [], read.is, sym (append-nil back), (refl, refl))),
    )

-- what lists and rows of locks stand for
abbrev told_by : (events : ℕ) → Lists → LockRows → Told
told_by events s rows = record { events = events; world = world_of s; locks = locks_told rows }

pub written_again : (levels : ℕ) (digest : List ℕ) (events : ℕ) (s : Lists) (rows : LockRows) → length digest ≡ DIGEST → events ≤ MOST_EVENTS → AreOf levels s.lasts → length rows.lasts.items ≡ levels → LastsFit s.lasts → AreLongs rows.lasts.items
    → RowsFit (world_of s) → LockRowsFit (locks_told rows) → Tells (layout levels digest) (Some (told_by events s rows)) (layout_text levels digest events (world_of s) (locks_told rows))
written_again levels digest events s rows size few each own_each lasts numbers fits locks =
    world_again levels digest events (world_of s) (locks_told rows) size few (of_levels levels s.lasts each) (again rows.lasts.items levels own_each) (lasts_fit s.lasts lasts) (last_fits rows.lasts.items numbers) fits locks

pub is_again : {W : Type 0} (levels : ℕ) (digest : List ℕ) (events : ℕ) (s : Lists) (rows : LockRows) (r : Result (Vec ℕ) W) → length digest ≡ DIGEST → IfOk r (λ v. v.items ≡ layout_text levels digest events (world_of s) (locks_told rows))
    → IfOk r (λ v. LastsFit s.lasts × RowsFit (world_of s)) → IfOk r (λ v. AreLongs rows.lasts.items × LockRowsFit (locks_told rows))
    → events ≤ MOST_EVENTS → AreOf levels s.lasts → length rows.lasts.items ≡ levels → IfOk r (λ v. Tells (layout levels digest) (Some (told_by events s rows)) v.items)
is_again levels digest events s rows (Ok v) size text fits own_fits few each own_each =
    subst (λ (b : List ℕ). Tells (layout levels digest) (Some (told_by events s rows)) b) (sym text) (written_again levels digest events s rows size few each own_each fits.0 own_fits.0 fits.1 own_fits.1)
is_again levels digest events s rows (Err e) size text fits own_fits few each own_each = tt
