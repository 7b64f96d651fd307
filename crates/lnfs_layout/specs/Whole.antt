-- The whole layout: what comes before the policy's digest and behind it, and what the bytes are then.
use Rattle.std.specs.Prelude.{◌≡◌, ◌≢◌, ℕ, Bool, true, false, List, ◌++◌, length, Option, Some, None, map, nat_le}
use Rattle.std.specs.Str.{bytes_eq}
use Rattle.lnfs_xdr.specs.Format.{LongAmong, Raw, Done, ◌>>=◌, times}
use Rattle.std.specs.Prelude.{◌==◌}
use Rattle.lnfs_xdr.specs.Canon.{long}
use Rattle.lnfs_xdr.specs.Message.{Message, Closed, Unread, Next}
use Rattle.lnfs_world.specs.World.{Id, World, Client, Session, Context, Node, Entry, Open, Lasts}
use Rattle.lnfs_rows.specs.Lasts.{given_of}
use Rattle.lnfs_locks.specs.Locks.{Locks}
use Rattle.lnfs_layout.specs.declared.numbers.TheConstants.{MAGIC, MOST_EVENTS, DIGEST}
use Rattle.lnfs_layout.specs.declared.lasts.LastRow.{LastRow}
use Rattle.lnfs_layout.specs.Grammar.{Rows, many, last_row, client_row, session_row, context_row, node_row, entry_row, open_row, lock_row}

-- how many events a state has taken, and the world and the locks after them
pub record Told : Type 0 where
  pub events : ℕ
  pub world : World
  pub locks : Locks

-- the name of the layout, and the digest of a policy
unfoldable pub head : Rows (List ℕ)
head = do
  magic ← LongAmong (λ n. n == MAGIC)
  Raw DIGEST

abbrev pub lasts_told : List LastRow → Lasts
lasts_told rows = record {
  clients = given_of (map (λ r. r.clients) rows);
  sessions = given_of (map (λ r. r.sessions) rows);
  contexts = given_of (map (λ r. r.contexts) rows);
  nodes = given_of (map (λ r. r.nodes) rows);
  opens = given_of (map (λ r. r.opens) rows);
}

abbrev pub lock_lasts_told : List LastRow → List Id
lock_lasts_told rows = given_of (map (λ r. r.locks) rows)

-- the last numbers of so many levels: those of the world, and those of locks
unfoldable pub last_numbers : (levels : ℕ) → Rows (Lasts × List Id)
last_numbers levels = do
  rows ← times levels last_row
  Done (lasts_told rows, lock_lasts_told rows)

unfoldable pub people : Rows (List Client × List Session × List Context)
people = do
  clients ← many client_row
  sessions ← many session_row
  contexts ← many context_row
  Done (clients, sessions, contexts)

unfoldable pub files : Rows (List Node × List Entry × List Open)
files = do
  nodes ← many node_row
  entries ← many entry_row
  opens ← many open_row
  Done (nodes, entries, opens)

unfoldable pub body : (levels : ℕ) → Rows Told
body levels = do
  events ← LongAmong (λ n. nat_le n MOST_EVENTS)
  lasts ← last_numbers levels
  those ← people
  these ← files
  locks ← many lock_row
  Done (record {
    events = events;
    world = record { clients = those.0; sessions = those.1; contexts = those.2; nodes = these.0; entries = these.1; opens = these.2; lasts = lasts.0 };
    locks = record { lasts = lasts.1; locks = locks };
  })

abbrev pub chosen : {B : Type 0} → Bool → Message B → Message B → Message B
chosen true m n = m
chosen false m n = n

-- A state under a policy of so many levels and of this digest; or none, where the digest is another, and what follows it is unread.
unfoldable pub layout : (levels : ℕ) → (digest : List ℕ) → Message (Option Told)
layout levels digest = Next head (λ given. chosen (bytes_eq given digest) (Next (body levels) (λ t. Closed (Some t)) (λ e. absurd e)) (Unread None)) (λ e. absurd e)

-- The first 40 bytes are in the layout, and the digest is another.
abbrev pub IsOfAnother : (digest : List ℕ) → List ℕ → Type 0
IsOfAnother digest bytes = (given : List ℕ) × (rest : List ℕ) × (length given ≡ DIGEST) × (given ≢ digest) × (bytes ≡ long MAGIC ++ given ++ rest)
