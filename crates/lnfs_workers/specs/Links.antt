-- Links and their ends.
use Rattle.std.specs.Prelude.{◌≡◌, ◌≤◌, ℕ, List, [], length, Some, slice_get}
use Rattle.lnfs_types.specs.declared.event.Moment.{Moment}
use Rattle.lnfs_history.specs.declared.entry.Entry.{Entry}
use Rattle.lnfs_history.specs.Entries.{part}
use Rattle.lnfs_workers.specs.Served.{Tells, Service, AreOf}
use Rattle.lnfs_incoming.specs.declared.ending.TheConstants.{BUDGET}
use Rattle.lnfs_workers.specs.declared.line.LinkEnd.{LinkEnd}
use Rattle.lnfs_workers.specs.declared.line.Waiting.{Waiting}
use Rattle.lnfs_workers.specs.declared.line.Done.{Done}

-- A link of this class was served with these entries: its end bears its class and their number, each is of this class and of a moment that the clock may give
pub record IsServed {L : Type 0} (tell : L → Tells) (may : Moment → Type 0) (class : ℕ) (link : L) (end : LinkEnd L) (entries : List Entry) : Type 0 where
  pub bears : end.class ≡ class
  pub records : end.records ≡ length entries
  pub few : length entries ≤ BUDGET
  pub events : AreOf class may entries
  pub service : Service end.ending (tell link) (tell end.link) entries

-- a link was served with the entries of its place
abbrev pub IsDone : {B L : Type 0} → (L → Tells) → (Moment → Type 0) → Waiting B L → Done B L → Type 0
IsDone tell may one done = (done.place.link ≡ one.place.link) × IsServed tell may one.class one.link done.end done.place.entries

-- the link of that number was served with these entries
abbrev pub Comes : {L : Type 0} → (L → Tells) → (Moment → Type 0) → List (ℕ × L) → ℕ → LinkEnd L → List Entry → Type 0
Comes {L} tell may links n end entries = (link : ℕ × L) × (slice_get links n ≡ Some link) × IsServed tell may link.0 link.1 end entries

-- a link waits under its number, with an empty place
abbrev pub Waits : {B L : Type 0} → List (ℕ × L) → ℕ → Waiting B L → Type 0
Waits {B} {L} links n one = (link : ℕ × L) × (slice_get links n ≡ Some link) × (one.class ≡ link.0) × (one.link ≡ link.1) × (one.place ≡ part n [])
