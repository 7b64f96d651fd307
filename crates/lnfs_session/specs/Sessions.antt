-- The sessions of all levels: what of a world's rows they are.
use Rattle.std.specs.Prelude.{List, [], map}
use Rattle.lnfs_world.specs.World as world
use Rattle.lnfs_world.specs.World.{Id}
use Rattle.lnfs_counts.specs.Counters.{Counters, last_at, count_at, lasts_of}
use Rattle.lnfs_counts.specs.Counted.{IsCounted}
use Rattle.lnfs_session.specs.declared.rows.SessionRef.{SessionRef}
use Rattle.lnfs_session.specs.declared.rows.Session.{Session}
use Rattle.lnfs_session.specs.Listed.{session_of}

pub record SessionLists : Type 0 where
  pub sessions : List world.Session
  -- the last number that each level was given
  pub lasts : List Id

abbrev pub no_sessions : SessionLists
no_sessions = record { sessions = []; lasts = [] }

abbrev pub own_id : world.Session → Id
own_id x = x.id

-- The counters tell of the sessions.
abbrev pub AreCounted : List (SessionRef × Session) → Counters → Type 0
AreCounted rows counters = IsCounted own_id (map session_of rows) (lasts_of counters.entries) (last_at counters) (count_at counters)
