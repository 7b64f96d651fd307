-- The columns of last numbers.
use Rattle.std.specs.Prelude.{◌≡◌, ℕ, List, map}
use Rattle.lnfs_world.specs.World as world
use Rattle.lnfs_rows.specs.Lasts.{given_of, each_of}
use Rattle.lnfs_rows.specs.declared.lists.Lasts.{Lasts}
use Rattle.lnfs_layout.specs.declared.lasts.LastRow.{LastRow}

-- each list has a column of the rows, and that of locks too
pub record IsSplit (rows : List LastRow) (l : Lasts) (of_locks : List ℕ) : Type 0 where
  pub clients : l.clients.items ≡ map (λ r. r.clients) rows
  pub sessions : l.sessions.items ≡ map (λ r. r.sessions) rows
  pub contexts : l.contexts.items ≡ map (λ r. r.contexts) rows
  pub nodes : l.nodes.items ≡ map (λ r. r.nodes) rows
  pub opens : l.opens.items ≡ map (λ r. r.opens) rows
  pub locks : of_locks ≡ map (λ r. r.locks) rows

-- last numbers that are those of so many levels alone, from 1, in the order of levels
abbrev pub AreEach : (levels : ℕ) → List world.Id → Type 0
AreEach levels lasts = given_of (each_of levels lasts) ≡ lasts

pub record AreOfLevels (levels : ℕ) (l : world.Lasts) : Type 0 where
  pub clients : AreEach levels l.clients
  pub sessions : AreEach levels l.sessions
  pub contexts : AreEach levels l.contexts
  pub nodes : AreEach levels l.nodes
  pub opens : AreEach levels l.opens
