-- The world that lists stand for.
use Rattle.std.specs.Prelude.{◌≡◌, ℕ, length, map}
use Rattle.lnfs_world.specs.World as world
use Rattle.lnfs_rows.specs.declared.lists.Lasts.{Lasts}
use Rattle.lnfs_rows.specs.declared.lists.Lists.{Lists}
use Rattle.lnfs_rows.specs.Lasts.{given_of}
use Rattle.lnfs_rows.specs.Told.{client_of, session_of, context_of, node_of, entry_of, open_of}

abbrev pub lasts_of : Lasts → world.Lasts
lasts_of l = record {
  clients = given_of l.clients.items;
  sessions = given_of l.sessions.items;
  contexts = given_of l.contexts.items;
  nodes = given_of l.nodes.items;
  opens = given_of l.opens.items;
}

abbrev pub world_of : Lists → world.World
world_of s = record {
  clients = map client_of s.clients.items;
  sessions = map session_of s.sessions.items;
  contexts = map context_of s.contexts.items;
  nodes = map node_of s.nodes.items;
  entries = map entry_of s.entries.items;
  opens = map open_of s.opens.items;
  lasts = lasts_of s.lasts;
}

-- a last number for each of so many levels
pub record AreOf (levels : ℕ) (l : Lasts) : Type 0 where
  pub clients : length l.clients.items ≡ levels
  pub sessions : length l.sessions.items ≡ levels
  pub contexts : length l.contexts.items ≡ levels
  pub nodes : length l.nodes.items ≡ levels
  pub opens : length l.opens.items ≡ levels
