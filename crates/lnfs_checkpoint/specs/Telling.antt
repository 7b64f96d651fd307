-- Last numbers, told one for each level.
use Rattle.std.specs.Prelude.{◌≡◌, ℕ}
use Rattle.lnfs_world.specs.World as world
use Rattle.lnfs_rows.specs.declared.lists.Lasts.{Lasts}
use Rattle.lnfs_rows.specs.Lasts.{each_of}

-- those of so many levels, of each kind
pub record AreLastsOf (levels : ℕ) (w : world.Lasts) (l : Lasts) : Type 0 where
  pub clients : l.clients.items ≡ each_of levels w.clients
  pub sessions : l.sessions.items ≡ each_of levels w.sessions
  pub contexts : l.contexts.items ≡ each_of levels w.contexts
  pub nodes : l.nodes.items ≡ each_of levels w.nodes
  pub opens : l.opens.items ≡ each_of levels w.opens
