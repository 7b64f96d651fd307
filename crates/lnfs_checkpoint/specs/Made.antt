-- Of what worlds the lists of a server can be made.
use Rattle.std.specs.List.{AllByRecursion}
use Rattle.lnfs_world.specs.World.{World}
use Rattle.lnfs_quota.specs.Totals.{IsInBounds}
use Rattle.lnfs_session.specs.Makes.{MakesClients}
use Rattle.lnfs_session.specs.Standing as sessions
use Rattle.lnfs_tree.specs.Makes.{MakesTree}
use Rattle.lnfs_tree.specs.Rows.{rows_of}
use Rattle.lnfs_open.specs.Makes.{MakesOpens}
use Rattle.lnfs_gss3.specs.Makes.{MakesContexts}

pub record CanBeMade (w : World) : Type 0 where
  pub clients : MakesClients (sessions.lists_of w)
  pub tree : MakesTree (rows_of w)
  pub opens : MakesOpens w.opens w.lasts.opens
  pub contexts : MakesContexts w.contexts w.lasts.contexts
  -- what each level uses is counted
  pub counted : AllByRecursion IsInBounds w.nodes
