-- Of what opens can be made.
use Rattle.std.specs.Prelude.{◌≡◌, ◌<◌, ◌≤◌, List, None}
use Rattle.std.specs.List.{AllByRecursion, find}
use Rattle.lnfs_world.specs.Rows.{Apart}
use Rattle.lnfs_world.specs.World.{Id, Open}
use Rattle.lnfs_world.specs.Facts.{same_opening}
use Rattle.lnfs_world.specs.declared.numbers.TheConstants.{LAST_NUMBER}
use Rattle.lnfs_counts.specs.Counters.{Counters, last_at, count_at}
use Rattle.lnfs_counts.specs.Counted.{AreNumbered}
use Rattle.lnfs_open.specs.Indexed.{own_id, open_at}

pub record MakesOpens (opens : List Open) (lasts : List Id) : Type 0 where
  pub numbered : AreNumbered own_id opens lasts
  -- no two opens have the same client, owner and node
  pub apart : Apart same_opening opens
  -- the clients and the nodes are under numbers that can be given
  pub clients : AllByRecursion (λ o. o.client ≤ LAST_NUMBER) opens
  pub nodes : AllByRecursion (λ o. o.node.number ≤ LAST_NUMBER) opens

-- One more open can be kept, under a number that its level gave before.
pub record CanCome (opens : List Open) (counters : Counters) (o : Open) : Type 0 where
  pub positive : 1 ≤ o.id.number
  pub given : o.id.number ≤ last_at counters o.id.level
  pub most : o.id.number ≤ LAST_NUMBER
  pub few : count_at counters o.id.level < LAST_NUMBER
  pub absent : open_at opens o.id ≡ None
  pub alone : find (same_opening o) opens ≡ None
  pub client : o.client ≤ LAST_NUMBER
  pub node : o.node.number ≤ LAST_NUMBER
