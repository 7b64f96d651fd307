-- What holds of clients and their opens.
use Rattle.std.specs.Prelude.{◌≡◌, List, true}
use Rattle.std.specs.List.{AllByRecursion}
use Rattle.lnfs_world.specs.Rows.{Rising}
use Rattle.lnfs_world.specs.World.{Client, Open, client_order}
use Rattle.lnfs_world.specs.Facts.{has_confirmed}

-- Identifiers of clients differ, and an open's client is there and confirmed.
pub record OpensBehind (clients : List Client) (opens : List Open) : Type 0 where
  pub rise : Rising client_order clients
  pub behind : AllByRecursion (λ o. has_confirmed clients o.id.level o.client ≡ true) opens
