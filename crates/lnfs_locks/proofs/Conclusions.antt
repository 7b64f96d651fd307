-- What an operation on locks leaves, whatever it comes to.
use Rattle.std.proofs.Common.{◌≡◌, refl}
use Rattle.lnfs_world.specs.Both.{Both}
use Rattle.lnfs_operations.specs.Chain.{Answer, Done, Refused}
use Rattle.lnfs_operations.specs.Extra.{Spot}
use Rattle.lnfs_locks.specs.Effects.{Came, Denied, Free, Holds}
use Rattle.lnfs_locks.specs.Locks.{Row}
use Rattle.lnfs_locks.specs.Outcome.{concluded}

pub world_stays : (answer : Answer Came) (at : Spot) (a : Both Row) → (concluded answer at a).state.world ≡ a.world
world_stays (Refused why) at a = refl
world_stays (Done (Denied d)) at a = refl
world_stays (Done Free) at a = refl
world_stays (Done (Holds l gone)) at a = refl

pub current_stays : (answer : Answer Came) (at : Spot) (a : Both Row) → (concluded answer at a).current ≡ at.current
current_stays (Refused why) at a = refl
current_stays (Done (Denied d)) at a = refl
current_stays (Done Free) at a = refl
current_stays (Done (Holds l gone)) at a = refl

pub saved_stays : (answer : Answer Came) (at : Spot) (a : Both Row) → (concluded answer at a).saved ≡ at.saved
saved_stays (Refused why) at a = refl
saved_stays (Done (Denied d)) at a = refl
saved_stays (Done Free) at a = refl
saved_stays (Done (Holds l gone)) at a = refl
