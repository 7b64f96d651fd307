-- What may happen to opens and last numbers, so that facts of rows elsewhere bear it.
use Rattle.std.specs.Prelude.{◌≡◌, ◌≤◌, ◌||◌, ℕ, Bool, true, nat_lt}
use Rattle.std.specs.List.{AllByRecursion, list_any}
use Rattle.lnfs_world.specs.World.{Open, Lasts, World, last_of}
use Rattle.lnfs_world.specs.Within.{is_same_open}

-- No last number of a level falls.
pub record NoneFalls (level : ℕ) (a b : Lasts) : Type 0 where
  pub clients : last_of level a.clients ≤ last_of level b.clients
  pub sessions : last_of level a.sessions ≤ last_of level b.sessions
  pub contexts : last_of level a.contexts ≤ last_of level b.contexts
  pub nodes : last_of level a.nodes ≤ last_of level b.nodes
  pub opens : last_of level a.opens ≤ last_of level b.opens

-- an open that comes under a number above its level's last, or keeps its client, owner and node
abbrev pub is_tame : World → Open → Bool
is_tame before o = nat_lt (last_of o.id.level before.lasts.opens) o.id.number || list_any (λ x. is_same_open x o) before.opens

pub record Tame (a b : World) : Type 0 where
  pub lasts : (level : ℕ) → NoneFalls level a.lasts b.lasts
  pub opens : AllByRecursion (λ o. is_tame a o ≡ true) b.opens
