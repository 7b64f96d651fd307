-- What SEQUENCE leaves where it begins a new request: all but the lease of its session's client.
use Rattle.std.proofs.Common.{◌≡◌, Option, Some, None, refl}
use Rattle.lnfs_world.specs.World.{Client, Session, World, client_at}
use Rattle.lnfs_world.specs.Change.{apply_all}
use Rattle.lnfs_world.specs.Outcome.{Place}
use Rattle.lnfs_operations.specs.Sequence.{renewing, renewal}

-- all is left but the clients
pub record LeavesAllButClients (w v : World) : Type 0 where
  pub sessions : v.sessions ≡ w.sessions
  pub contexts : v.contexts ≡ w.contexts
  pub nodes : v.nodes ≡ w.nodes
  pub entries : v.entries ≡ w.entries
  pub opens : v.opens ≡ w.opens
  pub lasts : v.lasts ≡ w.lasts

-- the world behind a SEQUENCE that begins a new request in a session
abbrev pub renewed_in : Place → World → Session → World
renewed_in p w x = apply_all (renewal p w x) w

pub renewal_leaves : (p : Place) (w : World) (x : Session) → LeavesAllButClients w (renewed_in p w x)
renewal_leaves p w x = at (client_at w.clients (record { level = p.subject; number = x.client }))
  where
    at : (o : Option Client) → LeavesAllButClients w (apply_all (renewing p.moment o) w)
    at None = record { sessions = refl; contexts = refl; nodes = refl; entries = refl; opens = refl; lasts = refl }
    at (Some c) = record { sessions = refl; contexts = refl; nodes = refl; entries = refl; opens = refl; lasts = refl }
