-- What is told of clients: whether the lease of each is over (RFC 8881 section 8.3).
use Rattle.std.specs.Prelude.{Bool}
use Rattle.lnfs_types.specs.declared.event.Moment.{Moment}
use Rattle.lnfs_world.specs.World.{World}
use Rattle.lnfs_world.specs.Leases.{over_at}
use Rattle.lnfs_open.specs.declared.keys.ClientKey.{ClientKey}
use Rattle.lnfs_open.specs.Stopping.{Tells}

-- at a moment of a world
abbrev pub Leases : (ClientKey → Bool → Type 0) → World → Moment → Type 0
Leases told w moment = Tells told (over_at w.clients moment)
