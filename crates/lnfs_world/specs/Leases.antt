-- Leases of clients (RFC 8881 section 8.3): an open of a client that has been silent for longer keeps nobody out.
use Rattle.std.specs.Prelude.{ℕ, ◌+◌, Bool, false, List, Option, Some, None, option_and_then, nat_lt}
use Rattle.lnfs_types.specs.declared.event.Moment.{Moment}
use Rattle.lnfs_world.specs.World.{Id, Client, client_at}
use Rattle.lnfs_types.specs.declared.limits.TheConstants.{LEASE}

-- Whether a lease is over at so many seconds, by those of its last renewal. Where clocks were set back these may be more, and
-- then it isn't.
abbrev pub is_over : (secs : ℕ) → (seen : Option ℕ) → Bool
is_over secs None = false
is_over secs (Some seen) = nat_lt (seen + LEASE) secs

-- whether the lease of a client is over at a moment
abbrev pub over_at : List Client → Moment → (client : Id) → Bool
over_at clients moment client = is_over moment.secs (option_and_then (λ c. c.seen) (client_at clients client))

-- a client whose lease begins again
abbrev pub renewed : Moment → Client → Client
renewed moment c = record c { seen = Some moment.secs }
