-- Moments and records within their bounds.
use Rattle.std.specs.Prelude.{ℕ, Bool, ◌≤◌, ◌<◌, ◌&&◌, nat_le, nat_lt, length}
use Rattle.lnfs_types.specs.declared.limits.TheConstants.{RECORD_LIMIT}
use Rattle.lnfs_types.specs.declared.event.Event.{Event}

-- an nfstime4 that isn't before 1970: its seconds fit int64_t, and its nanoseconds are below a second (RFC 8881 section 3.3.1)
abbrev pub is_moment : ℕ → ℕ → Bool
is_moment secs nanos = nat_le secs 9223372036854775807 && nat_lt nanos 1000000000

-- an event whose record isn't too long and whose moment is within its bounds
pub record Fits (e : Event) : Type 0 where
  pub short : length e.message ≤ RECORD_LIMIT
  pub secs : e.moment.secs ≤ 9223372036854775807
  pub nanos : e.moment.nanos < 1000000000
