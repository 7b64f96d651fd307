-- How a request came, by its sequence (RFC 8881 section 2.10.6.1).
use Rattle.std.specs.Prelude.{ℕ, ◌==◌, cond, List, Option, Some, None}
use Rattle.std.specs.Str.{bytes_eq}
use Rattle.lnfs_world.specs.World.{Kept}
use Rattle.lnfs_session.specs.declared.arrival.Arrival.{Arrival as Came}
use Rattle.lnfs_session.specs.declared.arrival.Arrival.TheVariants as came

pub data Arrival : Type 0 where
  -- the last one again, with its answer; the last one with other arguments
  Again : (reply : List ℕ) → Arrival
  FalseRetry : Arrival
  -- neither the last one nor the next
  Misordered : Arrival
  Next : Arrival

abbrev pub retried : Option Kept → List ℕ → Arrival → Arrival
retried None arguments other = other
retried (Some k) arguments other = cond (bytes_eq k.arguments arguments) (Again k.reply) FalseRetry

abbrev pub arrival : (last next : ℕ) → Option Kept → (sequence : ℕ) (arguments : List ℕ) → Arrival
arrival last next kept sequence arguments = retried (cond (sequence == last) kept None) arguments (cond (sequence == next) Next Misordered)

abbrev pub arrival_of : Came → Arrival
arrival_of (came.Again reply) = Again reply.now
arrival_of came.FalseRetry = FalseRetry
arrival_of came.Misordered = Misordered
arrival_of came.Next = Next
