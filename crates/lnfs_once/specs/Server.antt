-- A server, as the law sees it: the reply to a packet, the state afterwards, and whether it acted.
use Rattle.std.specs.Prelude.{ℕ, Bool}
use Rattle.lnfs_once.specs.Client.{Packet, Tells}

-- what a packet comes to
pub record Served (V R : Type 0) : Type 0 where
  pub state : V
  pub reply : R
  -- The request did what it asks, or was refused for good under its sequence: never again is its slot at that.
  pub acts : Bool

-- The server, one client of it, and all others. The law is said of that client.
pub record Server : Type 1 where
  -- states, of the server and of all that the laws need to remember
  pub V : Type 0
  -- what a request asks
  pub A : Type 0
  -- replies, as they are sent
  pub R : Type 0
  -- when a packet comes, and on which link
  pub M : Type 0
  -- events of others
  pub E : Type 0
  -- the last sequence, after which comes 0
  pub top : ℕ
  -- Whether the client may make a request. A server may owe something of such requests alone, as that one passes the tests
  -- that come before the slot is looked at.
  pub suits : Packet A → Bool
  -- a packet of the client comes
  pub serve : V → M → Packet A → Served V R
  -- An event of others comes. The state stays where the event names something of the client's.
  pub others : V → E → V
  -- what the client reads from a reply to its own request
  pub tells : Packet A → R → Tells
