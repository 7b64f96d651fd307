-- What rows of clients and sessions, and last numbers, are made of the collection that has just these.
use Rattle.std.specs.Prelude.{◌≡◌, ◌≤◌, ℕ, true, List, map}
use Rattle.std.specs.List.{AllByRecursion}
use Rattle.lnfs_world.specs.Rows.{Rising}
use Rattle.lnfs_world.specs.World.{Id, Client, Session, session_order, is_given}
use Rattle.lnfs_world.specs.Facts.{ClientFacts}
use Rattle.lnfs_world.specs.declared.numbers.TheConstants.{LAST_NUMBER}
use Rattle.lnfs_operations.specs.Sizes.{IsBetween}
use Rattle.lnfs_counts.specs.Counters.{FitsCounter}
use Rattle.lnfs_rows.specs.declared.sessions.ClientRow.{ClientRow}
use Rattle.lnfs_rows.specs.declared.sessions.SessionRow.{SessionRow}
use Rattle.lnfs_rows.specs.Lasts.{given_of}
use Rattle.lnfs_rows.specs.Told.{client_of, session_of}
use Rattle.lnfs_session.specs.Standing.{Lists}

-- a number that a level gives
abbrev pub IsNumber : Id → Type 0
IsNumber i = IsBetween 1 LAST_NUMBER i.number

pub record MakesRecords (clients : List Client) (lasts : List Id) : Type 0 where
  pub facts : ClientFacts clients lasts
  pub numbers : AllByRecursion (λ c. IsNumber c.id) clients
  pub fits : AllByRecursion FitsCounter lasts

pub record MakesSessions (sessions : List Session) (lasts : List Id) : Type 0 where
  pub rise : Rising session_order sessions
  pub given : AllByRecursion (λ x. is_given lasts x.id ≡ true) sessions
  pub numbers : AllByRecursion (λ x. IsNumber x.id) sessions
  -- the number of a client
  pub clients : AllByRecursion (λ x. x.client ≤ LAST_NUMBER) sessions
  pub fits : AllByRecursion FitsCounter lasts

pub record MakesClients (lists : Lists) : Type 0 where
  pub records : MakesRecords lists.clients lists.client_lasts
  pub sessions : MakesSessions lists.sessions lists.session_lasts

-- the lists that rows and last numbers by level stand for
abbrev pub lists_told : List ClientRow → List SessionRow → (last_clients last_sessions : List ℕ) → Lists
lists_told clients sessions last_clients last_sessions = record {
  clients = map client_of clients;
  sessions = map session_of sessions;
  client_lasts = given_of last_clients;
  session_lasts = given_of last_sessions;
}
