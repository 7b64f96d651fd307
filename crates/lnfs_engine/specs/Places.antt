-- What the code's values of a place stand for.
use Rattle.std.specs.Prelude.{◌≡◌, ℕ, List, Option, Some, None, cond}
use Rattle.std.specs.Option.{option_map}
use Rattle.lnfs_arguments.specs.Further.{Further}
use Rattle.lnfs_arguments.specs.declared.types.Op.{Op}
use Rattle.lnfs_arguments.specs.declared.types.Op.TheVariants as ops
use Rattle.lnfs_world.specs.World.{Session, session_at}
use Rattle.lnfs_world.specs.Outcome as world
use Rattle.lnfs_world.specs.Outcome.{begins_at}
use Rattle.lnfs_operations.specs.Served.{Keeper, Nowhere, Slot, Record}
use Rattle.lnfs_tree.specs.Rows.{id_of}
use Rattle.lnfs_engine.specs.declared.place.InSession.{InSession}
use Rattle.lnfs_engine.specs.declared.place.Keeper as code
use Rattle.lnfs_engine.specs.declared.place.Keeper.TheVariants as keepers
use Rattle.lnfs_engine.specs.declared.place.Place.{Place}

abbrev pub place_of : Place → world.Place
place_of p = record {
  subject = p.subject.0;
  moment = p.moment;
  client = p.client;
  session = p.session;
  current = option_map id_of p.current;
  saved = option_map id_of p.saved;
}

abbrev pub keeper_of : code.Keeper → Keeper
keeper_of keepers.Nowhere = Nowhere
keeper_of (keepers.Client client) = Record client.number
keeper_of (keepers.Session s) = Slot s.at.slot s.sequence

-- in no session
pub record IsOutside (p : world.Place) : Type 0 where
  pub client : p.client ≡ None
  pub session : p.session ≡ None

-- in a session that is there, of the subject's level, with the room of its responses
pub record StandsIn (p : world.Place) (sessions : List Session) (s : InSession) : Type 0 where
  pub level : s.at.session.level ≡ p.subject
  pub client_level : s.client.level ≡ p.subject
  pub client : p.client ≡ Some s.client.number
  pub session : p.session ≡ Some s.at.session.number
  pub room : option_map (λ x. x.channel.max_response) (session_at sessions (record { level = p.subject; number = s.at.session.number })) ≡ Some s.room

-- a record of the subject's level
pub record StandsAt (p : world.Place) (level : ℕ) : Type 0 where
  pub own : level ≡ p.subject
  pub outside : IsOutside p

-- what holds of a place whose COMPOUND is kept there
abbrev pub Stands : world.Place → List Session → code.Keeper → Type 0
Stands p sessions keepers.Nowhere = IsOutside p
Stands p sessions (keepers.Client client) = StandsAt p client.level
Stands p sessions (keepers.Session s) = StandsIn p sessions s

-- where the first operation of a COMPOUND stands
pub record Starts (p : world.Place) (keeper : code.Keeper) : Type 0 where
  pub place : p ≡ begins_at p.subject p.moment
  pub nowhere : keeper ≡ keepers.Nowhere

-- an operation that is the first of its COMPOUND, or fails
abbrev pub HasToBeFirst : Op → Type 0
HasToBeFirst (ops.ExchangeId verifier owner flags implementation) = Unit {0}
HasToBeFirst (ops.CreateSession args) = Unit {0}
HasToBeFirst (ops.DestroySession session) = Unit {0}
HasToBeFirst (ops.Sequence args) = Unit {0}
HasToBeFirst (ops.DestroyClientId client) = Unit {0}
HasToBeFirst _ = ⊥

-- an operation on clients and sessions, or one that is refused by its number
abbrev pub IsOnClients : Op → Type 0
IsOnClients (ops.ExchangeId verifier owner flags implementation) = Unit {0}
IsOnClients (ops.CreateSession args) = Unit {0}
IsOnClients (ops.DestroySession session) = Unit {0}
IsOnClients (ops.DestroyClientId client) = Unit {0}
IsOnClients (ops.ReclaimComplete one_fs) = Unit {0}
IsOnClients (ops.Outside number status) = Unit {0}
IsOnClients (ops.Extra number arguments) = Unit {0}
IsOnClients _ = ⊥

-- an operation that makes, names, moves or takes out
abbrev pub IsOnNames : Op → Type 0
IsOnNames (ops.Create what name given) = Unit {0}
IsOnNames (ops.Link name) = Unit {0}
IsOnNames (ops.Remove name) = Unit {0}
IsOnNames (ops.Rename old new) = Unit {0}
IsOnNames _ = ⊥

-- an operation on a file and its opens, or one that sets attributes
abbrev pub IsOnFiles : Op → Type 0
IsOnFiles (ops.Open seqid access deny client owner making claim) = Unit {0}
IsOnFiles (ops.Close seqid id) = Unit {0}
IsOnFiles (ops.Read id offset count) = Unit {0}
IsOnFiles (ops.Write id offset stable content) = Unit {0}
IsOnFiles (ops.Commit offset count) = Unit {0}
IsOnFiles (ops.SetAttr id given) = Unit {0}
IsOnFiles _ = ⊥

-- another operation on nodes
abbrev pub IsOnNodes : Op → Type 0
IsOnNodes (ops.PutFh handle) = Unit {0}
IsOnNodes ops.PutRootFh = Unit {0}
IsOnNodes ops.GetFh = Unit {0}
IsOnNodes ops.SaveFh = Unit {0}
IsOnNodes ops.RestoreFh = Unit {0}
IsOnNodes (ops.Lookup name) = Unit {0}
IsOnNodes ops.LookupP = Unit {0}
IsOnNodes (ops.GetAttr asked) = Unit {0}
IsOnNodes (ops.Verify given) = Unit {0}
IsOnNodes (ops.NVerify given) = Unit {0}
IsOnNodes (ops.Access bits) = Unit {0}
IsOnNodes (ops.ReadDir cookie verifier dircount maxcount asked) = Unit {0}
IsOnNodes ops.ReadLink = Unit {0}
IsOnNodes _ = ⊥

-- a place with other file handles
abbrev pub IsMoved : world.Place → world.Place → Type 0
IsMoved p q = q ≡ record p { current = q.current; saved = q.saved }

-- the number and the arguments of a further operation that is served
abbrev pub further_in : Further → Op → Option (ℕ × List ℕ)
further_in x (ops.Extra number arguments) = cond (x.serves number) (Some (number, arguments)) None
further_in x op = None
