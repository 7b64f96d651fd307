-- EXCHANGE_ID (RFC 8881 section 18.35) with no state protection.
use Rattle.std.specs.Prelude.{ℕ, ◌+◌, ◌==◌, Bool, false, not, ◌&&◌, List, [], ◌∷◌, ◌++◌, Option, Some, None, nat_lt, count_by, bit_and}
use Rattle.std.specs.List.{find}
use Rattle.std.specs.Str.{bytes_eq}
use Rattle.lnfs_world.specs.World.{Id, Client, last_of}
use Rattle.lnfs_world.specs.Change.{Change, AddClient, DropClient}
use Rattle.lnfs_world.specs.Outcome.{Act}
use Rattle.lnfs_arguments.specs.declared.statuses.TheConstants.{NFS4ERR_INVAL, NFS4ERR_NOSPC}
use Rattle.lnfs_operations.specs.declared.Gate.TheVariants.{Session}
use Rattle.lnfs_world.specs.declared.numbers.TheConstants.{LAST_NUMBER}
use Rattle.lnfs_operations.specs.declared.numbers.TheConstants.{EXCHGID4_FLAG_CONFIRMED_R, EXCHGID4_FLAG_UPD_CONFIRMED_REC_A, CLIENTS_OF_A_LEVEL}
use Rattle.lnfs_operations.specs.Chain.{Answer, refuse, done, demand, where_there}

-- what the operation looks at of its arguments
pub record Arguments : Type 0 where
  pub verifier : List ℕ
  pub owner : List ℕ
  pub flags : ℕ

-- what it tells of a record of the subject's level
pub record Told : Type 0 where
  pub number : ℕ
  pub sequence : ℕ
  pub confirmed : Bool

abbrev pub has_flag : ℕ → ℕ → Bool
has_flag flags flag = not (bit_and flags flag == 0)

-- the confirmed record of a level, an owner and its verifier
abbrev pub is_confirmed_as : ℕ → List ℕ → List ℕ → Client → Bool
is_confirmed_as level owner verifier c = c.id.level == level && (bytes_eq c.owner owner && (bytes_eq c.verifier verifier && c.confirmed))

-- the record of a level and an owner that no CREATE_SESSION has confirmed
abbrev pub is_pending : ℕ → List ℕ → Client → Bool
is_pending level owner c = c.id.level == level && (bytes_eq c.owner owner && not c.confirmed)

-- how many records of the level stay where the owner's pending one goes
abbrev pub others_of : ℕ → List ℕ → List Client → ℕ
others_of level owner clients = count_by (λ c. c.id.level == level && not (is_pending level owner c)) clients

abbrev pub dropped : Option Client → List Change
dropped None = []
dropped (Some c) = DropClient c.id ∷ []

-- a new record of an owner, whose lease wasn't renewed yet
abbrev pub new_client : Id → Arguments → Client
new_client id args = record { id = id; owner = args.owner; verifier = args.verifier; confirmed = false; sequence = 1; kept = None; reclaimed = false; seen = None }

-- The confirmed record is told again. Else the owner's pending record, if any, gives way to a new one
-- under the level's next number.
abbrev pub exchange_id : Arguments → Act (Answer Told)
exchange_id args p w =
    demand (not (has_flag args.flags EXCHGID4_FLAG_CONFIRMED_R)) (refuse p Session NFS4ERR_INVAL) (
    demand (not (has_flag args.flags EXCHGID4_FLAG_UPD_CONFIRMED_REC_A)) (refuse p Session NFS4ERR_INVAL) (
    where_there (find (is_confirmed_as p.subject args.owner args.verifier) w.clients)
    (λ c. done p (record { number = c.id.number; sequence = c.sequence; confirmed = c.confirmed }) [])
    (demand (nat_lt (others_of p.subject args.owner w.clients) CLIENTS_OF_A_LEVEL) (refuse p Session NFS4ERR_NOSPC) (
    demand (nat_lt (last_of p.subject w.lasts.clients) LAST_NUMBER) (refuse p Session NFS4ERR_NOSPC) (
    let number = last_of p.subject w.lasts.clients + 1 in
    done p (record { number = number; sequence = 1; confirmed = false })
    (dropped (find (is_pending p.subject args.owner) w.clients) ++
    AddClient (new_client (record { level = p.subject; number = number }) args) ∷ []))))))
