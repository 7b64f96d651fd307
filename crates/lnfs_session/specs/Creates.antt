-- What the code's answers of a CREATE_SESSION stand for.
use Rattle.std.specs.Prelude.{◌≡◌, ℕ, List, [], Option, Some, None, Result, Ok, Err, option_map}
use Rattle.lnfs_arguments.specs.declared.types.CreateSession.{CreateSession}
use Rattle.lnfs_world.specs.World.{Id, Client, client_at}
use Rattle.lnfs_operations.specs.Identifiers.{client_named}
use Rattle.lnfs_operations.specs.CreateSession as create
use Rattle.lnfs_session.specs.declared.clients.SessionError.{SessionError}
use Rattle.lnfs_session.specs.declared.create.Created.{Created}
use Rattle.lnfs_session.specs.declared.create.Created.TheVariants.{New, Replay}
use Rattle.lnfs_session.specs.Listed.{id_of, channel_of}
use Rattle.lnfs_session.specs.Records.{replaced_by}
use Rattle.lnfs_session.specs.Standing.{Lists}

-- the answer that is kept in the record of a client
abbrev pub kept_reply : Option Client → Option (List ℕ)
kept_reply None = None
kept_reply (Some c) = option_map (λ k. k.reply) c.kept

abbrev pub or_none : Option (List ℕ) → List ℕ
or_none None = []
or_none (Some bytes) = bytes

-- where the last one came again, the answer is the one that is kept in the record of its client
abbrev pub created_of : Lists → CreateSession → Created → create.Created
created_of lists args (New session granted dropped) = create.New session (channel_of granted)
created_of lists args Replay = create.Again (or_none (kept_reply (client_at lists.clients (client_named args.client))))

-- what is granted has no padding of headers, and nothing for RDMA
abbrev pub IsPlain : Result Created SessionError → Type 0
IsPlain (Ok (New session granted dropped)) = (granted.headerpad ≡ 0) × (granted.ird ≡ None)
IsPlain (Ok Replay) = Unit {0}
IsPlain (Err e) = Unit {0}

-- the record that is told to be gone is the one that gives way to a client's
abbrev pub GivesWay : Id → Lists → Result Created SessionError → Type 0
GivesWay client lists (Ok (New session granted dropped)) = option_map id_of dropped ≡ option_map (λ c. c.id) (replaced_by (client_at lists.clients client) lists.clients)
GivesWay client lists (Ok Replay) = Unit {0}
GivesWay client lists (Err e) = Unit {0}

abbrev pub Replaces : CreateSession → Lists → Result Created SessionError → Type 0
Replaces args lists result = GivesWay (client_named args.client) lists result
