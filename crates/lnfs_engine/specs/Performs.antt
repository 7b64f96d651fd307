-- What the code says of an operation that ran.
use Rattle.std.specs.Prelude.{◌≡◌, ℕ, List, Option, Some, None, Result}
use Rattle.lnfs_arguments.specs.declared.types.Op.{Op}
use Rattle.lnfs_arguments.specs.declared.types.CreateSession.{CreateSession}
use Rattle.lnfs_results.specs.declared.types.OpResult.{OpResult}
use Rattle.lnfs_world.specs.World.{World, client_at}
use Rattle.lnfs_world.specs.Outcome as world
use Rattle.lnfs_world.specs.Lawful.{Turn, deed_of}
use Rattle.lnfs_operations.specs.Identifiers.{client_named}
use Rattle.lnfs_operations.specs.Sequence.{Sent}
use Rattle.lnfs_operations.specs.Served.{Keeper, Nowhere, Slot, Record, Reply, Own, Kept, row}
use Rattle.lnfs_site.specs.Site.{site_of}
use Rattle.lnfs_session.specs.Creates.{kept_reply, or_none}
use Rattle.lnfs_session.specs.Standing.{Lists}
use Rattle.lnfs_operations.specs.declared.Refusal.{Refusal}
use Rattle.lnfs_engine.specs.declared.place.Request.{Request}
use Rattle.lnfs_engine.specs.declared.place.Keeper as code
use Rattle.lnfs_engine.specs.declared.reply.Came.{Came}
use Rattle.lnfs_engine.specs.Places.{keeper_of}
use Rattle.lnfs_engine.specs.Replies.{own_of, Says}

abbrev pub site_in : Request → world.Site
site_in r = site_of r.site.now

abbrev pub sent_of : Request → Sent
sent_of r = record { arguments = r.bytes.now; size = r.size; count = r.compound.now.count }

-- what an operation of the table comes to
abbrev pub turn : world.Site → Sent → Op → world.Place → World → Turn Reply World
turn site sent op p w = deed_of (row site sent op) p w

-- the own result of a CREATE_SESSION, or the answer that is kept in the record of its client
abbrev pub made_of : Op → Keeper → Lists → CreateSession → Option (Result OpResult Refusal) → Reply
made_of op keeper lists args (Some answer) = own_of op keeper answer
made_of op keeper lists args None = Kept (or_none (kept_reply (client_at lists.clients (client_named args.client))))

-- the keeper that was said first
abbrev pub first_kept : Keeper → Keeper → Keeper
first_kept Nowhere other = other
first_kept (Slot slot sequence) other = Slot slot sequence
first_kept (Record client) other = Record client

abbrev pub kept_behind : Keeper → Reply → Keeper
kept_behind keeper (Own own other) = first_kept keeper other
kept_behind keeper (Kept kept) = keeper

-- An operation that ran: the place of the next one and the state afterwards, where the result is kept, and
-- what was appended to the result that begins at a mark.
pub record Performs {S : Type 0} (begin : ℕ) (old new : List ℕ) (here next : code.Keeper) (place : world.Place) (after : S) (t : Turn Reply S) (came : Came) : Type 0 where
  pub place_is : t.place ≡ place
  pub state : t.state ≡ after
  pub keeper : kept_behind (keeper_of here) t.answer ≡ keeper_of next
  pub says : Says begin old new t.answer came
