-- What an event names: of clients and sessions by the operations of its COMPOUND, and of contexts by its call.
use Rattle.std.specs.Prelude.{ℕ, ◌==◌, Bool, false, ◌&&◌, List, Option, Some, None}
use Rattle.std.specs.List.{list_any}
use Rattle.lnfs_arguments.specs.declared.types.Op.{Op}
use Rattle.lnfs_world.specs.World.{Id, same_id}
use Rattle.lnfs_operations.specs.Named.{names_owner}
use Rattle.lnfs_step.specs.Request.{InContext, Run, Request, Asked}

-- whether some operation does, as `names_client` of a client id or `names_session` of a session
abbrev pub some_operation : (Op → Bool) → Request → Bool
some_operation does (Asked call (Run arguments c)) = list_any does c.ops
some_operation does request = false

-- An owner is one of the level of who calls.
abbrev pub event_names_owner : (level : ℕ) (owner : List ℕ) → Request → Bool
event_names_owner level owner (Asked call (Run arguments c)) = call.level == level && list_any (names_owner owner) c.ops
event_names_owner level owner request = false

-- A call comes in a context of its own level. One that ends a context comes in that (RFC 2203 section 5.4).
abbrev pub is_context : (context : Id) → (level : ℕ) → Option InContext → Bool
is_context i level None = false
is_context i level (Some c) = same_id i (record { level = level; number = c.number })

abbrev pub event_names_context : (context : Id) → Request → Bool
event_names_context i (Asked call task) = is_context i call.level call.context
event_names_context i request = false
