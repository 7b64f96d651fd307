-- The outcome of a DESTROY_CLIENTID that passes its tests.
use Rattle.std.proofs.Common.{◌≡◌, ℕ, true, false, [], ◌∷◌, Some, refl}
use Rattle.std.specs.Prelude.{◌==◌}
use Rattle.std.specs.List.{list_any}
use Rattle.lnfs_types.specs.declared.event.Moment.{Moment}
use Rattle.lnfs_world.specs.World.{Client, World, client_at}
use Rattle.lnfs_world.specs.Change.{DropClient, is_session_of, is_open_of}
use Rattle.lnfs_world.specs.Outcome.{begins_at}
use Rattle.lnfs_operations.specs.Chain.{done}
use Rattle.lnfs_operations.specs.Identifiers.{client_named}
use Rattle.lnfs_operations.specs.DestroyClientId.{destroy_clientid}
use Rattle.lnfs_session.specs.Standing.{Lists, standing}

pub freed : (id level : ℕ) (moment : Moment) (rest : World) (lists : Lists) → ((client_named id).level == level) ≡ true → (row : Client) → client_at lists.clients (client_named id) ≡ Some row → list_any (is_session_of row.id) lists.sessions ≡ false → list_any (is_open_of row.id) rest.opens ≡ false → destroy_clientid id (begins_at level moment) (standing rest lists) ≡ done (begins_at level moment) tt (DropClient row.id ∷ [])
freed id level moment rest lists own row found session opens = rw (own, found, session, opens) refl
