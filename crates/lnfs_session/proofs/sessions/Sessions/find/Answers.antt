use Rattle.std.proofs.Common.{◌≡◌, true, not, ◌||◌, subst}
use Rattle.std.specs.Prelude.{IfSome}
use Rattle.std.specs.List.{list_all}
use Rattle.lnfs_world.specs.World.{same_id}
use Rattle.lnfs_world.specs.Change.{is_session_of}
use Rattle.lnfs_session.specs.Listed.{id_of, session_id_of}
use Rattle.lnfs_session.specs.Sessions.{SessionLists}
use Rattle.lnfs_session.proofs.sessions.Sessions.find.Goals as goal

pub returns-clause-only : goal.returns-clause-only
returns-clause-only c =
    subst (λ (lists : SessionLists). IfSome c.find_session.result (λ id. list_all (λ x. not (same_id (session_id_of id) x.id) || is_session_of (id_of c.args.client) x) lists.sessions ≡ true)) c.self.view_is c.find_session.ensures.only
