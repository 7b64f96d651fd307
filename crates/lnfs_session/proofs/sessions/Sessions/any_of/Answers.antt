use Rattle.std.proofs.Common.{◌∙◌}
use Rattle.lnfs_world.specs.Change.{is_session_of}
use Rattle.lnfs_session.specs.Listed.{id_of}
use Rattle.lnfs_session.proofs.Ended.{is_found}
use Rattle.lnfs_session.proofs.sessions.Sessions.any_of.Goals as goal

pub returns : goal.returns
returns c = c.is_some.ensures ∙ is_found (is_session_of (id_of c.args.client)) c.find.result c.args.self.now.sessions c.find.ensures.found
