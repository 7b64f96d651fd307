use Rattle.lnfs_session.proofs.sessions.Sessions.fill.Goals as goal

pub invariant_of-self : goal.invariant_of-self
invariant_of-self c = c.keep_result.ensures.counted c.self.inside.counters c.self.invariant
