use Rattle.lnfs_session.proofs.sessions.Sessions.refill.Goals as goal

pub invariant_of-self : goal.invariant_of-self
invariant_of-self c = c.refill_session.ensures.counted c.self.inside.counters c.self.invariant
