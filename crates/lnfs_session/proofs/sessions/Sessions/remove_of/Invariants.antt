use Rattle.std.proofs.Common.{◌≡◌, length}
use Rattle.std.specs.Prelude.{not, filter}
use Rattle.lnfs_world.specs.Change.{is_session_of}
use Rattle.lnfs_session.specs.Listed.{id_of}
use Rattle.lnfs_session.proofs.sessions.Sessions.remove_of.Given as goal

abbrev pub invariant-loop-id : goal.invariant-loop-id
invariant-loop-id l = record {
  sessions : filter (λ x. not (is_session_of (id_of l.client) x)) l.self.sessions ≡ filter (λ x. not (is_session_of (id_of l.client) x)) l.fn.self.sessions;
  lasts : l.self.lasts ≡ l.fn.self.lasts;
}

abbrev pub decreases-loop-id : goal.decreases-loop-id
decreases-loop-id l = length l.self.sessions
