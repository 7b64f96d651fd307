use Rattle.std.proofs.Common.{◌≡◌, ◌++◌, map}
use Rattle.lnfs_rows.specs.Told as told
use Rattle.lnfs_session.specs.Listed.{session_of}
use Rattle.lnfs_session.proofs.telling.session_rows.Given as goal

-- the rows so far, and those that are left
abbrev pub invariant-loop-id : goal.invariant-loop-id
invariant-loop-id l = map told.session_of l.rows.items ++ map session_of l.id-iterator ≡ map session_of l.sessions.entries
