use Rattle.std.proofs.Common.{◌≡◌, map, take}
use Rattle.lnfs_rows.specs.Told as told
use Rattle.lnfs_session.specs.Listed.{session_of}
use Rattle.lnfs_session.proofs.making.make_sessions.Given as goal

-- the rows so far
abbrev pub invariant-loop-row : goal.invariant-loop-row
invariant-loop-row l = map session_of l.sessions.entries ≡ map told.session_of (take l.row-index l.rows)
