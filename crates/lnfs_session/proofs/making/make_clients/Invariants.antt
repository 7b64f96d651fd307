use Rattle.std.proofs.Common.{◌≡◌, map, take}
use Rattle.lnfs_rows.specs.Told as told
use Rattle.lnfs_session.specs.Listed.{client_of}
use Rattle.lnfs_session.proofs.making.make_clients.Given as goal

-- the rows so far
abbrev pub invariant-loop-row : goal.invariant-loop-row
invariant-loop-row l = map client_of l.clients.entries ≡ map told.client_of (take l.row-index l.rows)
