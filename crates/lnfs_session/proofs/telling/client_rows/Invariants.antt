use Rattle.std.proofs.Common.{◌≡◌, ◌++◌, map}
use Rattle.lnfs_rows.specs.Told as told
use Rattle.lnfs_session.specs.Listed.{client_of}
use Rattle.lnfs_session.proofs.telling.client_rows.Given as goal

-- the rows so far, and those that are left
abbrev pub invariant-loop-id : goal.invariant-loop-id
invariant-loop-id l = map told.client_of l.rows.items ++ map client_of l.id-iterator ≡ map client_of l.clients.entries
