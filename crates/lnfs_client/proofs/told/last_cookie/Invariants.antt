use Rattle.std.proofs.Common.{◌≡◌, drop}
use Rattle.lnfs_client.specs.Told.{last_cookie}
use Rattle.lnfs_client.proofs.told.last_cookie.Given as goal

-- the last cookie is that of the entries that are left, or else the last so far
abbrev pub invariant-loop-entry : goal.invariant-loop-entry
invariant-loop-entry l = last_cookie l.cookie (drop l.entry-index l.entries) ≡ last_cookie l.initial.cookie l.entries
