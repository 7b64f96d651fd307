use Rattle.std.proofs.Common.{◌≡◌, ◌++◌, drop, map}
use Rattle.lnfs_policy.specs.Rows.{entry_in}
use Rattle.lnfs_policy.proofs.formats.entries_of.Given as goal

-- the entries with those of the rows that are left
abbrev pub invariant-loop-row : goal.invariant-loop-row
invariant-loop-row l = l.entries.items ++ map (entry_in l.labels l.names) (drop l.row-index l.rows) ≡ map (entry_in l.labels l.names) l.rows
