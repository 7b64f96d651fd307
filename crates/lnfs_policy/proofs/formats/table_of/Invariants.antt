use Rattle.std.proofs.Common.{◌≡◌, ◌++◌, drop}
use Rattle.std.specs.List.{filter_map}
use Rattle.lnfs_policy.specs.Rows.{name_row}
use Rattle.lnfs_policy.proofs.formats.table_of.Given as goal

-- the rows with those of the names that are left
abbrev pub invariant-loop-name : goal.invariant-loop-name
invariant-loop-name l = l.rows.items ++ filter_map (name_row l.labels l.pair.lfs l.pair.pi) (drop l.name-index l.names) ≡ filter_map (name_row l.labels l.pair.lfs l.pair.pi) l.names
