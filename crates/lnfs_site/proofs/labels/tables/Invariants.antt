use Rattle.std.proofs.Common.{◌≡◌, map, take}
use Rattle.lnfs_site.specs.Labels.{table_of}
use Rattle.lnfs_site.proofs.labels.tables.Given as goal

-- the tables of the formats so far
abbrev pub invariant-loop-format : goal.invariant-loop-format
invariant-loop-format g l = l.tables.items ≡ map (table_of l.policy.labels) (take l.format-index l.policy.formats)
