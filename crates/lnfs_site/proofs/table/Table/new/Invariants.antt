use Rattle.std.proofs.Common.{◌≡◌, map, take}
use Rattle.lnfs_format.specs.Kinds.{writes}
use Rattle.lnfs_site.proofs.table.Table.new.Given as goal

-- the spellings of the levels so far
abbrev pub invariant-loop-number : goal.invariant-loop-number
invariant-loop-number g l = l.rows.items ≡ map (writes l.format.kind) (take l.number l.lattice)
