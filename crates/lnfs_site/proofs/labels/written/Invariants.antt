use Rattle.std.proofs.Common.{◌≡◌, map}
use Rattle.std.specs.List.{range_with_len}
use Rattle.lnfs_world.specs.Given.{stored_of}
use Rattle.lnfs_site.specs.Site.{spelling}
use Rattle.lnfs_site.proofs.labels.written.Given as goal

-- the labels of the levels so far
abbrev pub invariant-loop-number : goal.invariant-loop-number
invariant-loop-number g l = map stored_of l.rows.items ≡ map (spelling l.policy) (range_with_len 0 l.number)
