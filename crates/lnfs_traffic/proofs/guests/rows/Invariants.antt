use Rattle.std.proofs.Common.{◌≡◌, map, take}
use Rattle.lnfs_traffic.specs.Generated.{row_of}
use Rattle.lnfs_traffic.proofs.guests.rows.Given as goal

abbrev pub invariant-loop-guest : goal.invariant-loop-guest
invariant-loop-guest l = l.all.items ≡ map (row_of l.policy) (take l.guest-index l.guests)
