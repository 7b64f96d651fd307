use Rattle.std.proofs.Common.{All}
use Rattle.lnfs_outside.specs.Deals.{IsUnused}
use Rattle.lnfs_test_traffic.proofs.outside.three_links.Given as goal

abbrev pub invariant-loop-class : goal.invariant-loop-class
invariant-loop-class l = All IsUnused l.deals.items
