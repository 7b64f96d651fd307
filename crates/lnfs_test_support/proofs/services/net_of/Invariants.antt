use Rattle.std.proofs.Common.{All}
use Rattle.lnfs_outside.specs.Deals.{IsUnused}
use Rattle.lnfs_test_support.proofs.services.net_of.Given as goal

abbrev pub invariant-loop-peer : goal.invariant-loop-peer
invariant-loop-peer l = All IsUnused l.deals.items
