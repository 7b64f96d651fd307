use Rattle.std.proofs.Common.{All}
use Rattle.lnfs_outside.specs.Deals.{IsUnused}
use Rattle.lnfs_test_talk.proofs.recorded.net_of.Given as goal

-- what a net may be made of
abbrev pub invariant-loop-visit : goal.invariant-loop-visit
invariant-loop-visit l = All IsUnused l.deals.items
