use Rattle.std.proofs.Common.{All}
use Rattle.lnfs_outside.specs.Deals.{IsUnused}
use Rattle.lnfs_test_commands.proofs.hostile.net_of.Given as goal

-- what a net may be made of
abbrev pub invariant-loop-link : goal.invariant-loop-link
invariant-loop-link l = All IsUnused l.deals.items
