use Rattle.std.proofs.Common.{◌≡◌, ◌++◌, map, drop}
use Rattle.lnfs_client.specs.Told.{shown_as}
use Rattle.lnfs_client.proofs.listing.push_all.Given as goal

-- what is shown so far, and the entries that are left
abbrev pub invariant-loop-entry : goal.invariant-loop-entry
invariant-loop-entry g l = l.shown.items ++ map (shown_as l.policy) (drop l.entry-index l.entries) ≡ l.initial.shown.items ++ map (shown_as l.policy) l.entries
