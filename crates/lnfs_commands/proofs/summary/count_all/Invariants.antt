use Rattle.std.proofs.Common.{◌≡◌, length}
use Rattle.std.specs.List.{AllByRecursion}
use Rattle.sha2.specs.Hashers.{Holds256}
use Rattle.lnfs_types.specs.Moments.{Fits}
use Rattle.lnfs_step.specs.Journal.{answer_with, line_with}
use Rattle.lnfs_commands.proofs.Summing.{Counted}
use Rattle.lnfs_commands.proofs.summary.count_all.Given as goal

-- what the events came to that were served, and what is left
abbrev pub invariant-loop-event : goal.invariant-loop-event
invariant-loop-event g l =
    let X = g.X.ExtraRows.extra in
    let m = g.M.Mechanism.signing in
    let p = l.initial.vault.policy in
    (l.vault.policy ≡ p)
    × AllByRecursion Fits l.rest.items
    × Counted (answer_with X m p) (line_with X m p) l.initial.vault.journal l.fn.events.items l.vault.journal l.rest.items l.tally.replies l.tally.failed (Holds256 l.tally.frames)

abbrev pub decreases-loop-event : goal.decreases-loop-event
decreases-loop-event g l = length l.rest.items
