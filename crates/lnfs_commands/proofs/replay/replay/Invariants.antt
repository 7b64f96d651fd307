use Rattle.std.proofs.Common.{◌≡◌, List, ◌++◌, length}
use Rattle.lnfs_types.specs.declared.event.Event.{Event}
use Rattle.lnfs_commands.proofs.Replaying.{Underway}
use Rattle.lnfs_commands.proofs.Turns.{turns_left}
use Rattle.lnfs_commands.proofs.replay.replay.Given as goal

-- the replay is under way, with some events behind the journal
abbrev pub invariant-turns : goal.invariant-turns
invariant-turns g l =
    (events : List Event)
    × (l.vault.journal ≡ l.initial.vault.journal ++ events)
    × (l.vault.policy ≡ l.initial.vault.policy)
    × Underway g.X.ExtraRows.extra g.M.Mechanism.signing l.initial.vault.policy l.initial.vault.journal (g.O.Outside.seen l.initial.outside) (g.O.Outside.seen l.outside) events l.reader.place l.reader.rest

abbrev pub decreases-turns : goal.decreases-turns
decreases-turns g l = turns_left (length l.vault.journal) (length l.reader.rest)
