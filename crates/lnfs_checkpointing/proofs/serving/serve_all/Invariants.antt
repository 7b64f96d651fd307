use Rattle.lnfs_checkpointing.specs.Servings.{each_of}
use Rattle.lnfs_checkpointing.proofs.Feeding.{Underway}
use Rattle.lnfs_checkpointing.proofs.Turns.{turns_left}
use Rattle.lnfs_checkpointing.proofs.serving.serve_all.Given as goal

-- the recording is under way, with some of it fed and some of its events served
abbrev pub invariant-turns : goal.invariant-turns
invariant-turns g l = Underway (each_of l.shown) l.initial.server l.traffic (g.O.Outside.seen l.initial.outside) (g.O.Outside.seen l.outside) l.server l.fed l.reader

abbrev pub decreases-turns : goal.decreases-turns
decreases-turns g l = turns_left l.server.events l.fed
