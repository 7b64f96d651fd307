use Rattle.lnfs_traffic.proofs.Making.{Stands}
use Rattle.lnfs_traffic.proofs.generator.generate.Given as goal

abbrev pub invariant-loop-before : goal.invariant-loop-before
invariant-loop-before l = Stands l.policy l.seed l.before l.x l.pasts.items l.clients l.sessions l.events.items
