use Rattle.std.proofs.Common.{arith}
use Rattle.std.proofs.lemmas.Bool.Decides.{nat_tests}
use Rattle.lnfs_workers.proofs.clock.moment_of.Goals as goal

pub returns-clause-secs : goal.returns-clause-secs
returns-clause-secs g c = let valid = g.met.C.Clock.valid c.args.clock.now c.now.result c.now.ensures in grind (arith, nat_tests)

pub returns-clause-nanos : goal.returns-clause-nanos
returns-clause-nanos g c = let valid = g.met.C.Clock.valid c.args.clock.now c.now.result c.now.ensures in grind (arith, nat_tests)
