use Rattle.lnfs_program.proofs.Running.{runs_of, reason_of}
use Rattle.lnfs_program.proofs.run.run_in.Goals as goal

pub returns-clause-runs : goal.returns-clause-runs
returns-clause-runs g c = rw c.of.ensures (runs_of _ c.run_asked.ensures.runs)

pub returns-clause-reason : goal.returns-clause-reason
returns-clause-reason g c = rw c.of.ensures (reason_of _ c.run_asked.ensures.runs)

pub returns-clause-stays : goal.returns-clause-stays
returns-clause-stays g c = c.run_asked.ensures.runs.does.stays
