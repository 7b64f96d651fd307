use Rattle.lnfs_commands.specs.Words.{form_of, texts}
use Rattle.lnfs_program.proofs.Running.{quiet_asked, asked_so}
use Rattle.lnfs_program.proofs.run.run_asked.Goals as goal

pub returns-in-Err-clause-runs : goal.returns-in-Err-clause-runs
returns-in-Err-clause-runs g c = quiet_asked _ _ _ _ _ _ _ (form_of (texts c.args.words.now)) c.in-Err.ensures.runs

pub returns-in-Ok-None-clause-runs : goal.returns-in-Ok-None-clause-runs
returns-in-Ok-None-clause-runs g c = quiet_asked _ _ _ _ _ _ _ (form_of (texts c.args.words.now)) (rw c.in-Ok-None.field-0-is at c.in-Ok-None.ensures.runs)

pub returns-in-Ok-Some-clause-runs : goal.returns-in-Ok-Some-clause-runs
returns-in-Ok-Some-clause-runs g c =
    let asked = rw c.in-Ok-Some.field-0-is at c.in-Ok-Some.ensures.runs in
    asked_so asked.0 asked.1 c.run_work.ensures.runs
