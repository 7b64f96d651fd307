use Rattle.std.proofs.Common.{refl, ap}
use Rattle.std.specs.declared.option.Option.TheVariants.{Some}
use Rattle.lnfs_commands.specs.declared.command.Work.{Work}
use Rattle.lnfs_commands.specs.Words.{work}
use Rattle.lnfs_program.proofs.Running.{served_asked, visited_asked, audited_asked, saved_asked, resumed_asked}
use Rattle.lnfs_program.proofs.run.run_work.Goals as goal

pub returns-in-Serve-clause-runs : goal.returns-in-Serve-clause-runs
returns-in-Serve-clause-runs g c = served_asked (ap (λ (w : Work). Some (work w)) c.in-Serve.is) refl c.run_served.ensures.offers

pub returns-in-Talk-clause-runs : goal.returns-in-Talk-clause-runs
returns-in-Talk-clause-runs g c = visited_asked (ap (λ (w : Work). Some (work w)) c.in-Talk.is) refl c.run_visit.ensures.visits

pub returns-in-Judge-clause-runs : goal.returns-in-Judge-clause-runs
returns-in-Judge-clause-runs g c = audited_asked _ _ _ _ _ _ _ (ap (λ (w : Work). Some (work w)) c.in-Judge.is) c.run_audit.ensures.audits

pub returns-in-Save-clause-runs : goal.returns-in-Save-clause-runs
returns-in-Save-clause-runs g c = saved_asked _ _ _ _ _ _ _ (ap (λ (w : Work). Some (work w)) c.in-Save.is) c.run_saving.ensures.saves

pub returns-in-Resume-clause-runs : goal.returns-in-Resume-clause-runs
returns-in-Resume-clause-runs g c = resumed_asked _ _ _ _ _ _ _ (ap (λ (w : Work). Some (work w)) c.in-Resume.is) c.run_resumption.ensures.resumes
