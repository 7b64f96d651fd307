use Rattle.lnfs_commands.specs.Words.{form_of, texts}
use Rattle.lnfs_commands.proofs.Running.{short_alone}
use Rattle.lnfs_commands.proofs.alone.run_alone.Goals as goal

pub returns-in-Err-clause-runs : goal.returns-in-Err-clause-runs
returns-in-Err-clause-runs g c = short_alone (form_of (texts c.args.words.now)) c.hand_on-handed.ensures.does c.hand_on-handed.ensures.handed
