use Rattle.lnfs_checkpoint.proofs.Lasts.{are_of}
use Rattle.lnfs_checkpoint.proofs.telling.lists_of.Goals as goal

pub returns-clause-each : goal.returns-clause-each
returns-clause-each c = are_of c.args.levels c.args.store.now.lasts c.in_ok-lasts.lasts c.in_ok-lasts.ensures
