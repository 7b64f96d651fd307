use Rattle.lnfs_checkpoint.proofs.Lasts.{each_length}
use Rattle.lnfs_checkpoint.proofs.telling.lock_rows_of.Goals as goal

pub returns-clause-each : goal.returns-clause-each
returns-clause-each c = each_length c.args.levels c.in_ok-last_numbers.field-0.items c.args.locks.now.lasts c.in_ok-last_numbers.ensures
