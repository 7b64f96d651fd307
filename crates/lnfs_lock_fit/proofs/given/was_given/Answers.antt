use Rattle.std.proofs.Common.{sym, arith}
use Rattle.lnfs_rows.specs.Told.{id_of}
use Rattle.lnfs_fit.proofs.Fitting.{given_within, given_past}
use Rattle.lnfs_lock_fit.proofs.given.was_given.Goals as goal

pub returns-then-level-last : goal.returns-then-level-last
returns-then-level-last c = sym (given_within c.args.last.now (id_of c.args.id))

pub returns-else-level-last : goal.returns-else-level-last
returns-else-level-last c = given_past c.args.last.now (id_of c.args.id) (omega arith)
