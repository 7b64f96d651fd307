use Rattle.std.proofs.Common.{arith}
use Rattle.lnfs_tree.proofs.LastNumbers.{last_is}
use Rattle.lnfs_tree.proofs.telling.last_number.Goals as goal

pub returns-in-Some : goal.returns-in-Some
returns-in-Some c = grind (arith, c.from.ensures, c.in-Some.ensures.value, last_is c.args.level c.args.lasts.now.entries)

pub returns-in-None : goal.returns-in-None
returns-in-None c = grind (arith, c.in-None.ensures.value, last_is c.args.level c.args.lasts.now.entries)
