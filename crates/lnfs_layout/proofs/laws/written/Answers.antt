use Rattle.lnfs_layout.proofs.Alone.{told_alone}
use Rattle.lnfs_layout.proofs.WrittenAgain.{world_again, written_again}
use Rattle.lnfs_layout.proofs.laws.written.Goals as goal

pub returns-clause-lists : goal.returns-clause-lists
returns-clause-lists c = written_again

pub returns-clause-world : goal.returns-clause-world
returns-clause-world c = world_again

pub returns-clause-alone : goal.returns-clause-alone
returns-clause-alone c = told_alone
