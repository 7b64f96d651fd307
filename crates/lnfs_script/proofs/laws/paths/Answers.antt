use Rattle.lnfs_script.proofs.Named.{few, all, some, below, spelled}
use Rattle.lnfs_script.proofs.laws.paths.Goals as goal

pub returns-clause-few : goal.returns-clause-few
returns-clause-few c = few

pub returns-clause-names : goal.returns-clause-names
returns-clause-names c = all

pub returns-clause-some : goal.returns-clause-some
returns-clause-some c = some

pub returns-clause-below : goal.returns-clause-below
returns-clause-below c = below

pub returns-clause-spelled : goal.returns-clause-spelled
returns-clause-spelled c = spelled
