use Rattle.lnfs_client.proofs.Suiting.{started_suits, begun_suits}
use Rattle.lnfs_client.proofs.laws.beginning.Goals as goal

pub returns-clause-start : goal.returns-clause-start
returns-clause-start c = started_suits

pub returns-clause-begun : goal.returns-clause-begun
returns-clause-begun c = begun_suits
