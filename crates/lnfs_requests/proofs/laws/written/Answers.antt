use Rattle.lnfs_requests.proofs.Again.{compound_told}
use Rattle.lnfs_requests.proofs.laws.written.Goals as goal

pub returns : goal.returns
returns c = compound_told
