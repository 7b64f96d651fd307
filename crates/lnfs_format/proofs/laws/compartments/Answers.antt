use Rattle.lnfs_format.proofs.CompLaws.{comps_read, comps_taken}
use Rattle.lnfs_format.proofs.laws.compartments.Goals as goal

pub returns-clause-read_back : goal.returns-clause-read_back
returns-clause-read_back c = comps_read

pub returns-clause-written_back : goal.returns-clause-written_back
returns-clause-written_back c = comps_taken
