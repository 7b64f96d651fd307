use Rattle.lnfs_format.proofs.KindLaws.{written_back, read_back}
use Rattle.lnfs_format.proofs.laws.formats.Goals as goal

pub returns-clause-written_back : goal.returns-clause-written_back
returns-clause-written_back c = written_back c.bodies.ensures.written_back

pub returns-clause-read_back : goal.returns-clause-read_back
returns-clause-read_back c = read_back c.bodies.ensures.read_back
