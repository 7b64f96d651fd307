use Rattle.lnfs_requests.proofs.Again.{is_again}
use Rattle.lnfs_requests.proofs.writing.write_compound.Goals as goal

pub returns-clause-again : goal.returns-clause-again
returns-clause-again c = is_again c.args.c.now c.text_of.result c.requires c.text_of.ensures
