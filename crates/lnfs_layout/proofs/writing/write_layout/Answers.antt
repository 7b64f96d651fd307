use Rattle.lnfs_layout.proofs.WrittenAgain.{is_again}
use Rattle.lnfs_layout.proofs.writing.write_layout.Goals as goal

pub returns-clause-again : goal.returns-clause-again
returns-clause-again c = is_again c.args.levels c.args.digest.now c.args.events c.args.lists.now c.args.locks.now c.text_of.result c.told-digest c.text_of.ensures.text c.text_of.ensures.fits c.text_of.ensures.locks_fit
