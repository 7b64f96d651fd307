use Rattle.lnfs_operations.proofs.BitmapLaws.{bitmap_itself}
use Rattle.lnfs_nodes.proofs.given.set_of.Goals as goal

pub returns : goal.returns
returns c = bitmap_itself c.args.given.now.mask c.law_whole.ensures
