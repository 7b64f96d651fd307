use Rattle.std.proofs.Common.{◌∙◌}
use Rattle.lnfs_nodes.proofs.SizedTable.{sized_mask}
use Rattle.lnfs_nodes.proofs.masks.sized_of.Goals as goal

pub returns : goal.returns
returns c = λ n. c.both.ensures n ∙ sized_mask c.args.mask.now c.of_words.result n c.of_words.ensures
