use Rattle.lnfs_attrs.proofs.Tables.{all_listed}
use Rattle.lnfs_attrs.proofs.asked.supported.Goals as goal

pub returns : goal.returns
returns c = all_listed _ _ _ c.of_words.ensures c.is_within.ensures
