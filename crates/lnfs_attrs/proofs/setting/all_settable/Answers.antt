use Rattle.lnfs_attrs.proofs.Tables.{all_settable}
use Rattle.lnfs_attrs.proofs.setting.all_settable.Goals as goal

pub returns : goal.returns
returns c = all_settable _ _ _ c.of_words.ensures c.is_within.ensures
