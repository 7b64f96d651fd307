use Rattle.lnfs_nodes.proofs.AnsweredLists.{no_label}
use Rattle.lnfs_nodes.proofs.masks.answered_to.Goals as goal

pub units_of-units-requires : goal.units_of-units-requires
units_of-units-requires c = no_label c.mask_of-mask.result c.sized_of-sized.result c.sized_of-sized.ensures
