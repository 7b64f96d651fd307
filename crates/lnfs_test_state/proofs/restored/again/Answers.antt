use Rattle.std.proofs.Common.{◌≡◌, map, ap, ◌∙◌, arith}
use Rattle.lnfs_rows.specs.Told.{node_of, entry_of}
use Rattle.lnfs_tree.proofs.Restored.{told_again}
use Rattle.lnfs_test_state.proofs.restored.again.Goals as goal

pub from_rows-requires : goal.from_rows-requires
from_rows-requires c = record { makes = told_again c.args.tree.now c.requires _ _ _ c.args.levels (ap (map node_of) c.deref.ensures.value ∙ c.in_ok-nodes.ensures) (ap (map entry_of) c.deref-2.ensures.value ∙ c.in_ok-entries.ensures) (c.deref-3.ensures.value ∙ c.in_ok-numbers.ensures) (omega (arith, c.ranges.levels.fits)) }
