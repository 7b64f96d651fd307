use Rattle.std.proofs.Common.{◌≡◌, ◌≤◌, ◌*◌, length, take, true}
use Rattle.std.specs.List.{flat_map}
use Rattle.lnfs_attrs.specs.declared.view.View.{View}
use Rattle.lnfs_attrs.specs.Attributes.{attr_text}
use Rattle.lnfs_attrs.specs.Sizes.{ViewFits}
use Rattle.lnfs_nodes.proofs.units.units_among.Given as goal

abbrev pub invariant-loop-number : goal.invariant-loop-number
invariant-loop-number l =
    ((v : View) → ViewFits v → length (flat_map (attr_text l.sized v true) (take l.number-index l.numbers)) ≡ 4 * l.units)
    × (l.units ≤ 4 * l.number-index)
