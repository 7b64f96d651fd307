use Rattle.std.proofs.Common.{◌≡◌, ◌++◌, take}
use Rattle.std.specs.List.{flat_map}
use Rattle.lnfs_attrs.specs.Attributes.{attr_text}
use Rattle.lnfs_attrs.proofs.asked.put_all.Given as goal

abbrev pub invariant-loop-number : goal.invariant-loop-number
invariant-loop-number l = l.out ≡ l.fn.out ++ flat_map (attr_text l.asked l.view l.inner) (take l.number-index l.numbers)
