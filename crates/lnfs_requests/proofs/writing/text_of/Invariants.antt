use Rattle.std.proofs.Common.{◌≡◌, ◌++◌, take}
use Rattle.std.specs.List.{flat_map}
use Rattle.lnfs_xdr.specs.Canon.{word, opaque}
use Rattle.lnfs_requests.specs.Texts.{op_text}
use Rattle.lnfs_requests.proofs.writing.text_of.Given as goal

abbrev pub invariant-loop-op : goal.invariant-loop-op
invariant-loop-op l = l.out ≡ opaque l.c.tag ++ word l.c.minor ++ word l.c.count ++ flat_map op_text (take l.op-index l.c.ops)
