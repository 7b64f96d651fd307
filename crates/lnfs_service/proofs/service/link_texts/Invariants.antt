use Rattle.std.proofs.Common.{◌≡◌, map, take}
use Rattle.std.specs.Prelude.{string_bytes}
use Rattle.lnfs_service.specs.Session.{link_lines}
use Rattle.lnfs_service.proofs.service.link_texts.Given as goal

abbrev pub invariant-loop-number : goal.invariant-loop-number
invariant-loop-number g l = map string_bytes l.texts.items ≡ link_lines 0 (take l.number l.ends)
