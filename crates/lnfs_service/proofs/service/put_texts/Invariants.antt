use Rattle.std.proofs.Common.{map, take}
use Rattle.std.specs.Prelude.{Ok, string_bytes}
use Rattle.lnfs_stage.specs.Writes.{to_audit}
use Rattle.lnfs_stage.specs.Due.{written}
use Rattle.lnfs_stage.specs.Does.{Does}
use Rattle.lnfs_service.proofs.service.put_texts.Given as goal

-- the lines so far were taken
abbrev pub invariant-loop-text : goal.invariant-loop-text
invariant-loop-text g l = Does {T = Unit {0}} (Ok tt) (g.O.Outside.seen l.initial.outside) (g.O.Outside.seen l.outside) (written (map to_audit (map string_bytes (take l.text-index l.texts))))
