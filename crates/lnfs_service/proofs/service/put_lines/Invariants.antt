use Rattle.std.proofs.Common.{map, take}
use Rattle.std.specs.Prelude.{Ok}
use Rattle.lnfs_stage.specs.Writes.{to_audit}
use Rattle.lnfs_stage.specs.Due.{written}
use Rattle.lnfs_stage.specs.Does.{Does}
use Rattle.lnfs_commands.specs.Lines.{text_at_place}
use Rattle.lnfs_service.proofs.service.put_lines.Given as goal

-- the lines so far were taken
abbrev pub invariant-loop-line : goal.invariant-loop-line
invariant-loop-line g l = Does {T = Unit {0}} (Ok tt) (g.O.Outside.seen l.initial.outside) (g.O.Outside.seen l.outside) (written (map to_audit (map text_at_place (take l.line-index l.lines))))
