use Rattle.std.proofs.Common.{rules, ◌∙◌}
use Rattle.lnfs_stage.proofs.Doing.{does_nothing, line_as}
use Rattle.lnfs_commands.specs.Lines.{text_at_place}
use Rattle.lnfs_service.proofs.Lines.{lines_short, lines_next, lines_stop, lines_whole}
use Rattle.lnfs_service.proofs.service.put_lines.Goals as goal

pub loop-line-init : goal.loop-line-init
loop-line-init g c = does_nothing tt _

pub returns-in_err-text-clause-does : goal.returns-in_err-text-clause-does
returns-in_err-text-clause-does g c = lines_short text_at_place c.args.lines.now c.loop-line.line-index c.loop-line.invariant (search rules)

pub returns-in_err-put_line-clause-does : goal.returns-in_err-put_line-clause-does
returns-in_err-put_line-clause-does g c =
    lines_stop text_at_place c.args.lines.now c.loop-line.line-index c.loop-line.invariant c.line-item.result c.loop-line-test.true c.line-item.is _ (search rules)
    (line_as (c.deref.ensures.value ∙ c.in_ok-text.ensures) c.in_err-put_line.ensures.does)

pub loop-line-preserved : goal.loop-line-preserved
loop-line-preserved g c =
    lines_next text_at_place c.args.lines.now c.loop-line.line-index c.loop-line.invariant c.line-item.result c.loop-line-test.true c.line-item.is _
    (line_as (c.deref.ensures.value ∙ c.in_ok-text.ensures) c.in_ok-put_line.ensures.does)

pub returns-clause-does : goal.returns-clause-does
returns-clause-does g c = lines_whole text_at_place c.args.lines.now c.loop-line.line-index c.loop-line.invariant c.loop-line-test.false
