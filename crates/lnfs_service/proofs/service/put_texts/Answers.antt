use Rattle.std.proofs.Common.{rules}
use Rattle.std.specs.Prelude.{string_bytes}
use Rattle.lnfs_stage.proofs.Doing.{does_nothing, line_as}
use Rattle.lnfs_service.proofs.Lines.{lines_next, lines_stop, lines_whole}
use Rattle.lnfs_service.proofs.service.put_texts.Goals as goal

pub loop-text-init : goal.loop-text-init
loop-text-init g c = does_nothing tt _

pub returns-in_err-put_line-clause-does : goal.returns-in_err-put_line-clause-does
returns-in_err-put_line-clause-does g c =
    lines_stop string_bytes c.args.texts.now c.loop-text.text-index c.loop-text.invariant c.text-item.result c.loop-text-test.true c.text-item.is _ (search rules)
    (line_as c.as_bytes.ensures.value c.in_err-put_line.ensures.does)

pub loop-text-preserved : goal.loop-text-preserved
loop-text-preserved g c =
    lines_next string_bytes c.args.texts.now c.loop-text.text-index c.loop-text.invariant c.text-item.result c.loop-text-test.true c.text-item.is _
    (line_as c.as_bytes.ensures.value c.in_ok-put_line.ensures.does)

pub returns-clause-does : goal.returns-clause-does
returns-clause-does g c = lines_whole string_bytes c.args.texts.now c.loop-text.text-index c.loop-text.invariant c.loop-text-test.false
