use Rattle.std.proofs.Common.{rules, ◌∙◌, ap, unwrap_or, []}
use Rattle.lnfs_commands.specs.Events.{framed}
use Rattle.lnfs_commands.proofs.Lines.{audit_is_line}
use Rattle.lnfs_stage.proofs.Doing.{does_short, write_stop, write_then, put_as, line_as}
use Rattle.lnfs_commands.proofs.replay.serve_event.Goals as goal

pub returns-in_err-served-clause-does : goal.returns-in_err-served-clause-does
returns-in_err-served-clause-does g c = does_short _ _ (search rules)

pub returns-in_err-line-clause-does : goal.returns-in_err-line-clause-does
returns-in_err-line-clause-does g c = does_short _ _ (search rules)

pub returns-in_err-put_text-clause-does : goal.returns-in_err-put_text-clause-does
returns-in_err-put_text-clause-does g c =
    write_stop _ (search rules) (put_as (c.deref.ensures.value ∙ c.frame-bytes.ensures ∙ ap framed c.in_ok-served.ensures.answer) c.in_err-put_text.ensures.does)

pub returns-clause-does : goal.returns-clause-does
returns-clause-does g c =
    let line = audit_is_line _ _ _ _ _ _ c.in_ok-served.ensures.line in
    write_then _ (put_as (c.deref.ensures.value ∙ c.frame-bytes.ensures ∙ ap framed c.in_ok-served.ensures.answer) c.in_ok-put_text.ensures.does)
    (line_as (c.deref-2.ensures.value ∙ c.in_ok-line.ensures ∙ ap (λ l. unwrap_or l []) line) c.put_line.ensures.does)
