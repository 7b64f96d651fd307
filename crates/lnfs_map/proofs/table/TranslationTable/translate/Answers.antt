use Rattle.std.proofs.Common.{ap, ◌∙◌, not}
use Rattle.std.proofs.lemmas.Result.{err_from_is_err_and}
use Rattle.lnfs_map.specs.Translated.{translated}
use Rattle.lnfs_map.proofs.Steps.{still_some, still_none, no_target, unread, unwritten, all_done}
use Rattle.lnfs_map.proofs.table.TranslationTable.translate.Goals as goal

pub returns-then-is_none : goal.returns-then-is_none
returns-then-is_none g c = no_target _ _ _ _ _ (still_none _ c.entry.result _ c.entry.ensures (c.is_none.ensures ∙ ap not c.if-is_none.true))

pub returns-in_err-level : goal.returns-in_err-level
unfolding translated
returns-in_err-level g c =
    let p = err_from_is_err_and c.from_residual.result c.from_residual.ensures.1 in
    rw (p.1, p.2) (unread c.in_err-level.field-0.0 _ _ _ (still_some _ c.entry.result _ c.entry.ensures (c.is_none.ensures ∙ ap not c.if-is_none.false)) c.in_err-level.ensures.read)

pub returns-in_err-text : goal.returns-in_err-text
unfolding translated
returns-in_err-text g c =
    let p = err_from_is_err_and c.from_residual-in_err-text.result c.from_residual-in_err-text.ensures.1 in
    rw (p.1, p.2) (unwritten c.in_err-text.field-0.0 _ _ _ c.in_ok-level.level.0 (still_some _ c.entry.result _ c.entry.ensures (c.is_none.ensures ∙ ap not c.if-is_none.false)) c.in_ok-level.ensures.read c.in_err-text.ensures)

pub returns : goal.returns
unfolding translated
returns g c = all_done _ _ _ c.in_ok-level.level.0 _ (still_some _ c.entry.result _ c.entry.ensures (c.is_none.ensures ∙ ap not c.if-is_none.false)) c.in_ok-level.ensures.read c.in_ok-text.ensures
