use Rattle.std.proofs.Common.{rules, ap, ◌++◌, ◌∷◌, [], ◌∙◌}
use Rattle.lnfs_stage.proofs.Doing.{does_short, put_as}
use Rattle.lnfs_commands.proofs.texts.show_hex.Goals as goal

pub returns-in_err-text : goal.returns-in_err-text
returns-in_err-text g c = does_short _ _ (search rules)

pub returns-in_err-push_str : goal.returns-in_err-push_str
returns-in_err-push_str g c = does_short _ _ (search rules)

pub returns : goal.returns
returns g c = put_as (c.as_bytes.ensures.value ∙ c.in_ok-push_str.ensures.bytes ∙ ap (λ text. text ++ 10 ∷ []) c.in_ok-text.ensures) c.put_text.ensures.does
