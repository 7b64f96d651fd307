use Rattle.std.proofs.Common.{rules, ◌∙◌}
use Rattle.lnfs_stage.proofs.Doing.{does_short, put_as}
use Rattle.lnfs_commands.proofs.texts.migrate.Goals as goal

pub returns-in_err-text : goal.returns-in_err-text
returns-in_err-text g c = does_short _ _ (search rules)

pub returns : goal.returns
returns g c = put_as (c.deref.ensures.value ∙ c.in_ok-text.ensures.lines) c.put_text.ensures.does
