use Rattle.std.proofs.Common.{rules, ◌∙◌, ap}
use Rattle.lnfs_stage.proofs.Doing.{does_short, put_as}
use Rattle.lnfs_auditing.specs.Audits.{finding_line}
use Rattle.lnfs_auditing.proofs.Auditing.{found_short}
use Rattle.lnfs_auditing.proofs.judge.show.Goals as goal

pub returns-in_err-finding : goal.returns-in_err-finding
returns-in_err-finding g c = does_short _ _ (found_short c.in_err-finding.field-0.0 (search rules) c.in_err-finding.ensures)

pub returns-in_err-line : goal.returns-in_err-line
returns-in_err-line g c = does_short _ _ (search rules)

pub returns : goal.returns
returns g c = put_as (c.as_bytes.ensures.value ∙ c.in_ok-line.ensures ∙ ap finding_line c.in_ok-finding.ensures) c.put_text.ensures.does
