use Rattle.std.proofs.Common.{rules, ◌∙◌}
use Rattle.lnfs_step.specs.Journal.{answer_with}
use Rattle.lnfs_stage.proofs.Doing.{does_short, put_as}
use Rattle.lnfs_commands.specs.Summary.{told}
use Rattle.lnfs_commands.specs.Events.{frames_after}
use Rattle.lnfs_commands.proofs.summary.sum_up.Goals as goal

pub returns-in_err-tally : goal.returns-in_err-tally
returns-in_err-tally g c = does_short _ _ (search rules)

pub returns-in_err-text : goal.returns-in_err-text
returns-in_err-text g c = does_short _ _ (search rules)

pub returns : goal.returns
returns g c =
    let vault = c.args.vault.now in
    let frames = frames_after (answer_with g.X.ExtraRows.extra g.M.Mechanism.signing vault.policy) vault.journal c.args.events.items in
    let came = c.in_ok-tally.ensures in
    put_as (c.deref.ensures.value ∙ c.in_ok-text.ensures frames came.frames ∙ (λ i. told ((c.len-number.ensures ∙ c.args.events.ok.0) i) (came.replies i) (came.failed i) frames)) c.put_text.ensures.does
