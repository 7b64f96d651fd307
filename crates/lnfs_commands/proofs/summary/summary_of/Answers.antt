use Rattle.std.proofs.Common.{◌++◌, ap, ◌∙◌}
use Rattle.std.specs.Prelude.{codes}
use Rattle.hex.specs.Hex.{encode_lower}
use Rattle.lnfs_commands.specs.Summary.{row}
use Rattle.lnfs_commands.proofs.Summing.{in_fours}
use Rattle.lnfs_commands.proofs.summary.summary_of.Goals as goal

pub returns : goal.returns
returns c = λ frames holds.
    in_fours _ _ _ _ c.new-text.ensures.items
    (c.in_ok-put_row.ensures ∙ ap (λ v. c.new-text.result.items ++ row (codes "events ") v) (c.deref.ensures.value ∙ c.in_ok-decimal.ensures))
    (c.in_ok-put_row-2.ensures ∙ ap (λ v. c.put_row.new.text.items ++ row (codes "replies ") v) (c.deref-2.ensures.value ∙ c.in_ok-decimal-2.ensures))
    (c.in_ok-put_row-3.ensures ∙ ap (λ v. c.put_row-2.new.text.items ++ row (codes "failed ") v) (c.deref-3.ensures.value ∙ c.in_ok-decimal-3.ensures))
    (c.in_ok-put_row-4.ensures ∙ ap (λ v. c.put_row-3.new.text.items ++ row (codes "digest ") v) (c.as_bytes.ensures.value ∙ c.in_ok-digest.ensures ∙ ap encode_lower (c.finalize.ensures frames holds)))
