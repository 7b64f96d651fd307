use Rattle.std.proofs.Common.{rules, ◌∙◌}
use Rattle.lnfs_stage.proofs.Doing.{write_stop, write_then, put_as}
use Rattle.lnfs_checkpointing.proofs.serving.show.Goals as goal

pub returns-in_err-put_text-in-ReplyAndLine : goal.returns-in_err-put_text-in-ReplyAndLine
returns-in_err-put_text-in-ReplyAndLine g c = rw c.in-ReplyAndLine.is (write_stop _ (search rules) (put_as (c.deref.ensures.value ∙ c.frame-bytes.ensures) c.in_err-put_text-in-ReplyAndLine.ensures.does))

pub returns-in_ok-put_text-in-ReplyAndLine : goal.returns-in_ok-put_text-in-ReplyAndLine
returns-in_ok-put_text-in-ReplyAndLine g c = rw c.in-ReplyAndLine.is (write_then _ (put_as (c.deref.ensures.value ∙ c.frame-bytes.ensures) c.in_ok-put_text-in-ReplyAndLine.ensures.does) c.put_line-in-ReplyAndLine.ensures.does)
