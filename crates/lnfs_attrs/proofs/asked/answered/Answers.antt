use Rattle.std.proofs.Common.{◌∙◌}
use Rattle.lnfs_attrs.proofs.Tables.{whole_mask, outer_mask}
use Rattle.lnfs_attrs.proofs.asked.answered.Goals as goal

pub returns-then-inner : goal.returns-then-inner
returns-then-inner c = λ n. rw c.if-inner.true (c.both.ensures n ∙ whole_mask c.args.asked.now c.of_words.result n c.of_words.ensures)

pub returns-else-inner : goal.returns-else-inner
returns-else-inner c = λ n. rw c.if-inner.false (c.both-else-inner.ensures n ∙ outer_mask c.args.asked.now c.of_words-else-inner.result n c.of_words-else-inner.ensures)
