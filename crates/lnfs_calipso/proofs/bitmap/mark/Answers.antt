use Rattle.std.proofs.Common.{◌-◌, ◌*◌, ◌%◌, ◌^◌}
use Rattle.lnfs_calipso.proofs.Marks.{marks, marked-higher, marked-used}
use Rattle.lnfs_calipso.proofs.bitmap.mark.Goals as goal

pub returns-clause-marked : goal.returns-clause-marked
returns-clause-marked c = λ k. rw c.from.ensures (marks c.args.words.now c.args.comp k c.requires)

pub returns-clause-higher : goal.returns-clause-higher
returns-clause-higher c = λ k. rw c.from.ensures (marked-higher c.args.words.now c.args.comp k (1 * 2 ^ (31 - c.args.comp % 32) % 2 ^ 32) c.requires)

pub returns-clause-used : goal.returns-clause-used
returns-clause-used c = rw c.from.ensures (marked-used c.args.words.now c.args.comp c.requires)
