use Rattle.std.proofs.Common.{length}
use Rattle.lnfs_commands.proofs.Classes.{Listed}
use Rattle.lnfs_commands.proofs.words.classes_of.Given as goal

-- the parts that were read, and those that are left
abbrev pub invariant-loop-part : goal.invariant-loop-part
invariant-loop-part l = Listed l.fn.word l.classes.items l.parts

abbrev pub decreases-loop-part : goal.decreases-loop-part
decreases-loop-part l = length l.parts
