use Rattle.lnfs_step.specs.Journal.{first_state}
use Rattle.lnfs_further.specs.Further.{further}
use Rattle.lnfs_checkpointing.proofs.Breaking.{resumed_is, lines_are, silent}
use Rattle.lnfs_checkpointing.proofs.laws.breaks.Goals as goal

pub returns-clause-resumed : goal.returns-clause-resumed
returns-clause-resumed c = λ p preorder a traffic. resumed_is p (λ journal event. c.purge.ensures.replies p preorder journal event) a (c.purge.ensures.facts p preorder a) traffic

pub returns-clause-lines : goal.returns-clause-lines
returns-clause-lines c = λ p events. lines_are p events

pub returns-clause-silent : goal.returns-clause-silent
returns-clause-silent c = λ p events. silent p 0 (first_state further p) events
