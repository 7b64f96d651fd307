use Rattle.std.proofs.Common.{ℕ, ◌<◌}
use Rattle.lnfs_step.specs.ContextBounds.{HasParent}
use Rattle.lnfs_sound.specs.RowsOf.{contexts_of, nth_context}
use Rattle.lnfs_checkpoint.proofs.fit.each_has_parent.Given as goal

abbrev pub invariant-loop-place : goal.invariant-loop-place
invariant-loop-place l = (k : ℕ) → k < l.place → HasParent l.policy (nth_context (contexts_of l.rows) k)
