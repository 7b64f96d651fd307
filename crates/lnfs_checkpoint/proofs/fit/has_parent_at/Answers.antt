use Rattle.std.proofs.Common.{◌≡◌, true, subst}
use Rattle.std.specs.Prelude.{◌↔◌}
use Rattle.lnfs_step.specs.ContextBounds.{HasParent}
use Rattle.lnfs_checkpoint.proofs.fit.has_parent_at.Goals as goal

pub returns : goal.returns
returns c = subst (λ x. (c.has_parent.result ≡ true) ↔ HasParent c.args.policy.now x) c.row_at.ensures c.has_parent.ensures
