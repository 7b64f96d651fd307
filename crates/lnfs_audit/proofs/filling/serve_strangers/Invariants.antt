use Rattle.std.proofs.Common.{◌≡◌}
use Rattle.lnfs_audit.specs.Replies.{answers_to}
use Rattle.lnfs_audit.specs.Filled.{AreFilled, level_at}
use Rattle.lnfs_audit.proofs.Filled.{IsStranger}
use Rattle.lnfs_audit.proofs.filling.serve_strangers.Given as goal

-- the replies to the events before that have no level are there
abbrev pub invariant-loop-index : goal.invariant-loop-index
invariant-loop-index g l = record {
  policy : l.passed.policy ≡ l.fn.passed.policy;
  filled : AreFilled (IsStranger (level_at g.M.Mechanism.signing l.fn.passed.policy l.events) l.index) (answers_to g.X.ExtraRows.extra g.M.Mechanism.signing l.fn.passed.policy l.events) l.replies;
}
