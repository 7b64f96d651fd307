use Rattle.std.proofs.Common.{◌≡◌, take}
use Rattle.lnfs_step.specs.Purged.{purged}
use Rattle.lnfs_audit.specs.Replies.{answers_to}
use Rattle.lnfs_audit.specs.Filled.{AreFilled, level_at}
use Rattle.lnfs_audit.proofs.Filled.{IsServed}
use Rattle.lnfs_audit.proofs.filling.serve_dominated.Given as goal

-- the vault was given the events before whose level the level dominates, and the replies to its own are there
abbrev pub invariant-loop-index : goal.invariant-loop-index
invariant-loop-index g l = record {
  policy : l.vault.policy ≡ l.initial.vault.policy;
  journal : l.vault.journal ≡ purged g.M.Mechanism.signing l.initial.vault.policy (take l.index l.events) l.level.0;
  filled : AreFilled (IsServed (level_at g.M.Mechanism.signing l.initial.vault.policy l.events) l.level.0 l.index) (answers_to g.X.ExtraRows.extra g.M.Mechanism.signing l.initial.vault.policy l.events) l.replies;
}
