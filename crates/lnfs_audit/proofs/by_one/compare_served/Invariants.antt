use Rattle.std.proofs.Common.{◌≡◌, take}
use Rattle.lnfs_audit.specs.Replies.{answers_to}
use Rattle.lnfs_audit.proofs.Compared.{AreSame}
use Rattle.lnfs_audit.proofs.by_one.compare_served.Given as goal

-- the vault was given the events before, and their answers are the records before
abbrev pub invariant-loop-index : goal.invariant-loop-index
invariant-loop-index g l = record {
  policy : l.vault.policy ≡ l.initial.vault.policy;
  journal : l.vault.journal ≡ take l.index l.events;
  same : AreSame (answers_to g.X.ExtraRows.extra g.M.Mechanism.signing l.initial.vault.policy l.events) l.records l.index l.at;
}
