use Rattle.std.proofs.Common.{◌≡◌}
use Rattle.lnfs_audit.specs.Filled.{AreServed}
use Rattle.lnfs_audit.proofs.filling.serve_all.Given as goal

-- the answers to the events of the levels below are there
abbrev pub invariant-loop-number : goal.invariant-loop-number
invariant-loop-number g l = record {
  policy : l.passed.policy ≡ l.fn.first.policy;
  served : AreServed g.X.ExtraRows.extra g.M.Mechanism.signing l.fn.first.policy l.events l.number l.replies;
}
