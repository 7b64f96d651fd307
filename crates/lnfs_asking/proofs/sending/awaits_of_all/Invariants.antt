use Rattle.std.proofs.Common.{◌≡◌, ◌++◌, map, drop}
use Rattle.lnfs_answers.specs.Asking.{awaits_of}
use Rattle.lnfs_asking.proofs.sending.awaits_of_all.Given as goal

-- what is awaited so far, and of the operations that are left
abbrev pub invariant-loop-op : goal.invariant-loop-op
invariant-loop-op l = l.awaited.items ++ map awaits_of (drop l.op-index l.ops) ≡ map awaits_of l.ops
