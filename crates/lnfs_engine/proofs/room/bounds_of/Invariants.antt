use Rattle.std.proofs.Common.{◌≡◌, ◌≤◌, ◌*◌, take}
use Rattle.std.specs.Prelude.{sum_by}
use Rattle.lnfs_results.specs.Answering.{op_bound}
use Rattle.lnfs_engine.proofs.room.bounds_of.Given as goal

abbrev pub invariant-loop-op : goal.invariant-loop-op
invariant-loop-op g l = (l.bounds ≡ sum_by (op_bound g.E.ExtraGrammar.grammar) (take l.op-index l.ops)) × (l.bounds ≤ l.op-index * 4294967295)
