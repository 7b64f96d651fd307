use Rattle.std.proofs.Common.{Option, subst}
use Rattle.std.specs.Prelude.{Result}
use Rattle.std.specs.Option.{option_map}
use Rattle.lnfs_operations.specs.declared.Refusal.{Refusal}
use Rattle.lnfs_tree.specs.Changed.{gone_of}
use Rattle.lnfs_tree.specs.declared.node.Info.{Info}
use Rattle.lnfs_tree.specs.declared.node.Dropped.{Dropped}
use Rattle.lnfs_engine.specs.Counts.{TakenFrom}
use Rattle.lnfs_engine.proofs.Counting.{many_counts}
use Rattle.lnfs_engine.proofs.names.take_removed.Goals as goal

pub returns-in-Err-clause-counts : goal.returns-in-Err-clause-counts
returns-in-Err-clause-counts c = λ before after counts taken.
    many_counts c.args.quota.now before after counts
    (subst (λ (told : Result (Info × Option Dropped) Refusal). TakenFrom (λ r. option_map gone_of r.1) told before after) c.in-Err.is taken)
