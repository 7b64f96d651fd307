-- The tests of the current file handle, of labels and of a state id, before an operation on one file.
use Rattle.lnfs_arguments.specs.declared.stateid.StateId.{StateId}
use Rattle.lnfs_world.specs.World.{Node, World}
use Rattle.lnfs_world.specs.Outcome.{Site, Place, Outcome}
use Rattle.lnfs_operations.specs.Chain.{Answer}
use Rattle.lnfs_operations.specs.Judged.{where_allowed}
use Rattle.lnfs_operations.specs.Handles.{with_current}
use Rattle.lnfs_operations.specs.StateIds.{Way, where_usable}
use Rattle.lnfs_files.specs.Uses.{asks_of}
use Rattle.lnfs_sparse_ops.specs.Regions.{where_ordinary}

-- what follows on a node that is found
abbrev pub where_used : {R : Type 0} → Site → Place → World → StateId → Way → Node → Outcome (Answer R) → Outcome (Answer R)
where_used site p w id way n next =
    where_ordinary p n (
    where_allowed site p (asks_of way n.label) (
    where_usable site p w n id way next))

abbrev pub where_ready : {R : Type 0} → Site → Place → World → StateId → Way → (Node → Outcome (Answer R)) → Outcome (Answer R)
where_ready site p w id way next = with_current p w (λ n. where_used site p w id way n (next n))
