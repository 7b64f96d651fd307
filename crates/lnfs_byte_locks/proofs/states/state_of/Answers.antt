use Rattle.std.proofs.Common.{◌∙◌, ap, sym}
use Rattle.lnfs_world.specs.World.{Id}
use Rattle.lnfs_operations.specs.Handles.{handle_of}
use Rattle.lnfs_locks.specs.StateIds.{told_id}
use Rattle.lnfs_byte_locks.proofs.states.state_of.Goals as goal

pub returns : goal.returns
returns c = λ l id seq.
    let other = c.told_of.ensures ∙ ap (λ (i : Id). handle_of (told_id i)) (sym id) in
    λ k. record { seqid = sym seq k; other = other k }
