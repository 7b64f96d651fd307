use Rattle.std.proofs.Common.{◌&&◌, map, ap, ◌∙◌}
use Rattle.std.specs.Prelude.{◌==◌, find}
use Rattle.lnfs_world.specs.World.{same_id}
use Rattle.lnfs_open.specs.Listed.{node_id}
use Rattle.lnfs_locks.specs.Locks as kept
use Rattle.lnfs_locking.specs.Keys.{id_of}
use Rattle.lnfs_locking.specs.Rows.{entry_of}
use Rattle.lnfs_locking.proofs.Naming.{named_one}
use Rattle.lnfs_locking.proofs.locks.Locks.named.Goals as goal

pub returns : goal.returns
returns c =
    let i = id_of c.args.id in
    c.chosen.ensures
    ∙ (named_one i (λ l. l.client == c.args.client && same_id (node_id c.args.node) l.node) (map entry_of c.self.inside.rows.entries) c.self.invariant.indexed.rise
    ∙ ap (λ (k : kept.Locks). find (λ l. same_id i l.id && (l.client == c.args.client && same_id (node_id c.args.node) l.node)) k.locks) c.self.view_is)
