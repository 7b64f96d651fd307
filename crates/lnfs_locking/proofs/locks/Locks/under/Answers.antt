use Rattle.std.proofs.Common.{◌&&◌, map, ap, ◌∙◌}
use Rattle.std.specs.Prelude.{◌==◌, find}
use Rattle.std.specs.Str.{bytes_eq}
use Rattle.lnfs_world.specs.World.{same_id}
use Rattle.lnfs_locks.specs.Locks as kept
use Rattle.lnfs_locks.specs.Locks.{opening_id}
use Rattle.lnfs_locking.specs.declared.keys.Key.{Key}
use Rattle.lnfs_locking.specs.Keys.{id_of}
use Rattle.lnfs_locking.specs.Rows.{entry_of}
use Rattle.lnfs_locking.specs.Walks.{from_on}
use Rattle.lnfs_locking.proofs.Naming.{find_agree, under_one}
use Rattle.lnfs_locking.proofs.locks.Locks.under.Goals as goal

pub returns : goal.returns
returns c =
    let locks = map entry_of c.self.inside.rows.entries in
    c.first_from.ensures
    ∙ (ap (λ (k : Key). find (from_on (id_of k) (λ l. c.args.opening == l.opening && bytes_eq l.owner c.args.owner.now)) locks) c.level_front.ensures
    ∙ (find_agree _ _ locks (λ l. under_one c.args.level c.args.opening (λ o. bytes_eq o c.args.owner.now) l)
    ∙ ap (λ (k : kept.Locks). find (λ l. same_id (record { level = c.args.level; number = c.args.opening }) (opening_id l) && bytes_eq l.owner c.args.owner.now) k.locks) c.self.view_is))
