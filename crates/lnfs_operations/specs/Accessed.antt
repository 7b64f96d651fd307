-- The time of access, which only those set that are at the label of what they read: whoever reads from above leaves no
-- trace.
use Rattle.std.specs.Prelude.{◌==◌, cond, List, [], ◌∷◌}
use Rattle.lnfs_world.specs.World.{Node}
use Rattle.lnfs_world.specs.Change.{Change, Touch}
use Rattle.lnfs_world.specs.Outcome.{Place}

abbrev pub accessed : Place → Node → List Change
accessed p n = cond (p.subject == n.label) (Touch n.id (record n.inner { accessed = p.moment }) ∷ []) []
