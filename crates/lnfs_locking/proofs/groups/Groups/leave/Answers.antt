use Rattle.std.proofs.Common.{ap, ◌&&◌, not, ◌∙◌}
use Rattle.std.specs.Prelude.{is_some}
use Rattle.lnfs_locking.specs.Keys.{id_of}
use Rattle.lnfs_locking.specs.Groups.{place_of, holds}
use Rattle.lnfs_locking.proofs.Places.{place_same, some_left}
use Rattle.lnfs_locking.proofs.groups.Groups.leave.Goals as goal

pub returns : goal.returns
returns c = λ g i.
    ap is_some (c.remove.ensures.updates.0 (place_of g i))
    ∙ some_left _ _
    ∙ ap (λ b. not b && holds c.args.self.now g i) (place_same (id_of c.args.group) (id_of c.args.id) g i)
