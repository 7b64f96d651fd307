use Rattle.std.proofs.Common.{ap, ◌||◌, ◌∙◌}
use Rattle.std.specs.Prelude.{is_some}
use Rattle.lnfs_locking.specs.Keys.{id_of}
use Rattle.lnfs_locking.specs.Groups.{place_of, holds}
use Rattle.lnfs_locking.proofs.Places.{place_same, some_set}
use Rattle.lnfs_locking.proofs.groups.Groups.enter.Goals as goal

pub returns-clause-entered : goal.returns-clause-entered
returns-clause-entered c = λ g i.
    ap is_some (c.in_ok-insert.ensures.updates.0 (place_of g i))
    ∙ some_set tt _ _
    ∙ ap (λ b. b || holds c.args.self.now g i) (place_same (id_of c.args.group) (id_of c.args.id) g i)
