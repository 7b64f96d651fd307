use Rattle.std.proofs.Common.{◌≡◌, ◌∙◌}
use Rattle.std.proofs.lemmas.Result.{IfOk-weaker}
use Rattle.lnfs_world.specs.World.{Node}
use Rattle.lnfs_world.specs.Outcome.{Place}
use Rattle.lnfs_site.specs.Site.{site_of}
use Rattle.lnfs_operations.specs.Shown.{label_shown}
use Rattle.lnfs_world.specs.Given.{stored_of}
use Rattle.lnfs_world.specs.declared.stored.Stored.{Stored}
use Rattle.lnfs_nodes.specs.Trees.{Holds}
use Rattle.lnfs_nodes.proofs.creating.copied_of.Goals as goal

pub returns : goal.returns
returns c =
    IfOk-weaker c.copied.result
    (λ (copy : Stored). stored_of copy ≡ stored_of c.label_shown.result.now)
    (λ (copy : Stored). (d : Node) (p : Place) → Holds c.args.tree.now d c.args.dir.now → stored_of copy ≡ label_shown (site_of c.args.site.now) (record p { subject = c.args.subject.0 }) d)
    (λ copy is. λ d p holds. is ∙ c.label_shown.ensures d p holds) c.copied.ensures
