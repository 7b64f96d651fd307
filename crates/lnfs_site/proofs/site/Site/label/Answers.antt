use Rattle.std.proofs.Common.{◌∙◌}
use Rattle.lnfs_site.proofs.Spelled.{label_spelled}
use Rattle.lnfs_site.proofs.site.Site.label.Goals as goal

pub returns : goal.returns
returns c =
    c.get.ensures.value
    ∙ label_spelled c.self.inside.policy.now c.args.self.now c.self.inside.labels.now c.args.level.0 c.self.invariant c.get.ensures.some c.self.view_is
