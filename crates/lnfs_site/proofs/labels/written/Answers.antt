use Rattle.lnfs_world.specs.Given.{stored_of}
use Rattle.lnfs_site.specs.Site.{spelling}
use Rattle.lnfs_site.proofs.Spelled.{one_more}
use Rattle.lnfs_site.proofs.labels.written.Goals as goal

pub loop-number-preserved : goal.loop-number-preserved
loop-number-preserved g c =
    one_more stored_of (spelling c.args.policy.now) c.loop-number.rows.items c.push.new.self.items c.in_ok-spell.field-0 c.loop-number.number
    c.loop-number.invariant c.in_ok-push.ensures.items c.in_ok-spell.ensures
