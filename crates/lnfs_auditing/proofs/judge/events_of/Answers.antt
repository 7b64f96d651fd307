use Rattle.std.proofs.Common.{ap}
use Rattle.lnfs_stage.specs.declared.ending.Ending.TheVariants.{TrafficDamaged}
use Rattle.lnfs_auditing.proofs.Fitting.{recorded_fit}
use Rattle.lnfs_auditing.proofs.judge.events_of.Goals as goal

pub returns-in-Ok : goal.returns-in-Ok
returns-in-Ok c =
    let r = c.in-Ok.ensures.whole in
    let w = (c.recordings.ensures.whole c.in-Ok.events.items).0 r in
    (w.0, w.1, recorded_fit c.in-Ok.events.items c.args.traffic.now r)

pub returns-in-Err-Damaged : goal.returns-in-Err-Damaged
returns-in-Err-Damaged c = let d = rw c.in-Err-Damaged.field-0-is at c.in-Err-Damaged.ensures.damaged in (d.0, ap TrafficDamaged d.1)
