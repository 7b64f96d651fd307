use Rattle.std.proofs.Common.{sym, subst}
use Rattle.lnfs_client.specs.Fits.{Suits}
use Rattle.lnfs_client.proofs.Taking.{ended_fits, taken, none_heard}
use Rattle.lnfs_client.proofs.client.Client.take_reply.Goals as goal

pub invariant_of-self : goal.invariant_of-self
invariant_of-self g c = ended_fits c.self.inside.known c.self.invariant

pub returns-in-Err : goal.returns-in-Err
returns-in-Err g c =
    let t = none_heard g.M.Mechanism.signing c.args.policy.now c.self.inside.known c.args.message.now c.self.invariant (subst (Suits c.args.policy.now) (sym c.self.view_is) c.requires.site) in
    rw (← c.self.view_is) (record { told = t.told; client = t.client; memory = t.memory; same_reply = t.same_reply; ended = t.ends.0; mounted = t.ends.1; site = t.goes.1 })

pub invariant_of-self-2 : goal.invariant_of-self-2
invariant_of-self-2 g c =
    (taken g.M.Mechanism.signing c.args.policy.now c.self.inside.known c.args.message.now c.in-Ok.heard c.take_heard.result c.take_heard.new.known c.self.invariant (subst (Suits c.args.policy.now) (sym c.self.view_is) c.requires.site) c.in-Ok.ensures c.take_heard.ensures).goes.0

pub returns : goal.returns
returns g c =
    let t = taken g.M.Mechanism.signing c.args.policy.now c.self.inside.known c.args.message.now c.in-Ok.heard c.take_heard.result c.take_heard.new.known c.self.invariant (subst (Suits c.args.policy.now) (sym c.self.view_is) c.requires.site) c.in-Ok.ensures c.take_heard.ensures in
    rw (← c.self.view_is) (record { told = t.told; client = t.client; memory = t.memory; same_reply = t.same_reply; ended = t.ends.0; mounted = t.ends.1; site = t.goes.1 })
