use Rattle.std.proofs.Common.{refl}
use Rattle.lnfs_talk.specs.Talks.{link_with}
use Rattle.lnfs_dialling.proofs.Dialling.{dials_refused, dials_talked, fewer_dealt, idle_talked}
use Rattle.lnfs_dialling.proofs.visit.dial.Goals as goal

pub returns-in_default-clause-dials : goal.returns-in_default-clause-dials
returns-in_default-clause-dials g c =
    let d = c.in_default.ensures in
    dials_refused _ _ _ _ _ refl d.dealt d.backs d.cause.failed d.cause.later

pub hang_up-requires : goal.hang_up-requires
hang_up-requires g c = record { given = fewer_dealt _ _ _ _ _ (g.met.N.Net.lent c.args.net.now) c.in-Ok.ensures.dealt c.dial.ensures.backs }

pub returns-clause-dials : goal.returns-clause-dials
returns-clause-dials g c =
    let new = c.in-Ok.link in
    let link = c.converse-talked.new.link in
    let fresh = c.in-Ok.ensures.fresh in
    let h = c.hang_up.ensures in
    rw h.dealt (dials_talked g.M.Mechanism.signing c.args.policy.now c.args.level.0 c.args.script.now c.converse-talked.result
    (g.O.Outside.seen c.args.outside.now) (g.O.Outside.seen c.converse-talked.new.outside)
    (record { class = c.args.script.now.class; left = g.N.L.Source.left new; taken = g.N.L.Sink.taken new })
    (link_with (g.N.L.Source.left link) (g.N.L.Sink.taken link) (g.N.L.Source.read_faults link) (g.N.L.Sink.write_faults link))
    refl fresh.nothing (rw (fresh.no_read, fresh.no_write) at c.converse-talked.ensures)
    c.in-Ok.ensures.dealt c.dial.ensures.backs h.backs c.dial.ensures.cause.later h.faults)

pub returns-clause-idle : goal.returns-clause-idle
returns-clause-idle g c = idle_talked _ _ _ _ _ _ _ c.converse-talked.ensures
