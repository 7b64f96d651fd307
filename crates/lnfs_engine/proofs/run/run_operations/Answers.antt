use Rattle.std.proofs.Common.{[], length, sym, ap, subst, arith}
use Rattle.lnfs_calipso.specs.Label.{IsPreorderWithBottom}
use Rattle.lnfs_policy.specs.Policy.{dominance}
use Rattle.lnfs_world.specs.Both.{both, BothStand}
use Rattle.lnfs_operations.specs.Served.{operation}
use Rattle.lnfs_operations.specs.SlotRule.{run_behind}
use Rattle.lnfs_operations.proofs.ServedLaws.{operation_lawful}
use Rattle.lnfs_engine.specs.Places.{place_of}
use Rattle.lnfs_engine.specs.Performs.{site_in, sent_of}
use Rattle.lnfs_engine.proofs.Acting.{starts_stands}
use Rattle.lnfs_engine.proofs.Running.{here, none-left, ahead_begin, did, ahead_on, ahead_refused, ahead_again, ahead_ends}
use Rattle.lnfs_engine.proofs.run.run_operations.Goals as goal

pub loop-done-init : goal.loop-done-init
loop-done-init g c =
    let X = g.X.ExtraRows.extra in
    let r = c.args.request.now in
    let k = r.compound.now in
    let p = place_of c.args.place.now in
    let b = both c.args.store.now (g.X.ExtraRows.rows c.args.extra.now) in
    record {
      within = omega arith;
      first = λ none. c.requires.first;
      stands = starts_stands p c.args.store.now.sessions c.args.keeper.now c.requires.first;
      facts = c.requires.facts;
      ahead = ahead_begin (operation X (site_in r) (sent_of r) k) k.ops r.begin c.args.out.now c.args.keeper.now p b c.requires.first.nowhere;
    }

pub loop-done-preserved : goal.loop-done-preserved
loop-done-preserved g c =
    let X = g.X.ExtraRows.extra in
    let owed = g.X.ExtraRows.lawful in
    let rows = g.X.ExtraRows.rows in
    let r = c.args.request.now in
    let k = r.compound.now in
    let done = c.loop-done.done in
    let op = c.index-ops-done.result in
    let e = here k.ops _ done op c.as_slice-ops.ensures (omega arith) (sym c.index-ops-done.is) in
    let deeds = operation X (site_in r) (sent_of r) k in
    let total = run_behind deeds [] k.ops (place_of c.args.place.now) (both c.args.store.now (rows c.args.extra.now)) in
    let i = c.loop-done.invariant in
    let p = place_of c.loop-done.place in
    let b = both c.loop-done.store (rows c.loop-done.extra) in
    let q = place_of c.perform.new.place in
    let v = both c.perform.new.store (rows c.perform.new.extra) in
    let on = did deeds k.ops r.begin c.args.out.now total c.loop-done.out done c.loop-done.keeper p b i.ahead k op e c.perform.new.out c.perform.new.keeper q v _ c.requires.head c.in_ok-perform.ensures.performs _ c.in-Done.is in
    let law = (operation_lawful X owed (site_in r) (subst (λ q. IsPreorderWithBottom (dominance q)) c.policy.ensures c.law_preorder.ensures) (sent_of r) k i.ahead.so_far op).stands p b i.facts in
    record {
      within = omega (arith, ap length c.as_slice-ops.ensures);
      first = λ none. absurd (omega (arith, none));
      stands = c.in_ok-perform.ensures.stands;
      facts = subst (BothStand X.Fact (site_in r).dom q) on.state (subst (λ at. BothStand X.Fact (site_in r).dom at (deeds i.ahead.so_far op p b).state) on.place_is law);
      ahead = ahead_on deeds k.ops r.begin c.args.out.now total c.loop-done.out done c.loop-done.keeper p b i.ahead k op e c.perform.new.out c.perform.new.keeper q v _ c.requires.head c.in_ok-perform.ensures.performs c.in-Done.is;
    }

pub returns-in-Refused-clause-ends : goal.returns-in-Refused-clause-ends
returns-in-Refused-clause-ends g c =
    let X = g.X.ExtraRows.extra in
    let rows = g.X.ExtraRows.rows in
    let r = c.args.request.now in
    let k = r.compound.now in
    let done = c.loop-done.done in
    let op = c.index-ops-done.result in
    let e = here k.ops _ done op c.as_slice-ops.ensures (omega arith) (sym c.index-ops-done.is) in
    let deeds = operation X (site_in r) (sent_of r) k in
    let total = run_behind deeds [] k.ops (place_of c.args.place.now) (both c.args.store.now (rows c.args.extra.now)) in
    let a = c.loop-done.invariant.ahead in
    let p = place_of c.loop-done.place in
    let b = both c.loop-done.store (rows c.loop-done.extra) in
    let q = place_of c.perform.new.place in
    let v = both c.perform.new.store (rows c.perform.new.extra) in
    rw c.number.ensures (ahead_refused deeds k.ops r.begin c.args.out.now total c.loop-done.out done c.loop-done.keeper p b a k op e c.perform.new.out c.perform.new.keeper q v _ c.requires.head c.in_ok-perform.ensures.performs c.in-Refused.why c.in-Refused.is)

pub returns-in-Again-clause-ends : goal.returns-in-Again-clause-ends
returns-in-Again-clause-ends g c =
    let X = g.X.ExtraRows.extra in
    let rows = g.X.ExtraRows.rows in
    let r = c.args.request.now in
    let k = r.compound.now in
    let done = c.loop-done.done in
    let op = c.index-ops-done.result in
    let e = here k.ops _ done op c.as_slice-ops.ensures (omega arith) (sym c.index-ops-done.is) in
    let deeds = operation X (site_in r) (sent_of r) k in
    let total = run_behind deeds [] k.ops (place_of c.args.place.now) (both c.args.store.now (rows c.args.extra.now)) in
    let a = c.loop-done.invariant.ahead in
    let p = place_of c.loop-done.place in
    let b = both c.loop-done.store (rows c.loop-done.extra) in
    let q = place_of c.perform.new.place in
    let v = both c.perform.new.store (rows c.perform.new.extra) in
    ahead_again deeds k.ops r.begin c.args.out.now total c.loop-done.out done c.loop-done.keeper p b a k op e c.perform.new.out c.perform.new.keeper q v _ c.requires.head c.in_ok-perform.ensures.performs c.in-Again.is

pub returns-clause-ends : goal.returns-clause-ends
returns-clause-ends g c =
    let X = g.X.ExtraRows.extra in
    let rows = g.X.ExtraRows.rows in
    let r = c.args.request.now in
    let k = r.compound.now in
    let done = c.loop-done.done in
    let e = none-left k.ops done (omega (arith, ap length c.as_slice-ops.ensures)) in
    let deeds = operation X (site_in r) (sent_of r) k in
    let total = run_behind deeds [] k.ops (place_of c.args.place.now) (both c.args.store.now (rows c.args.extra.now)) in
    ahead_ends deeds k.ops r.begin c.args.out.now total c.loop-done.out done c.loop-done.keeper (place_of c.loop-done.place) (both c.loop-done.store (rows c.loop-done.extra)) c.loop-done.invariant.ahead e
