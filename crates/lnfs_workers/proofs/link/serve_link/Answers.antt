use Rattle.std.proofs.Common.{◌≤◌, ◌+◌, ℕ, List, length, refl, sym, ap, ◌∙◌, subst, arith}
use Rattle.std.proofs.lemmas.Bool.Decides.{nat_tests}
use Rattle.std.proofs.lemmas.List.{length_push}
use Rattle.lnfs_rpc.specs.Records.{IsPartial}
use Rattle.lnfs_history.specs.declared.entry.Entry.{Entry}
use Rattle.lnfs_history.specs.Entries.{Part, entry}
use Rattle.lnfs_workers.specs.Served.{telling, Going, IsOf, AreOf}
use Rattle.lnfs_incoming.specs.declared.ending.TheConstants.{BUDGET}
use Rattle.lnfs_incoming.specs.declared.ending.Ending.TheVariants.{Budget, Memory}
use Rattle.lnfs_workers.proofs.Records.{all_push}
use Rattle.lnfs_workers.proofs.Goings.{read_more, serves, ends_cutting, ends_reading, out_of_memory, out_of_budget, ends_writing, lost_reply, told_over}
use Rattle.lnfs_workers.proofs.link.serve_link.Goals as goal

pub loop-preserved-in-None-read_on : goal.loop-preserved-in-None-read_on
loop-preserved-in-None-read_on g c =
    let tell = telling g.L.Source.left g.L.Sink.taken g.L.Source.read_faults g.L.Sink.write_faults in
    let i = c.loop.invariant in
    let cut = rw c.in-Ok-None.field-0-is at c.in-Ok-None.ensures in
    let going = subst (λ (d : List ℕ). Going (tell c.args.link) (tell c.loop.link) d c.loop.place.entries) (sym cut.1) i.going in
    let read = c.in-None-read_on.ensures in
    record {
      number = i.number;
      count = i.count;
      few = i.few;
      events = i.events;
      going = read_more (tell c.args.link) (tell c.loop.link) (tell c.read_on.new.link) c.next_record.new.incoming c.read_on.new.incoming c.loop.place.entries going read.read read.later read.taken read.write_faults;
    }

pub returns-in-Some-read_on-clause-served : goal.returns-in-Some-read_on-clause-served
returns-in-Some-read_on-clause-served g c =
    let tell = telling g.L.Source.left g.L.Sink.taken g.L.Source.read_faults g.L.Sink.write_faults in
    let i = c.loop.invariant in
    let cut = rw c.in-Ok-None.field-0-is at c.in-Ok-None.ensures in
    let going = subst (λ (d : List ℕ). Going (tell c.args.link) (tell c.loop.link) d c.loop.place.entries) (sym cut.1) i.going in
    let read = c.in-Some-read_on.ensures in
    told_over tell (g.C.Clock.may c.args.shared.now.clock.now) c.args.class c.args.link c.over.result.end (record { class = c.args.class; link = c.read_on.new.link; ending = c.in-Some-read_on.ending; records = c.loop.records }) c.over.result.place c.loop.place c.over.ensures.end c.over.ensures.link c.over.ensures.place
    (record {
      bears = refl;
      records = i.count;
      few = i.few;
      events = i.events;
      service = ends_reading c.in-Some-read_on.ending (tell c.args.link) (tell c.loop.link) (tell c.read_on.new.link) c.next_record.new.incoming c.read_on.new.incoming c.loop.place.entries going
          (subst IsPartial (sym cut.1) cut.0) read.read read.later read.taken read.write_faults;
    })

pub returns-in-Err-clause-served : goal.returns-in-Err-clause-served
returns-in-Err-clause-served g c =
    let tell = telling g.L.Source.left g.L.Sink.taken g.L.Source.read_faults g.L.Sink.write_faults in
    let i = c.loop.invariant in
    told_over tell (g.C.Clock.may c.args.shared.now.clock.now) c.args.class c.args.link c.over-in-Err.result.end (record { class = c.args.class; link = c.loop.link; ending = c.in-Err.ending; records = c.loop.records }) c.over-in-Err.result.place c.loop.place c.over-in-Err.ensures.end c.over-in-Err.ensures.link c.over-in-Err.ensures.place
    (record {
      bears = refl;
      records = i.count;
      few = i.few;
      events = i.events;
      service = ends_cutting c.in-Err.ending (tell c.args.link) (tell c.loop.link) c.loop.incoming c.loop.place.entries i.going c.in-Err.ensures.0;
    })

pub returns-then-records-eq-BUDGET-clause-served : goal.returns-then-records-eq-BUDGET-clause-served
returns-then-records-eq-BUDGET-clause-served g c =
    let tell = telling g.L.Source.left g.L.Sink.taken g.L.Source.read_faults g.L.Sink.write_faults in
    let i = c.loop.invariant in
    let cut = rw c.in-Ok-Some.field-0-is at c.in-Ok-Some.ensures in
    told_over tell (g.C.Clock.may c.args.shared.now.clock.now) c.args.class c.args.link c.over-then-records-eq-BUDGET.result.end (record { class = c.args.class; link = c.loop.link; ending = Budget; records = c.loop.records }) c.over-then-records-eq-BUDGET.result.place c.loop.place c.over-then-records-eq-BUDGET.ensures.end c.over-then-records-eq-BUDGET.ensures.link c.over-then-records-eq-BUDGET.ensures.place
    (record {
      bears = refl;
      records = i.count;
      few = i.few;
      events = i.events;
      service = out_of_budget (tell c.args.link) (tell c.loop.link) c.loop.incoming c.next_record.new.incoming c.loop.place.entries c.in-Ok-Some.message i.going cut.1 (grind (arith, nat_tests, c.if-records-eq-BUDGET.true, i.count));
    })

pub returns-in-Lost-clause-served : goal.returns-in-Lost-clause-served
returns-in-Lost-clause-served g c =
    let tell = telling g.L.Source.left g.L.Sink.taken g.L.Source.read_faults g.L.Sink.write_faults in
    let may = g.C.Clock.may c.args.shared.now.clock.now in
    let i = c.loop.invariant in
    let es = c.loop.place.entries in
    let cut = rw c.in-Ok-Some.field-0-is at c.in-Ok-Some.ensures in
    let told = rw c.in-Lost.is at c.serve_record-told.ensures.told in
    let e : Entry = entry (record { class = c.args.class; link = c.loop.place.link; moment = c.moment_of-moment.result; message = c.in-Ok-Some.message }) told.0 in
    told_over tell may c.args.class c.args.link c.over-in-Lost.result.end (record { class = c.args.class; link = c.loop.link; ending = Memory; records = c.loop.records + 1 }) c.over-in-Lost.result.place _ c.over-in-Lost.ensures.end c.over-in-Lost.ensures.link (c.over-in-Lost.ensures.place ∙ told.1)
    (record {
      bears = refl;
      records = omega (arith, i.count, length_push es e);
      few = grind (arith, nat_tests, c.if-records-eq-BUDGET.false, i.count, i.few, length_push es e);
      events = all_push (IsOf c.args.class may) es e i.events (refl, c.moment_of-moment.ensures.may);
      service = lost_reply (tell c.args.link) (tell c.loop.link) c.loop.incoming c.next_record.new.incoming es e i.going cut.1;
    })

pub returns-in-NoMemory-clause-served : goal.returns-in-NoMemory-clause-served
returns-in-NoMemory-clause-served g c =
    let tell = telling g.L.Source.left g.L.Sink.taken g.L.Source.read_faults g.L.Sink.write_faults in
    let i = c.loop.invariant in
    let cut = rw c.in-Ok-Some.field-0-is at c.in-Ok-Some.ensures in
    let same = rw c.in-NoMemory.is at c.serve_record-told.ensures.told in
    told_over tell (g.C.Clock.may c.args.shared.now.clock.now) c.args.class c.args.link c.over-in-NoMemory.result.end (record { class = c.args.class; link = c.loop.link; ending = Memory; records = c.loop.records }) c.over-in-NoMemory.result.place c.loop.place c.over-in-NoMemory.ensures.end c.over-in-NoMemory.ensures.link (c.over-in-NoMemory.ensures.place ∙ same)
    (record {
      bears = refl;
      records = i.count;
      few = i.few;
      events = i.events;
      service = out_of_memory (tell c.args.link) (tell c.loop.link) c.loop.incoming c.next_record.new.incoming c.loop.place.entries c.in-Ok-Some.message i.going cut.1;
    })

pub returns-in-loop-clause-served : goal.returns-in-loop-clause-served
returns-in-loop-clause-served g c =
    let tell = telling g.L.Source.left g.L.Sink.taken g.L.Source.read_faults g.L.Sink.write_faults in
    let may = g.C.Clock.may c.args.shared.now.clock.now in
    let i = c.loop.invariant in
    let es = c.loop.place.entries in
    let cut = rw c.in-Ok-Some.field-0-is at c.in-Ok-Some.ensures in
    let told = rw c.in-Replied.is at c.serve_record-told.ensures.told in
    let e : Entry = entry (record { class = c.args.class; link = c.loop.place.link; moment = c.moment_of-moment.result; message = c.in-Ok-Some.message }) c.in-Replied.reply in
    let wrote = c.in-Err-put_reply.ensures in
    told_over tell may c.args.class c.args.link c.over-in-loop.result.end (record { class = c.args.class; link = c.put_reply.new.link; ending = c.in-Err-put_reply.ending; records = c.loop.records + 1 }) c.over-in-loop.result.place _ c.over-in-loop.ensures.end c.over-in-loop.ensures.link (c.over-in-loop.ensures.place ∙ told)
    (record {
      bears = refl;
      records = omega (arith, i.count, length_push es e);
      few = grind (arith, nat_tests, c.if-records-eq-BUDGET.false, i.count, i.few, length_push es e);
      events = all_push (IsOf c.args.class may) es e i.events (refl, c.moment_of-moment.ensures.may);
      service = ends_writing c.in-Err-put_reply.ending (tell c.args.link) (tell c.loop.link) (tell c.put_reply.new.link) c.loop.incoming c.next_record.new.incoming es e i.going cut.1
          wrote.ending wrote.front wrote.later wrote.left wrote.read_faults;
    })

pub loop-preserved : goal.loop-preserved
loop-preserved g c =
    let tell = telling g.L.Source.left g.L.Sink.taken g.L.Source.read_faults g.L.Sink.write_faults in
    let may = g.C.Clock.may c.args.shared.now.clock.now in
    let i = c.loop.invariant in
    let es = c.loop.place.entries in
    let cut = rw c.in-Ok-Some.field-0-is at c.in-Ok-Some.ensures in
    let told = rw c.in-Replied.is at c.serve_record-told.ensures.told in
    let e : Entry = entry (record { class = c.args.class; link = c.loop.place.link; moment = c.moment_of-moment.result; message = c.in-Ok-Some.message }) c.in-Replied.reply in
    let wrote = rw c.in_default.is at c.put_reply.ensures.whole in
    let longer = length_push es e in
    let going = serves (tell c.args.link) (tell c.loop.link) (tell c.put_reply.new.link) c.loop.incoming c.next_record.new.incoming es e i.going cut.1
    wrote c.put_reply.ensures.later c.put_reply.ensures.left c.put_reply.ensures.read_faults in
    record {
      number = ap (λ (p : Part). p.link) told ∙ i.number;
      count = (omega (arith, i.count, longer)) ∙ ap (λ (p : Part). length p.entries) (sym told);
      few = subst (λ (p : Part). length p.entries ≤ BUDGET) (sym told) (grind (arith, nat_tests, c.if-records-eq-BUDGET.false, i.count, i.few, longer));
      events = subst (λ (p : Part). AreOf c.args.class may p.entries) (sym told) (all_push (IsOf c.args.class may) es e i.events (refl, c.moment_of-moment.ensures.may));
      going = subst (λ (p : Part). Going (tell c.args.link) (tell c.put_reply.new.link) c.next_record.new.incoming p.entries) (sym told) going;
    }
