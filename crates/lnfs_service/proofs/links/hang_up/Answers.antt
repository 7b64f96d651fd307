use Rattle.std.proofs.Common.{◌∙◌, arith, rules}
use Rattle.lnfs_workers.specs.Served.{telling}
use Rattle.lnfs_service.proofs.Dealing.{none_done, one_done, all_done, owes_fewer, owes_less, stays_returned}
use Rattle.lnfs_service.proofs.links.hang_up.Goals as goal

pub loop-end-init : goal.loop-end-init
loop-end-init g c =
    let items = c.from_vec-left.ensures.items in
    record {
      done = none_done (λ end. telling g.N.L.Source.left g.N.L.Sink.taken g.N.L.Source.read_faults g.N.L.Sink.write_faults end.link) _ _ items;
      dealt = search rules;
      owes = rw items c.requires;
      later = omega arith;
    }

pub hang_up-requires : goal.hang_up-requires
hang_up-requires g c = record { given = owes_fewer _ _ _ (rw c.in-Some.ensures.items at c.loop-end.invariant.owes) }

pub loop-end-preserved : goal.loop-end-preserved
loop-end-preserved g c =
    let i = c.loop-end.invariant in
    let h = c.hang_up.ensures in
    let cut = c.in-Some.ensures.items in
    record {
      done = one_done (λ end. telling g.N.L.Source.left g.N.L.Sink.taken g.N.L.Source.read_faults g.N.L.Sink.write_faults end.link) _ _ _ _ cut i.done h.backs;
      dealt = h.dealt ∙ i.dealt;
      owes = rw h.dealt (owes_less _ _ _ _ _ (rw cut at i.owes) h.backs);
      later = stays_returned _ _ _ _ i.later h.faults;
    }

pub returns-clause-backs : goal.returns-clause-backs
returns-clause-backs g c = all_done (λ end. telling g.N.L.Source.left g.N.L.Sink.taken g.N.L.Source.read_faults g.N.L.Sink.write_faults end.link) _ _ _ (search rules) c.loop-end.invariant.done
