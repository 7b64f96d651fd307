use Rattle.std.proofs.Common.{List, ℕ, refl, sym, ◌∙◌, subst, arith}
use Rattle.lnfs_workers.specs.Served.{telling}
use Rattle.lnfs_service.specs.Links.{IsCut}
use Rattle.lnfs_service.proofs.Accepting.{cut_at, all_more, new_more, dealt_more}
use Rattle.lnfs_service.proofs.Dealing.{adds_none}
use Rattle.lnfs_service.proofs.links.accept.Goals as goal

pub loop-class-init : goal.loop-class-init
loop-class-init g c = record {
  all = rw c.requires.empty refl;
  room = c.requires.room;
  new = rw c.requires.empty (λ k d less. absurd (omega arith));
  dealt = rw c.requires.empty (adds_none (g.N.Net.dealt c.args.net.now));
  backs = refl;
  later = omega arith;
}

pub returns-in_default-clause-some : goal.returns-in_default-clause-some
returns-in_default-clause-some g c = subst (λ (some : List ℕ). IsCut c.args.classes.now some) (sym c.loop-class.invariant.all) (cut_at c.args.classes.now c.loop-class.class-index c.loop-class-test.true)

pub loop-class-preserved : goal.loop-class-preserved
loop-class-preserved g c =
    let tell = telling g.N.L.Source.left g.N.L.Sink.taken g.N.L.Source.read_faults g.N.L.Sink.write_faults in
    let classes = c.args.classes.now in
    let n = c.loop-class.class-index in
    let links = c.loop-class.links.items in
    let i = c.loop-class.invariant in
    let a = c.in-Ok.ensures in
    let is = c.push_reserved.ensures.items in
    record {
      all = all_more classes n c.loop-class-test.true links c.in-Ok.link is i.all;
      room = rw c.push_reserved.ensures.capacity i.room;
      new = new_more classes n c.loop-class-test.true links c.in-Ok.link is tell i.new a.fresh;
      dealt = dealt_more classes n c.loop-class-test.true links c.in-Ok.link is tell _ _ _ i.dealt a.dealt;
      backs = c.accept.ensures.backs ∙ i.backs;
      later = omega (arith, i.later, c.accept.ensures.cause.later);
    }
