use Rattle.std.proofs.Common.{◌≡◌, ◌∙◌, ◌+◌, ◌++◌, ◌∷◌, [], ap, refl, sym, arith, length, append_assoc}
use Rattle.std.proofs.lemmas.List.{length_push}
use Rattle.lnfs_workers.proofs.Pairs.{each_push}
use Rattle.lnfs_workers.proofs.pool.numbered.Goals as goal

pub loop-links-init : goal.loop-links-init
loop-links-init g c = record { front = ([], refl, rw c.new-jobs.ensures.items tt, ap length c.new-jobs.ensures.items); room = omega (arith, ap length c.new-jobs.ensures.items) }

pub loop-links-preserved : goal.loop-links-preserved
loop-links-preserved g c =
    let f = c.loop-links.invariant.front in
    let taken = f.0 in
    let links = c.in-Some.links in
    let items = c.in_ok-push.ensures.items in
    let more : length c.push.new.self.items ≡ length c.loop-links.jobs.items + 1 = ap length items ∙ length_push c.loop-links.jobs.items _ ∙ omega arith in
    record {
      front = (
        taken ++ links ∷ [],
        f.1 ∙ ap (λ l. taken ++ l) c.in-Some.ensures.items ∙ sym (append_assoc taken (links ∷ []) c.pop_front.new.self.items),
        rw items (each_push _ taken c.loop-links.jobs.items links _ f.2 refl),
        omega (arith, more, f.3, length_push taken links),
      );
      room = omega (arith, more, ap length c.in-Some.ensures.items, c.loop-links.invariant.room);
    }
