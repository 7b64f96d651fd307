use Rattle.std.proofs.Common.{◌≡◌, None, Some, ap, refl, sym, ◌∙◌, arith}
use Rattle.std.specs.Ordering.{nat_cmp}
use Rattle.std.specs.BTreeMap.{get}
use Rattle.lnfs_counts.specs.declared.counters.Counter.{Counter}
use Rattle.lnfs_counts.specs.Levels.{told_in}
use Rattle.lnfs_counts.specs.Counters.{lasts_of}
use Rattle.lnfs_counts.proofs.Levels.{lasts-inserted, read_alike}
use Rattle.lnfs_counts.proofs.counters.make_counter.Goals as goal

-- a counter that tells nothing is told in the same way as none
pub returns-clause-same : goal.returns-clause-same
returns-clause-same c =
    let made : Counter = record { last = 0; count = 0 } in
    let none : get nat_cmp c.args.counters.now c.args.level ≡ None = grind arith in
    let alike = read_alike c.args.counters.now c.insert.new.self c.args.level (Some made) c.in_ok-insert.ensures.updates in
    record {
      last = alike (told_in (λ x. x.last)) (ap (told_in (λ x. x.last)) (sym none));
      count = alike (told_in (λ x. x.count)) (ap (told_in (λ x. x.count)) (sym none));
      lasts = ap lasts_of c.in_ok-insert.ensures.entries ∙ lasts-inserted (λ x. x.last) c.args.level made c.args.counters.now.entries refl none;
    }
