use Rattle.std.proofs.Common.{◌+◌, ap, sym, refl, ◌∙◌}
use Rattle.lnfs_counts.specs.declared.counters.Counter.{Counter}
use Rattle.lnfs_counts.specs.Counters.{lasts_of}
use Rattle.lnfs_counts.proofs.Levels.{lasts-same}
use Rattle.lnfs_counts.proofs.counters.count_given.Goals as goal

pub returns-clause-lasts : goal.returns-clause-lasts
returns-clause-lasts c =
    let counted : Counter = record { last = c.in-Some.found.now.last; count = c.in-Some.found.now.count + 1 } in
    ap lasts_of (c.get_mut.follows.holds counted).0 ∙ lasts-same (λ x. x.last) c.args.level c.in-Some.found.now counted c.args.counters.now.entries (sym c.in-Some.ensures.value) refl
