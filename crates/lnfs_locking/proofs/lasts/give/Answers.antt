use Rattle.std.proofs.Common.{ap, sym, ◌∙◌}
use Rattle.lnfs_counts.specs.declared.counters.Counter.{Counter}
use Rattle.lnfs_counts.specs.Counters.{lasts_of}
use Rattle.lnfs_counts.proofs.Levels.{lasts-given}
use Rattle.lnfs_locking.proofs.lasts.give.Goals as goal

pub returns-clause-lasts : goal.returns-clause-lasts
returns-clause-lasts c =
    let given : Counter = record { last = c.args.number; count = c.in-Some.found.now.count } in
    ap lasts_of (c.get_mut.follows.holds given).0 ∙ lasts-given (λ x. x.last) c.args.level c.in-Some.found.now given c.args.counters.now.entries c.get_mut.ensures.ordered (sym c.in-Some.ensures.value) c.requires.positive
