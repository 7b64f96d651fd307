use Rattle.std.proofs.Common.{ap, sym, ◌∙◌}
use Rattle.lnfs_counts.proofs.Levels.{lasts-given}
use Rattle.lnfs_session.specs.declared.levels.LevelRecords.{LevelRecords}
use Rattle.lnfs_session.specs.Levels.{lasts_of}
use Rattle.lnfs_session.proofs.levels.give.Goals as goal

pub returns-clause-lasts : goal.returns-clause-lasts
returns-clause-lasts c =
    let given : LevelRecords = record c.in-Some.found.now { last = c.args.number } in
    ap lasts_of (c.get_mut.follows.holds given).0 ∙ lasts-given (λ x. x.last) c.args.level c.in-Some.found.now given c.args.levels.now.entries c.get_mut.ensures.ordered (sym c.in-Some.ensures.value) c.requires.positive
