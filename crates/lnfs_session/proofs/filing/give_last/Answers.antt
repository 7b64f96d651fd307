use Rattle.lnfs_session.proofs.LastNumbers.{none_still}
use Rattle.lnfs_session.proofs.filing.give_last.Goals as goal

pub returns-clause-none : goal.returns-clause-none
returns-clause-none c =
    let give = c.give.ensures in
    none_still c.args.levels.now c.make_level.new.levels c.give.new.levels (record { level = c.args.level; number = c.args.last }) c.requires.none c.in_ok-make_level.ensures.same give.last give.records give.places give.lasts
