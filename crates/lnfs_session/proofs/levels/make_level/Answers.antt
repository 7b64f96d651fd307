use Rattle.std.proofs.Common.{◌≡◌, None, ap, ◌∙◌, arith}
use Rattle.std.specs.Ordering.{nat_cmp}
use Rattle.std.specs.BTreeMap.{get}
use Rattle.lnfs_counts.proofs.Levels.{lasts-inserted}
use Rattle.lnfs_session.specs.Levels.{lasts_of}
use Rattle.lnfs_session.proofs.Levelled.{told_nothing}
use Rattle.lnfs_session.proofs.levels.make_level.Goals as goal

pub returns-clause-same : goal.returns-clause-same
returns-clause-same c =
    let made = c.new.result in
    let none : get nat_cmp c.args.levels.now c.args.level ≡ None = grind arith in
    let lasts = ap lasts_of c.in_ok-insert.ensures.entries ∙ lasts-inserted (λ x. x.last) c.args.level made c.args.levels.now.entries c.new.ensures.last none in
    told_nothing c.args.levels.now c.insert.new.self c.args.level made c.in_ok-insert.ensures.updates lasts none c.new.ensures.last c.new.ensures.records c.new.ensures.numbers
