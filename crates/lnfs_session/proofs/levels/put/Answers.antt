use Rattle.std.proofs.Common.{ap, sym, ◌∙◌}
use Rattle.lnfs_counts.proofs.Levels.{lasts-same}
use Rattle.lnfs_session.specs.Levels.{lasts_of}
use Rattle.lnfs_session.proofs.levels.put.Goals as goal

pub returns-clause-lasts : goal.returns-clause-lasts
returns-clause-lasts c = ap lasts_of (c.get_mut.follows.holds c.put.new.self).0 ∙ lasts-same (λ x. x.last) c.args.level c.in-Some.found.now c.put.new.self c.args.levels.now.entries (sym c.in-Some.ensures.value) c.put.ensures.last
