use Rattle.std.proofs.Common.{ap, sym, ◌∙◌, arith}
use Rattle.lnfs_counts.proofs.Levels.{lasts-same}
use Rattle.lnfs_session.specs.Levels.{lasts_of}
use Rattle.lnfs_session.proofs.Levelled.{told_same}
use Rattle.lnfs_session.proofs.levels.free_place.Goals as goal

pub returns : goal.returns
returns c =
    let old = c.args.levels.now in
    let new = c.get_mut.follows.lender c.free_place.new.self in
    let found = c.in-Some.found.now in
    let holds = c.get_mut.follows.holds c.free_place.new.self in
    let lasts = ap lasts_of holds.0 ∙ lasts-same (λ x. x.last) c.args.level found c.free_place.new.self old.entries (sym c.in-Some.ensures.value) c.free_place.ensures.last in
    told_same old new c.args.level c.free_place.new.self (holds.3 (grind (arith, c.in-Some.ensures.value))) lasts found (sym c.in-Some.ensures.value) c.free_place.ensures
