use Rattle.std.proofs.Common.{◌≡◌, ap, sym, ◌∙◌}
use Rattle.std.proofs.lemmas.Result.{IfOk-weaker}
use Rattle.lnfs_counts.proofs.Levels.{lasts-same}
use Rattle.lnfs_session.specs.declared.levels.OwnerNumbers.{OwnerNumbers}
use Rattle.lnfs_session.specs.Levels.{lasts_of, or_none, place_in, numbers_of, numbers_at}
use Rattle.lnfs_session.proofs.Levelled.{told_same, told_twice}
use Rattle.lnfs_session.proofs.levels.make_place.Goals as goal

pub returns-clause-same : goal.returns-clause-same
returns-clause-same c =
    let old = c.make_level.new.levels in
    let new = c.get_mut.follows.lender c.make_place.new.self in
    let found = c.in-Some.found.now in
    let holds = c.get_mut.follows.holds c.make_place.new.self in
    let lasts = ap lasts_of holds.0 ∙ lasts-same (λ x. x.last) c.args.level found c.make_place.new.self old.entries (sym c.in-Some.ensures.value) c.make_place.ensures.same.last in
    told_twice c.args.levels.now old new c.in_ok-make_level.ensures.same
    (told_same old new c.args.level c.make_place.new.self (holds.3 c.in_ok-make_level.ensures.there) lasts found (sym c.in-Some.ensures.value) c.make_place.ensures.same)

pub returns-clause-numbers : goal.returns-clause-numbers
returns-clause-numbers c =
    let owner = c.args.owner.now in
    let found = c.in-Some.found.now in
    IfOk-weaker c.make_place.result (λ (numbers : OwnerNumbers). numbers ≡ numbers_of found owner) (λ numbers. numbers ≡ numbers_at c.args.levels.now c.args.level owner)
    (λ numbers is. is ∙ ap (λ x. or_none (place_in x owner)) c.in-Some.ensures.value ∙ c.in_ok-make_level.ensures.same.numbers c.args.level owner)
    c.make_place.ensures.numbers
