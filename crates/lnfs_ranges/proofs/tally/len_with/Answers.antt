use Rattle.std.proofs.Common.{Bool, List, [], ◌++◌, Option, length, ap, sym, subst, refl, ◌∙◌}
use Rattle.lnfs_ranges.specs.declared.range.LockRange.{LockRange}
use Rattle.lnfs_ranges.specs.declared.tally.Tally.{Tally}
use Rattle.lnfs_ranges.specs.Modes.{joined, below, above, asked_range}
use Rattle.lnfs_ranges.specs.Tallying.{Tells}
use Rattle.lnfs_ranges.proofs.Joins.{joined_three, apart_joined}
use Rattle.lnfs_ranges.proofs.Tallies.{tells_same, none_left}
use Rattle.lnfs_ranges.proofs.tally.len_with.Goals as goal
use Rattle.lnfs_ranges.proofs.tally.len_with.Goals.{in-Some, in_default}

pub returns : goal.returns
returns c =
    let b = below c.args.first c.args.ranges.now in
    let asked : Option Bool → List LockRange = asked_range c.args.first c.args.last in
    let a = above c.args.last c.args.ranges.now in
    let one : Tells c.count_below.new.tally (joined b) = c.count_below.ensures.tells [] tt (record { long = refl; end = refl }) in
    let two : Tells c.match-asked.tally (joined (joined b ++ asked c.args.asked)) = elim c.match-asked.branch [
      | in-Some w ↦ subst (λ (t : Tally). Tells t (joined (joined b ++ asked c.args.asked))) (sym w.tally-is)
          (subst (λ (o : Option Bool). Tells w.count.new.tally (joined (joined b ++ asked o))) (sym w.in-Some.is) (w.count.ensures.tells (joined b) (apart_joined b) one))
      | in_default w ↦ subst (λ (t : Tally). Tells t (joined (joined b ++ asked c.args.asked))) (sym w.tally-is)
          (subst (λ (o : Option Bool). Tells c.count_below.new.tally (joined (joined b ++ asked o))) (sym (none_left c.args.asked (λ x e. w.in_default.not-Some x e))) (tells_same c.count_below.new.tally (joined b) (apart_joined b) one))
    ] in
    let middle = joined (joined b ++ asked c.args.asked) in
    let three = c.count_above.ensures.tells middle (apart_joined (joined b ++ asked c.args.asked)) two in
    three.long ∙ ap length (joined_three b (asked c.args.asked) a (joined b) middle (joined (middle ++ a)) refl refl refl)
