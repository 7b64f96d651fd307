use Rattle.std.proofs.Common.{◌≡◌, ◌++◌, ◌∷◌, List, [], get_or, append-nil, arith, ap, sym, ◌∙◌}
use Rattle.lnfs_ranges.specs.declared.range.LockRange.{LockRange}
use Rattle.lnfs_ranges.specs.Modes.{joined, part_above, AreApart}
use Rattle.lnfs_ranges.proofs.Joins.{joined_apart}
use Rattle.lnfs_ranges.proofs.Parts.{turn, no_range, above_whole, above_cut, above_none}
use Rattle.lnfs_ranges.proofs.joining.push_above.Goals as goal
use Rattle.lnfs_ranges.proofs.joining.push_above.Goals.{then-last-range+in_ok-push_joined, else-last-range+then-last-range-2+in_ok-push_joined-2, else-last-range+else-last-range-2}

same : (xs : List LockRange) → AreApart xs → xs ≡ joined (xs ++ [])
same xs h = sym (ap joined (append-nil xs) ∙ joined_apart xs h)

pub loop-range-init : goal.loop-range-init
loop-range-init c = record { told = same c.args.out.now.items c.requires; apart = c.requires }

pub loop-range-preserved : goal.loop-range-preserved
loop-range-preserved c =
    let range = get_or c.args.ranges.now c.loop-range.range-index no_range in
    let next = turn (part_above c.args.last) c.args.out.now.items c.args.ranges.now c.loop-range.out.items c.if-last-range.out.items in
    elim c.if-last-range.branch [
      | then-last-range+in_ok-push_joined w ↦ record {
        told = next (range ∷ []) c.loop-range.range-index (omega arith) c.loop-range.invariant.told (above_whole c.args.last range (omega arith)) (ap (λ v. v.items) w.out-is ∙ w.in_ok-push_joined.ensures.ok);
        apart = rw w.out-is w.in_ok-push_joined.ensures.apart;
      }
      | else-last-range+then-last-range-2+in_ok-push_joined-2 w ↦ record {
        told = next _ c.loop-range.range-index (omega arith) c.loop-range.invariant.told (above_cut c.args.last range (omega arith) (omega arith)) (ap (λ v. v.items) w.out-is ∙ w.in_ok-push_joined-2.ensures.ok);
        apart = rw w.out-is w.in_ok-push_joined-2.ensures.apart;
      }
      | else-last-range+else-last-range-2 w ↦ record {
        told = next [] c.loop-range.range-index (omega arith) c.loop-range.invariant.told (above_none c.args.last range (omega arith) (omega arith)) (ap (λ v. v.items) w.out-is ∙ same c.loop-range.out.items c.loop-range.invariant.apart);
        apart = rw w.out-is c.loop-range.invariant.apart;
      }
    ]
