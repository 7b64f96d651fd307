use Rattle.std.proofs.Common.{List, [], ◌∷◌, ◌++◌, get_or, arith, sym, subst}
use Rattle.lnfs_ranges.specs.declared.range.LockRange.{LockRange}
use Rattle.lnfs_ranges.specs.declared.tally.Tally.{Tally}
use Rattle.lnfs_ranges.specs.Modes.{joined, part_above, AreApart}
use Rattle.lnfs_ranges.specs.Tallying.{Tells}
use Rattle.lnfs_ranges.proofs.Parts.{no_range, above_whole, above_cut, above_none}
use Rattle.lnfs_ranges.proofs.Tallies.{tells_same, turn_told}
use Rattle.lnfs_ranges.proofs.tally.count_above.Goals as goal
use Rattle.lnfs_ranges.proofs.tally.count_above.Goals.{then-last-range, else-last-range+then-last-range-2, else-last-range+else-last-range-2}

pub loop-range-init : goal.loop-range-init
loop-range-init c = record { told = λ xs apart h. tells_same c.args.tally.now xs apart h; long = omega arith }

pub loop-range-preserved : goal.loop-range-preserved
loop-range-preserved c =
    let range = get_or c.args.ranges.now c.loop-range.range-index no_range in
    let Counts : List LockRange → Tally → Type 0 = λ parts new. (xs : List LockRange) → AreApart xs → Tells c.loop-range.tally xs → Tells new (joined (xs ++ parts)) in
    elim c.if-last-range.branch [
      | then-last-range w ↦ record {
        told = λ xs apart h. turn_told (part_above c.args.last) xs c.args.ranges.now (range ∷ []) c.loop-range.tally c.if-last-range.tally c.loop-range.range-index (omega arith)
            (c.loop-range.invariant.told xs apart h) (above_whole c.args.last range (omega arith)) (subst (Counts (range ∷ [])) (sym w.tally-is) w.count.ensures.tells);
        long = rw w.tally-is (omega arith);
      }
      | else-last-range+then-last-range-2 w ↦ record {
        told = λ xs apart h. turn_told (part_above c.args.last) xs c.args.ranges.now _ c.loop-range.tally c.if-last-range.tally c.loop-range.range-index (omega arith)
            (c.loop-range.invariant.told xs apart h) (above_cut c.args.last range (omega arith) (omega arith)) (subst (Counts _) (sym w.tally-is) w.count-then-last-range-2.ensures.tells);
        long = rw w.tally-is (omega arith);
      }
      | else-last-range+else-last-range-2 w ↦ record {
        told = λ xs apart h. turn_told (part_above c.args.last) xs c.args.ranges.now [] c.loop-range.tally c.if-last-range.tally c.loop-range.range-index (omega arith)
            (c.loop-range.invariant.told xs apart h) (above_none c.args.last range (omega arith) (omega arith)) (subst (Counts []) (sym w.tally-is) (tells_same c.loop-range.tally));
        long = rw w.tally-is (omega arith);
      }
    ]
