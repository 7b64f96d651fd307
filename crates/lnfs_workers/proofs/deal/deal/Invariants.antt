use Rattle.std.proofs.Common.{◌≡◌, ◌++◌, List, length, Some}
use Rattle.std.specs.Prelude.{slice_get}
use Rattle.lnfs_workers.specs.Dealt.{AllAt, Hand}
use Rattle.lnfs_workers.proofs.deal.deal.Given as goal

abbrev pub invariant-loop-item : goal.invariant-loop-item
invariant-loop-item g l = record {
  front : (dealt : List g.row.T.Denot) × (l.fn.items.items ≡ l.left.items ++ dealt);
  hands : AllAt (λ m hand. Hand (λ n x. slice_get l.fn.items.items n ≡ Some x) (length l.fn.items.items) l.count m hand.items) (length l.left.items) l.hands.items;
  count : length l.hands.items ≡ l.count;
}

abbrev pub decreases-loop-item : goal.decreases-loop-item
decreases-loop-item g l = length l.left.items
