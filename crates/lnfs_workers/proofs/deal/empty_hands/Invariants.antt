use Rattle.std.proofs.Common.{◌≡◌, [], length, All}
use Rattle.lnfs_workers.proofs.deal.empty_hands.Given as goal

abbrev pub invariant-loop : goal.invariant-loop
invariant-loop g l = record { count : length l.hands.items ≡ l.counter; empty : All (λ hand. hand.items ≡ []) l.hands.items }
