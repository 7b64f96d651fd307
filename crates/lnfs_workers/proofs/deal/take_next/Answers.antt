use Rattle.std.proofs.Common.{inr, arith}
use Rattle.lnfs_workers.proofs.Dealt.{none_left}
use Rattle.lnfs_workers.proofs.deal.take_next.Goals as goal

pub returns-in_default-pop_front : goal.returns-in_default-pop_front
returns-in_default-pop_front g c =
    let hand = c.in-Some.hand in
    let e = c.in_default-pop_front.ensures in
    inr (hand, c.pop_front.new.self.items, c.in-Some.ensures.items, none_left hand.items (omega (arith, hand.ok, e.cases)))
