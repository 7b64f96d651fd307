use Rattle.std.proofs.Common.{◌≡◌, ℕ, Some, subst, length}
use Rattle.std.proofs.lemmas.Result.{IfOk-weaker}
use Rattle.std.specs.Prelude.{slice_get}
use Rattle.lnfs_workers.specs.Links.{Waits}
use Rattle.lnfs_workers.proofs.Dealt.{Dealt, dealt_weaker, each_at_length}
use Rattle.lnfs_workers.proofs.Seats.{Placed, placed_waits}
use Rattle.lnfs_workers.proofs.pool.seated.Goals as goal

pub returns-clause-hands : goal.returns-clause-hands
returns-clause-hands g c =
    let links = c.args.links.items in
    let all = c.in_ok-waiting.waiting.items in
    let whole : length all ≡ length links = each_at_length (Placed {B = g.row.B.Denot} links) 0 links all c.in_ok-waiting.ensures.waiting in
    IfOk-weaker c.deal.result _ _
    (λ hands dealt. subst (λ (count : ℕ). Dealt (λ hand. hand.items) (Waits {B = g.row.B.Denot} links) count c.args.workers 0 hands.items) whole
    (dealt_weaker (λ hand. hand.items) (λ n one. slice_get all n ≡ Some one) (Waits links) (length all) c.args.workers
    (placed_waits {B = g.row.B.Denot} links all c.in_ok-waiting.ensures.waiting) 0 hands.items dealt))
    c.deal.ensures.hands
