use Rattle.std.proofs.Common.{◌≡◌, ℕ, ◌<◌, ◌/◌, ◌%◌, length, replicate, slice_index_or, refl, ap, ◌∙◌, arith}
use Rattle.std.proofs.lemmas.List.{get_or_read_under}
use Rattle.lnfs_traffic.specs.declared.guests.Row.{Row}
use Rattle.lnfs_traffic.specs.declared.turns.Past.{Past}
use Rattle.lnfs_traffic.specs.Counts.{last_in}
use Rattle.lnfs_traffic.specs.Generated.{row, row_at, rows, roll, place_of}
use Rattle.lnfs_traffic.proofs.Counting.{next_events, nothing}
use Rattle.lnfs_traffic.proofs.Making.{stands_first, stands_more, few_clients, few_sessions, few_events}
use Rattle.lnfs_traffic.proofs.generator.generate.Goals as goal

pub loop-before-init : goal.loop-before-init
loop-before-init c =
    let p = c.args.policy.now in
    let n : c.len.result ≡ length (rows p) = omega (arith, c.len.ensures, c.in_ok-rows.rows.ok, ap length c.in_ok-rows.ensures.rows) in
    let i = c.in_ok-pasts.ensures.items_if_clones_equal (λ y h. h) ∙ ap (λ (n : ℕ). replicate n nothing) n in
    rw (i, c.new-events.ensures.items) (stands_first p c.args.seed c.new-clients.result c.new-sessions.result c.new-clients.ensures.empty c.new-sessions.ensures.empty)

pub next_past-requires-clause-clients : goal.next_past-requires-clause-clients
next_past-requires-clause-clients c = omega (arith, few_clients c.loop-before.invariant c.index.result.now.level, c.loop-before-test.true, c.ranges.n)

pub next_past-requires-clause-sessions : goal.next_past-requires-clause-sessions
next_past-requires-clause-sessions c = omega (arith, few_sessions c.loop-before.invariant c.index.result.now.level, c.loop-before-test.true, c.ranges.n)

pub overflow_add-past : goal.overflow_add-past
overflow_add-past c =
    let p = c.args.policy.now in
    let g : ℕ = c.next_number-x.result / 8589934592 % c.len-in-loop-before.result in
    let was : Past = c.index-in-loop-before.result.now in
    let within : g < length c.loop-before.pasts.items = omega (arith, c.len-in-loop-before.ensures, c.in_ok-rows.rows.ok, ap length c.in_ok-rows.ensures.rows, c.in_ok-rows.ensures.some, c.loop-before.invariant.each) in
    let few = few_events c.loop-before.invariant g was within c.index-in-loop-before.ensures in
    omega (arith, few, ap (λ (x : Past). x.events) c.in_ok-past.ensures.past, next_events was (last_in c.loop-before.clients c.index.result.now.level) (last_in c.loop-before.sessions c.index.result.now.level), c.loop-before-test.true, c.ranges.n)

pub loop-before-preserved : goal.loop-before-preserved
loop-before-preserved c =
    let p = c.args.policy.now in
    let y = c.next_number-x.result in
    let n : c.len-in-loop-before.result ≡ length (rows p) = omega (arith, c.len-in-loop-before.ensures, c.in_ok-rows.rows.ok, ap length c.in_ok-rows.ensures.rows) in
    let g : ℕ = y / 8589934592 % c.len-in-loop-before.result in
    let is_g : g ≡ place_of (length (rows p)) y = ap (λ k. roll y % k) n in
    let within : g < length c.loop-before.pasts.items = omega (arith, c.len-in-loop-before.ensures, c.in_ok-rows.rows.ok, ap length c.in_ok-rows.ensures.rows, c.in_ok-rows.ensures.some, c.loop-before.invariant.each) in
    let within_rows : g < length c.in_ok-rows.rows.items = omega (arith, c.len-in-loop-before.ensures, c.in_ok-rows.rows.ok, c.in_ok-rows.ensures.some) in
    let r : Row = c.index.result.now in
    let is_r : r ≡ row_at p g = get_or_read_under c.in_ok-rows.rows.items g (length c.in_ok-rows.rows.items) r (row p 0 0) c.index.ensures within_rows refl ∙ ap (λ all. slice_index_or all g (row p 0 0)) c.in_ok-rows.ensures.rows in
    let pushed = c.in_ok-push.ensures.items in
    rw pushed
    (stands_more p c.args.seed c.loop-before.before c.loop-before.x c.loop-before.pasts.items c.loop-before.clients c.loop-before.sessions c.loop-before.events.items c.loop-before.invariant
    y g r c.index-in-loop-before.result.now c.in_ok-past.past c.next_past.new.clients c.next_past.new.sessions c.in_ok-event_of.field-0
    c.next_number-x.ensures is_g within is_r c.index-in-loop-before.ensures c.in_ok-past.ensures.past c.in_ok-past.ensures.clients c.in_ok-past.ensures.sessions c.in_ok-event_of.ensures.event c.in_ok-event_of.ensures.fits c.in_ok-event_of.ensures.request)
