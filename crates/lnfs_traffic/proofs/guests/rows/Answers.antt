use Rattle.std.proofs.Common.{◌≡◌, ◌<◌, length, map, take, sym, ap, ◌∙◌, arith}
use Rattle.std.proofs.lemmas.Bool.Decides.{nat_tests}
use Rattle.std.proofs.Math.Seq.{take-length}
use Rattle.lnfs_traffic.specs.Generated.{row_of}
use Rattle.lnfs_traffic.proofs.Rows.{rows_some}
use Rattle.lnfs_traffic.proofs.guests.rows.Goals as goal

pub returns-clause-rows : goal.returns-clause-rows
returns-clause-rows c =
    let guests = c.guests-guests.result.now in
    let all : c.loop-guest.guest-index ≡ length guests = omega (arith, c.loop-guest-test.false, c.loop-guest.auto.guest-index-end) in
    let any : 0 < length guests = grind (arith, nat_tests, c.if-is_empty.false, c.is_empty.ensures) in
    let some : 0 < length c.args.policy.now.guests = omega (arith, ap length c.guests-guests.ensures, any) in
    c.loop-guest.invariant
    ∙ ap (λ n. map (row_of c.args.policy.now) (take n guests)) all
    ∙ ap (map (row_of c.args.policy.now)) (take-length guests ∙ c.guests-guests.ensures)
    ∙ sym (rows_some c.args.policy.now some)
