use Rattle.std.proofs.Common.{◌++◌, arith, ap, ◌∙◌}
use Rattle.std.proofs.lemmas.Grind.{common_steps}
use Rattle.std.proofs.lemmas.Bool.Decides.{nat_tests}
use Rattle.lnfs_xdr.proofs.Fields.{IsBytes}
use Rattle.lnfs_traffic.specs.Parts.{Parts}
use Rattle.lnfs_traffic.proofs.Cutting.{cut, left_length}
use Rattle.lnfs_traffic.proofs.Fronts.{parts_some}
use Rattle.lnfs_traffic.proofs.Whole.{read_whole, read_damaged}
use Rattle.lnfs_traffic.proofs.reading.read_traffic.Goals as goal

pub loop-events-smaller : goal.loop-events-smaller
loop-events-smaller c =
    let r = rw c.in-Some-2.is at c.in_ok-event.ensures in
    let t = cut _ _ _ r in
    omega (arith, left_length t.left, t.whole)

pub loop-events-preserved : goal.loop-events-preserved
loop-events-preserved c =
    let r = rw c.in-Some-2.is at c.in_ok-event.ensures in
    let t = cut _ _ _ r in
    let p = parts_some _ _ _ r in
    let v = c.loop-events.invariant in (
      v.0 ∙ ap (λ (p : Parts). c.loop-events.events.items ++ p.events) p ∙ grind (arith, common_steps),
      v.1 ∙ ap (λ (p : Parts). p.rest) p,
      omega (arith, left_length t.left),
    )

pub returns-then-is_empty-clause-whole : goal.returns-then-is_empty-clause-whole
returns-then-is_empty-clause-whole c =
    let fits : IsBytes c.args.bytes.now = λ i. omega (arith, c.type_inv.bytes i) in
    let s = c.in-Some.ensures.cases in
    let v = c.loop-events.invariant in
    read_whole c.args.bytes.now _ _ _ s.0 s.1 v.0 v.1 (rw c.in_default-2.is at c.in_ok-event.ensures) fits (grind (arith, nat_tests, c.if-is_empty.ensures))

pub returns-else-is_empty-clause-damaged : goal.returns-else-is_empty-clause-damaged
returns-else-is_empty-clause-damaged c =
    let s = c.in-Some.ensures.cases in
    let v = c.loop-events.invariant in
    read_damaged c.args.bytes.now _ _ _ s.0 s.1 v.0 v.1 (rw c.in_default-2.is at c.in_ok-event.ensures) (grind (arith, nat_tests, c.if-is_empty.ensures))
