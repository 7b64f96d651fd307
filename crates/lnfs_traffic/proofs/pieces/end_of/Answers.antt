use Rattle.std.proofs.Common.{arith}
use Rattle.lnfs_traffic.proofs.Fed.{ends_behind, ends_first}
use Rattle.lnfs_traffic.proofs.pieces.end_of.Goals as goal

pub returns-then-place-gt0 : goal.returns-then-place-gt0
returns-then-place-gt0 c = ends_behind c.ends_at.result _ _ (omega (arith, c.if-place-gt0.true)) c.ends_at.ensures

pub returns-in-Some : goal.returns-in-Some
returns-in-Some c =
    let q = c.in-Some.ensures.cases in
    ends_first c.ends_at-in-Some.result _ _ (omega (arith, c.if-place-gt0.false)) q.0 (rw q.1 at c.ends_at-in-Some.ensures)
