use Rattle.std.proofs.Common.{arith, length, ap}
use Rattle.lnfs_words.specs.Words.{newline}
use Rattle.lnfs_words.proofs.Splits.{length-split}
use Rattle.lnfs_policy.proofs.Same.{same}
use Rattle.lnfs_policy.proofs.Again.{again}
use Rattle.lnfs_policy.proofs.Steps.{gone, done, turn, refused, lacking, given}
use Rattle.lnfs_policy.proofs.read.read_policy.Goals as goal
use Rattle.lnfs_policy.proofs.read.read_policy.Goals.{in-Some+then-is_end, in_default}

pub loop-line-init : goal.loop-line-init
loop-line-init g c =
    (rw (c.new-lines.ensures, c.new-reading.ensures) (same c.args.text.now), omega (arith, length-split newline c.args.text.now, ap length c.new-lines.ensures))

pub returns-in-Err-clause-refused : goal.returns-in-Err-clause-refused
returns-in-Err-clause-refused g c =
    rw c.at.ensures
    (refused _ c.loop-line.number c.loop-line.reading c.in-Some.line.now c.next.new.self c.loop-line.lines c.is_done-last.result
    c.in-Some.ensures c.is_done-last.ensures c.loop-line.invariant.0 c.in-Err.stop c.if-is_end.ensures c.in-Err.ensures)

pub loop-line-preserved : goal.loop-line-preserved
loop-line-preserved g c = (
  turn _ c.loop-line.number c.loop-line.reading c.in-Some.line.now c.next.new.self c.loop-line.lines c.is_done-last.result
      c.in-Some.ensures c.is_done-last.ensures c.loop-line.invariant.0 c.judge.new.self c.if-is_end.ensures c.in_default-judge.ensures,
  omega (arith, c.loop-line.invariant.1, ap length c.in-Some.ensures),
)

pub finish-requires : goal.finish-requires
finish-requires g c = λ policy e. again c.args.text.now policy (given _ c.loop-line.number c.loop-line.reading policy
    (elim c.match-next.branch [
      | in-Some+then-is_end w ↦ done _ c.loop-line.number c.loop-line.reading w.in-Some.line.now c.next.new.self c.loop-line.lines w.is_done-last.result
          w.in-Some.ensures w.is_done-last.ensures c.loop-line.invariant.0 w.if-is_end.ensures
      | in_default w ↦ gone _ c.loop-line.number c.loop-line.reading c.loop-line.lines w.in_default.ensures.0 c.loop-line.invariant.0
    ]) e)

pub returns-in-Ok-clause-accepted : goal.returns-in-Ok-clause-accepted
returns-in-Ok-clause-accepted g c = given _ c.loop-line.number c.loop-line.reading c.in-Ok.policy
    (elim c.match-next.branch [
      | in-Some+then-is_end w ↦ done _ c.loop-line.number c.loop-line.reading w.in-Some.line.now c.next.new.self c.loop-line.lines w.is_done-last.result
          w.in-Some.ensures w.is_done-last.ensures c.loop-line.invariant.0 w.if-is_end.ensures
      | in_default w ↦ gone _ c.loop-line.number c.loop-line.reading c.loop-line.lines w.in_default.ensures.0 c.loop-line.invariant.0
    ]) c.in-Ok.ensures

pub returns-in-Err-finish-clause-refused : goal.returns-in-Err-finish-clause-refused
returns-in-Err-finish-clause-refused g c = rw c.at-in-Err-finish.ensures (lacking _ c.loop-line.number c.loop-line.reading c.in-Err-finish.stop
    (elim c.match-next.branch [
      | in-Some+then-is_end w ↦ done _ c.loop-line.number c.loop-line.reading w.in-Some.line.now c.next.new.self c.loop-line.lines w.is_done-last.result
          w.in-Some.ensures w.is_done-last.ensures c.loop-line.invariant.0 w.if-is_end.ensures
      | in_default w ↦ gone _ c.loop-line.number c.loop-line.reading c.loop-line.lines w.in_default.ensures.0 c.loop-line.invariant.0
    ]) c.in-Err-finish.ensures)
