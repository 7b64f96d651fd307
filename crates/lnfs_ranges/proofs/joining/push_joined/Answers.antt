use Rattle.std.proofs.Common.{◌++◌, ◌∷◌, [], ◌-◌, arith, ◌∙◌, sym, subst}
use Rattle.lnfs_ranges.specs.Modes.{AreApart}
use Rattle.lnfs_ranges.proofs.Joins.{apart_joined}
use Rattle.lnfs_ranges.proofs.Ends.{ended_joined, ended_apart, ended_empty}
use Rattle.lnfs_ranges.proofs.joining.push_joined.Goals as goal
use Rattle.lnfs_ranges.proofs.joining.push_joined.Goals.{then-len-gt0+else-touches, else-len-gt0}

pub returns-then-touches-clause-ok : goal.returns-then-touches-clause-ok
returns-then-touches-clause-ok c =
    sym (ended_joined c.args.out.now.items (c.len-len.result - 1) c.index.result.now c.args.range (omega arith) c.requires c.index.ensures (sym c.touches.ensures ∙ c.if-touches.true))

pub returns-then-touches-clause-apart : goal.returns-then-touches-clause-apart
returns-then-touches-clause-apart c =
    subst AreApart (ended_joined c.args.out.now.items (c.len-len.result - 1) c.index.result.now c.args.range (omega arith) c.requires c.index.ensures (sym c.touches.ensures ∙ c.if-touches.true)) (apart_joined (c.args.out.now.items ++ c.args.range ∷ []))

pub returns-clause-ok : goal.returns-clause-ok
returns-clause-ok c = c.in_ok-push.ensures.items ∙ sym (elim c.if-len-gt0.branch [
  | then-len-gt0+else-touches w ↦ ended_apart c.args.out.now.items (c.len-len.result - 1) w.index.result.now c.args.range (omega arith) c.requires w.index.ensures (sym w.touches.ensures ∙ w.if-touches.false)
  | else-len-gt0 w ↦ ended_empty c.args.out.now.items c.args.range (omega arith)
])

pub returns-clause-apart : goal.returns-clause-apart
returns-clause-apart c = subst AreApart (sym (returns-clause-ok c)) (apart_joined (c.args.out.now.items ++ c.args.range ∷ []))
