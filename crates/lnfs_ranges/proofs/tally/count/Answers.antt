use Rattle.std.proofs.Common.{Option, subst, sym, ◌∙◌}
use Rattle.lnfs_ranges.specs.declared.range.LockRange.{LockRange}
use Rattle.lnfs_ranges.specs.Tallying.{Tells}
use Rattle.lnfs_ranges.proofs.Tallies.{tells_joined, tells_apart, tells_first, none_left}
use Rattle.lnfs_ranges.proofs.tally.count.Goals as goal
use Rattle.lnfs_ranges.proofs.tally.count.Goals.{in-Some+else-touches, in_default}

pub returns-then-touches-clause-tells : goal.returns-then-touches-clause-tells
returns-then-touches-clause-tells c xs apart h =
    let at = λ (e : Option LockRange). Tells (record { len = c.args.tally.now.len; end = e }) xs in
    tells_joined c.args.tally.now.len c.in-Some.end c.args.range xs (sym c.touches.ensures ∙ c.if-touches.true) apart (subst at c.in-Some.is h)

pub returns-clause-tells : goal.returns-clause-tells
returns-clause-tells c xs apart h =
    let at = λ (e : Option LockRange). Tells (record { len = c.args.tally.now.len; end = e }) xs in
    elim c.match-tally.branch [
      | in-Some+else-touches w ↦ tells_apart c.args.tally.now.len w.in-Some.end c.args.range xs (sym w.touches.ensures ∙ w.if-touches.false) apart (subst at w.in-Some.is h)
      | in_default w ↦ tells_first c.args.tally.now.len c.args.range xs (subst at (none_left c.args.tally.now.end (λ e is. w.in_default.not-Some e is)) h)
    ]
