use Rattle.std.proofs.Common.{List, take, sym, subst}
use Rattle.std.proofs.lemmas.List.{take_more, take_all}
use Rattle.lnfs_policy.specs.Guests.{AreLevelsOf}
use Rattle.lnfs_policy.specs.declared.rows.Guest.{Guest}
use Rattle.lnfs_policy.proofs.GuestLines.{none_yet}
use Rattle.lnfs_policy.proofs.guests.levels_of.Goals as goal

pub loop-line-init : goal.loop-line-init
loop-line-init c = none_yet c.new-levels.result c.new-levels.ensures.empty

pub loop-line-preserved : goal.loop-line-preserved
loop-line-preserved c =
    subst (λ (lines : List Guest). AreLevelsOf lines c.note.new.levels) (sym (take_more c.args.lines.now c.loop-line.line-index _ c.loop-line-test.true)) (c.in_ok-note.ensures (take c.loop-line.line-index c.args.lines.now) c.loop-line.invariant)

pub returns : goal.returns
returns c =
    subst (λ (lines : List Guest). AreLevelsOf lines c.loop-line.levels) (take_all c.loop-line.line-index c.args.lines.now c.loop-line-test.false) c.loop-line.invariant
