use Rattle.std.proofs.Common.{sym, ◌∙◌, ap}
use Rattle.std.specs.Prelude.{is_some}
use Rattle.lnfs_policy.proofs.GuestLines.{kept_behind, noted_ahead}
use Rattle.lnfs_policy.proofs.guests.note.Goals as goal

pub returns-then-is_some : goal.returns-then-is_some
returns-then-is_some c = λ lines are.
    kept_behind c.args.levels.now lines c.args.line.now are (ap is_some (sym c.level_in.ensures) ∙ sym c.is_some.ensures ∙ c.if-is_some.true)

pub returns : goal.returns
returns c = λ lines are.
    noted_ahead c.args.levels.now lines c.args.line.now are c.insert.new.self
    (ap is_some (sym c.level_in.ensures) ∙ sym c.is_some.ensures ∙ c.if-is_some.false) c.in_ok-insert.ensures.updates
