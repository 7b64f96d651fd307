use Rattle.std.proofs.Common.{Err, sym, subst}
use Rattle.lnfs_talk.specs.Talk.{State}
use Rattle.lnfs_talk.specs.Fits.{Goes}
use Rattle.lnfs_talk.proofs.Dialogues.{proceeded_goes, led_goes}
use Rattle.lnfs_talk.proofs.dialogue.Dialogue.hear.Goals as goal

pub returns-in_ok-text-in-Ok-Done-clause-goes : goal.returns-in_ok-text-in-Ok-Done-clause-goes
returns-in_ok-text-in-Ok-Done-clause-goes g c =
    let p = c.args.policy.now in
    let before : State = record { client = c.self.inside.client; actions = c.self.inside.actions.items; is_over = c.self.inside.is_over } in
    let now : State = record before { client = c.take_reply.new.self } in
    let goes : Goes p before = subst (Goes p) (sym c.self.view_is) c.requires in
    subst (Goes p) (sym c.proceed.ensures) (proceeded_goes p (c.beginning.ensures.begun p) now (record { client = c.take_reply.ensures.site; actions = goes.actions }))

pub returns-in_ok-refused-in-Err-clause-goes : goal.returns-in_ok-refused-in-Err-clause-goes
returns-in_ok-refused-in-Err-clause-goes g c =
    let p = c.args.policy.now in
    let before : State = record { client = c.self.inside.client; actions = c.self.inside.actions.items; is_over = c.self.inside.is_over } in
    let now : State = record before { client = c.take_reply.new.self } in
    let goes : Goes p before = subst (Goes p) (sym c.self.view_is) c.requires in
    subst (Goes p) (sym c.in_ok-refused-in-Err.ensures.led.0) (led_goes p (c.beginning.ensures.begun p) now (Err c.in-Err.cause) (record { client = c.take_reply.ensures.site; actions = goes.actions }))
