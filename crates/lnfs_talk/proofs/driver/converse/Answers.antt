use Rattle.std.proofs.Common.{sym, ◌∙◌, subst, arith, rules}
use Rattle.lnfs_talk.specs.Fits.{Goes}
use Rattle.lnfs_talk.proofs.Dialogues.{beginning_goes}
use Rattle.lnfs_talk.proofs.Goings.{going_asked, going_on, talks_over, talks_short, talks_spent, talks_stopped, talks_unasked, talks_unheard}
use Rattle.lnfs_talk.proofs.driver.converse.Goals as goal

pub returns-in_err-dialogue : goal.returns-in_err-dialogue
returns-in_err-dialogue g c = talks_short _ _ _ _ _ _ (search rules)

pub ask-requires-clause-goes : goal.ask-requires-clause-goes
ask-requires-clause-goes g c =
    let p = c.args.policy.now in
    subst (Goes p) (sym c.in_ok-dialogue.ensures) (beginning_goes p c.args.level.0 c.args.script.now (c.beginning.ensures.start p c.args.level.0) (c.beginning.ensures.begun p) c.requires)

pub returns-in_err-ask : goal.returns-in_err-ask
returns-in_err-ask g c =
    let e = c.in_err-ask.ensures in
    talks_unasked _ _ _ _ c.in_err-ask.field-0.0 _ _ _ c.in_ok-dialogue.dialogue c.in_ok-dialogue.ensures (search rules) e.sent.front e.excused e.later e.left e.read_faults

pub loop-count-init : goal.loop-count-init
loop-count-init g c =
    let e = c.in_ok-ask.ensures in
    going_asked _ _ _ _ _ _ _ c.in_ok-dialogue.dialogue c.ask.new.dialogue c.in_ok-dialogue.ensures _ c.new-incoming.ensures e.client e.goes e.sent.whole e.left e.read_faults e.later

pub returns-in_err-message : goal.returns-in_err-message
returns-in_err-message g c =
    let e = c.in_err-message.ensures in
    talks_unheard _ _ _ _ _ _ _ _ _ _ _ _ _ c.loop-count.invariant c.in_err-message.field-0.0 (search rules) e.receives e.taken e.later e.write_faults (omega arith)

pub take-requires-clause-room : goal.take-requires-clause-room
take-requires-clause-room g c = omega (arith, c.loop-count.invariant.few)

pub take-requires-clause-goes : goal.take-requires-clause-goes
take-requires-clause-goes g c = c.loop-count.invariant.suits

pub take-requires-clause-goes_on : goal.take-requires-clause-goes_on
take-requires-clause-goes_on g c = c.loop-count.invariant.goes_on

pub returns-in_err-take : goal.returns-in_err-take
returns-in_err-take g c =
    let r = c.in_ok-message.ensures in
    let e = c.in_err-take.ensures in
    talks_stopped _ _ _ _ _ _ _ _ _ _ _ _ _ _ c.take.new.dialogue _ _ c.loop-count.invariant _ c.as_slice.ensures r.receives r.taken r.write_faults r.later e.left e.read_faults e.later (omega arith)
    c.in_err-take.field-0.0 (search rules) e.files e.sent.front e.shown

pub returns-then-is_over : goal.returns-then-is_over
returns-then-is_over g c =
    let r = c.in_ok-message.ensures in
    let e = c.in_ok-take.ensures in
    talks_over _ _ _ _ _ _ _ _ _ _ _ _ _ _ c.take.new.dialogue _ _ c.loop-count.invariant _ c.as_slice.ensures r.receives r.taken r.write_faults r.later e.left e.read_faults e.later (omega arith)
    e.state e.sent.whole e.shown (sym c.is_over.ensures ∙ c.if-is_over.true)

pub loop-count-preserved : goal.loop-count-preserved
loop-count-preserved g c =
    let r = c.in_ok-message.ensures in
    let e = c.in_ok-take.ensures in
    going_on _ _ _ _ _ _ _ _ _ _ _ _ _ _ c.take.new.dialogue _ _ c.loop-count.invariant _ c.as_slice.ensures r.receives r.taken r.write_faults r.later e.left e.read_faults e.later (omega arith)
    e.state e.sent.whole e.shown e.goes (sym c.is_over.ensures ∙ c.if-is_over.false) e.count

pub returns : goal.returns
returns g c = talks_spent _ _ _ _ _ _ _ _ _ _ _ c.loop-count.invariant (omega arith)
