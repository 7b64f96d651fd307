use Rattle.std.proofs.Common.{◌≡◌, Err, inl, arith, rules}
use Rattle.lnfs_stage.specs.declared.stop.Stop.TheVariants.{Memory}
use Rattle.lnfs_stage.proofs.Doing.{does_short, as_stop, beside_net}
use Rattle.lnfs_talk.specs.Fits.{texts_in}
use Rattle.lnfs_talk.proofs.Driving.{does_heard, frames_asked, state_asked, same_count, next_count, shown_heard, shown_then, puts_as, on_ok}
use Rattle.lnfs_talk.proofs.driver.take.Goals as goal

pub returns-in_err-text-clause-shown : goal.returns-in_err-text-clause-shown
returns-in_err-text-clause-shown g c =
    let is : c.from_residual.result ≡ Err Memory = first_of (cc (c.in_err-text.ensures.short), search rules) in
    beside_net _ _ (does_short _ _ is)

pub returns-in_err-show-clause-shown : goal.returns-in_err-show-clause-shown
returns-in_err-show-clause-shown g c =
    beside_net _ _ (does_heard g.M.Mechanism.signing c.args.policy.now c.args.dialogue.now c.args.message.now c.requires.goes_on (texts_in c.in_ok-text.text) c.in_ok-text.ensures.heard.1
    (as_stop c.in_err-show.field-0.0 (search rules) c.in_err-show.ensures.does))

pub ask-requires-clause-room : goal.ask-requires-clause-room
ask-requires-clause-room g c = omega (arith, same_count g.M.Mechanism.signing c.args.policy.now c.args.dialogue.now c.args.message.now c.hear.new.self c.in_ok-text.ensures.heard.0)

pub returns-clause-state : goal.returns-clause-state
returns-clause-state g c = on_ok c.ask.result
    (state_asked g.M.Mechanism.signing c.args.policy.now c.args.dialogue.now c.args.message.now c.requires.goes_on c.hear.new.self c.in_ok-text.ensures.heard.0 c.ask.new.dialogue) c.ask.ensures.client

pub returns-clause-sent : goal.returns-clause-sent
returns-clause-sent g c = puts_as _ _
    (frames_asked g.M.Mechanism.signing c.args.policy.now c.args.dialogue.now c.args.message.now c.requires.goes_on c.hear.new.self c.in_ok-text.ensures.heard.0) c.ask.ensures.sent

pub returns-clause-shown : goal.returns-clause-shown
returns-clause-shown g c = shown_then _ _ c.ask.result _
    (does_heard g.M.Mechanism.signing c.args.policy.now c.args.dialogue.now c.args.message.now c.requires.goes_on (texts_in c.in_ok-text.text) c.in_ok-text.ensures.heard.1 c.in_ok-show.ensures.does) c.ask.ensures.excused

pub returns-clause-in_turn : goal.returns-clause-in_turn
returns-clause-in_turn g c =
    inl (shown_heard g.M.Mechanism.signing c.args.policy.now c.args.dialogue.now c.args.message.now c.requires.goes_on (texts_in c.in_ok-text.text) c.in_ok-text.ensures.heard.1 c.in_ok-show.ensures.shown)

pub returns-clause-count : goal.returns-clause-count
returns-clause-count g c = on_ok c.ask.result
    (next_count g.M.Mechanism.signing c.args.policy.now c.args.dialogue.now c.args.message.now c.hear.new.self c.ask.new.dialogue c.in_ok-text.ensures.heard.0) c.ask.ensures.client
