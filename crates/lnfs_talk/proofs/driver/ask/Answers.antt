use Rattle.std.proofs.Common.{◌≡◌, true, false, rules}
use Rattle.lnfs_client.specs.Machine.{may_ask}
use Rattle.lnfs_talk.proofs.Driving.{none_sent, one_sent, nothing_sent, puts_none, puts_as}
use Rattle.lnfs_talk.proofs.driver.ask.Goals as goal

pub returns-then-not-branch-clause-sent : goal.returns-then-not-branch-clause-sent
returns-then-not-branch-clause-sent g c =
    let may : may_ask c.args.dialogue.now.client ≡ false = first_of (cc (c.in_ok-ask.ensures.made), search rules) in
    puts_none tt _ _ (none_sent g.M.Mechanism.signing c.args.policy.now c.args.dialogue.now.client may)

pub returns-in-Some-clause-sent : goal.returns-in-Some-clause-sent
returns-in-Some-clause-sent g c =
    let may : may_ask c.args.dialogue.now.client ≡ true = first_of (cc (c.in_ok-ask.ensures.made), search rules) in
    puts_as _ _ (one_sent g.M.Mechanism.signing c.args.policy.now c.args.dialogue.now c.ask.new.self c.in-Some.message.now may c.in_ok-ask.ensures.client c.in-Some.ensures) c.send.ensures.bytes

pub returns-in-None-clause-sent : goal.returns-in-None-clause-sent
returns-in-None-clause-sent g c =
    let may : may_ask c.args.dialogue.now.client ≡ true = first_of (cc (c.in_ok-ask.ensures.made), search rules) in
    puts_none tt _ _ (nothing_sent g.M.Mechanism.signing c.args.policy.now c.args.dialogue.now c.ask.new.self may c.in_ok-ask.ensures.client c.in-None.ensures)
