use Rattle.std.proofs.Common.{rules, ◌<◌, ◌^◌, length, ap, ◌∙◌, arith}
use Rattle.lnfs_traffic.proofs.Lengths.{message_short}
use Rattle.lnfs_traffic.proofs.generator.event_of.Goals as goal

pub returns-clause-fits : goal.returns-clause-fits
returns-clause-fits c =
    let place : c.args.turn.now.place < 2 ^ 32 = search rules in
    let event : c.args.turn.now.event < 2 ^ 32 = search rules in
    record {
      short = omega (arith, ap length (c.new.ensures ∙ c.in_ok-message_of.ensures.text), message_short c.args.row.now c.args.turn.now place);
      secs = omega arith;
      nanos = omega arith;
    }
