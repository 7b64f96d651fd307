use Rattle.std.proofs.Common.{◌∙◌}
use Rattle.lnfs_xdr.specs.Format.{times}
use Rattle.lnfs_xdr.specs.Reading.{read}
use Rattle.lnfs_xdr.proofs.Loops.{goes_on}
use Rattle.lnfs_arguments.specs.Grammar.{callback}
use Rattle.lnfs_arguments.proofs.read_sessions.callbacks_of.Goals as goal

pub loop-preserved : goal.loop-preserved
loop-preserved c = record {
  so_far = rw c.in_ok-push.ensures.items (goes_on callback c.loop.callbacks.items c.args.count c.loop.counter c.loop.reader.rest c.in_ok-callback_of.field-0 c.callback_of.new.reader.rest (read (times c.args.count callback) c.args.reader.now.rest) c.loop-test.true c.in_ok-callback_of.ensures.0 c.loop.invariant.so_far);
  total = c.in_ok-callback_of.ensures.1 ∙ c.loop.invariant.total;
}
