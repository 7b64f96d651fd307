use Rattle.std.proofs.Common.{◌∙◌, ap, ℕ}
use Rattle.lnfs_xdr.specs.Format.{Word, times}
use Rattle.lnfs_xdr.specs.Reading.{read, here}
use Rattle.lnfs_xdr.proofs.Loops.{goes_on}
use Rattle.lnfs_arguments.proofs.read_sessions.words_of.Goals as goal

pub loop-preserved : goal.loop-preserved
loop-preserved c = record {
  so_far = rw c.in_ok-push.ensures.items (goes_on {E = ℕ × ℕ} Word c.loop.words.items c.args.count c.loop.counter c.loop.reader.rest c.in_ok-u32.field-0 c.u32.new.self.rest (read (times c.args.count Word) c.args.reader.now.rest) c.loop-test.true (ap (here c.loop.reader.rest) c.in_ok-u32.ensures.0) c.loop.invariant.so_far);
  total = c.in_ok-u32.ensures.1 ∙ c.loop.invariant.total;
}
