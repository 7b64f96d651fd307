use Rattle.std.proofs.Common.{◌-◌, take, drop, ap, ◌∙◌, arith}
use Rattle.lnfs_incoming.proofs.Buffers.{grown, came}
use Rattle.lnfs_incoming.proofs.buffer.ReadBuffer.read_on.Goals as goal

pub returns-clause-read : goal.returns-clause-read
returns-clause-read g c =
    let end = c.self.inside.end - c.self.inside.start in
    let count = c.in-Ok-read_behind.count in
    let bytes = c.read_behind.new.bytes in
    let read = c.in-Ok-read_behind.ensures in
    let kept = read.kept ∙ ap (take end) c.as_mut_slice.ensures.value ∙ c.in-Ok.ensures.kept ∙ c.self.view_is in
    let size = came bytes end count read.bound in
    record {
      piece = take count (drop end bytes);
      reads = read.came.0;
      says = (
        omega (arith, size, c.if-count-eq0.false),
        grown c.args.self.now bytes c.make_room.new.bytes.items c.make_room.new.bytes.len end count (read.len ∙ c.as_mut_slice.ensures.len) kept,
      );
    }
