use Rattle.std.proofs.Common.{◌≡◌, ◌+◌, ◌^◌}
use Rattle.lnfs_xdr.specs.Canon.{word, long}
use Rattle.lnfs_byte_locks.proofs.states.told_of.Goals as goal

pub returns : goal.returns
unfolding word long
returns c =
    let level : c.copy_from_slice.new.self ≡ word c.args.id.level = cc in
    let number : c.copy_from_slice-2.new.self ≡ long (2 ^ 32 + c.args.id.number) = cc in
    rw (level, number)
