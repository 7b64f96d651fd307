use Rattle.std.proofs.Common.{◌≡◌}
use Rattle.lnfs_xdr.specs.Canon.{word, long}
use Rattle.lnfs_nodes.proofs.handles.handle_of.Goals as goal

pub returns : goal.returns
unfolding word long
returns c =
    let home : c.copy_from_slice.new.self ≡ word c.args.id.home.0 = cc in
    let number : c.copy_from_slice-2.new.self ≡ long c.args.id.number = cc in
    rw (home, number)
