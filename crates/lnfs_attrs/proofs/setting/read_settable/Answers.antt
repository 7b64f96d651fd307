use Rattle.std.proofs.Common.{refl}
use Rattle.lnfs_attrs.proofs.Judging.{judged}
use Rattle.lnfs_attrs.proofs.setting.read_settable.Goals as goal

pub returns : goal.returns
returns c =
    let list = rw c.as_slice.ensures at c.list_of.ensures in
    judged c.args.raw.now c.list_of.result (c.if-not-supported.ensures.0 refl) (c.if-not-all_settable.ensures.0 refl) list
