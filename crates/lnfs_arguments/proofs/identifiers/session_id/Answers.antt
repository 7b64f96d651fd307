use Rattle.std.proofs.Common.{refl}
use Rattle.lnfs_xdr.specs.Canon.{word, long}
use Rattle.lnfs_arguments.proofs.identifiers.session_id.Goals as goal

pub returns : goal.returns
unfolding word long
returns c = rw (c.copy_from_slice.ensures.after, c.copy_from_slice-2.ensures.after, c.to_be_bytes.ensures, c.to_be_bytes-2.ensures, c.from.ensures) refl
