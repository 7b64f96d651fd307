use Rattle.std.proofs.Common.{subst}
use Rattle.lnfs_layout.specs.Fits.{AreLongs}
use Rattle.lnfs_layout.proofs.lasts.lasts_fit.Goals as goal

pub returns : goal.returns
returns c = record {
  clients = subst AreLongs c.as_slice.ensures.value c.are_longs.ensures;
  sessions = subst AreLongs c.as_slice-2.ensures.value c.are_longs-2.ensures;
  contexts = subst AreLongs c.as_slice-3.ensures.value c.are_longs-3.ensures;
  nodes = subst AreLongs c.as_slice-4.ensures.value c.are_longs-4.ensures;
  opens = subst AreLongs c.as_slice-5.ensures.value c.are_longs-5.ensures;
}
