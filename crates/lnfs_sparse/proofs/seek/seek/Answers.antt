use Rattle.lnfs_world.specs.Outcome.{Place}
use Rattle.lnfs_site.specs.Site.{site_of}
use Rattle.lnfs_operations.specs.Extra.{place_at}
use Rattle.lnfs_engine.specs.Further.{spot_of}
use Rattle.lnfs_sparse_ops.specs.Seek.{seek, seek_text}
use Rattle.lnfs_sparse_args.specs.Values.{seek_args_of}
use Rattle.lnfs_sparse.proofs.Led.{ends_refused}
use Rattle.lnfs_sparse.proofs.seek.seek.Goals as goal

pub returns-in-Err : goal.returns-in-Err
returns-in-Err c =
    let w = c.args.store.now in
    let p : Place = place_at (spot_of c.args.at.now) in
    ends_refused seek_text (seek (site_of c.args.at.now.site.now) (seek_args_of c.args.args.now) p w) p w c.in-Err.why c.refused.result c.in-Err.ensures c.refused.ensures
