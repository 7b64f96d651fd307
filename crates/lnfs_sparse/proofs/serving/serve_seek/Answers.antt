use Rattle.lnfs_world.specs.Outcome.{Place}
use Rattle.lnfs_xdr.specs.Reading.{read}
use Rattle.lnfs_site.specs.Site.{site_of}
use Rattle.lnfs_operations.specs.Extra.{place_at}
use Rattle.lnfs_engine.specs.Further.{spot_of}
use Rattle.lnfs_sparse_ops.specs.Arguments.{seek_args}
use Rattle.lnfs_sparse_ops.specs.Seek.{seek, seek_text}
use Rattle.lnfs_sparse_ops.specs.Outcome.{told}
use Rattle.lnfs_sparse_args.specs.Values.{seek_args_of}
use Rattle.lnfs_sparse.proofs.Unread.{ends_unread}
use Rattle.lnfs_sparse.proofs.serving.serve_seek.Goals as goal

pub returns-in-Err : goal.returns-in-Err
returns-in-Err c =
    let w = c.args.store.now in
    let p : Place = place_at (spot_of c.args.at.now) in
    ends_unread p w seek_args_of c.read_seek.result c.in-Err.field-0 (read seek_args c.args.args.now) (λ args. told seek_text (seek (site_of c.args.at.now.site.now) args p w)) c.unreadable.result c.refused.result c.read_seek.ensures c.in-Err.is c.unreadable.ensures c.refused.ensures
