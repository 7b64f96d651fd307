use Rattle.std.proofs.Common.{◌≡◌, ap, true, length, arith}
use Rattle.std.specs.Prelude.{nat_lt}
use Rattle.std.proofs.lemmas.Bool.Decides.{nat_tests}
use Rattle.lnfs_world.specs.World.{Node}
use Rattle.lnfs_world.specs.Outcome.{Place, Outcome}
use Rattle.lnfs_site.specs.Site.{site_of}
use Rattle.lnfs_operations.specs.declared.Gate.TheVariants.{Namespace}
use Rattle.lnfs_operations.specs.Chain.{Answer, refuse, done, demand}
use Rattle.lnfs_operations.specs.Extra.{place_at}
use Rattle.lnfs_operations.specs.StateIds.{Reading}
use Rattle.lnfs_operations.specs.Accessed.{accessed}
use Rattle.lnfs_tree.specs.Rows.{rows_of}
use Rattle.lnfs_engine.specs.Further.{spot_of}
use Rattle.lnfs_sparse_ops.specs.declared.numbers.TheConstants.{NFS4ERR_NXIO}
use Rattle.lnfs_sparse_ops.specs.Arguments.{SeekArgs}
use Rattle.lnfs_sparse_ops.specs.Seek.{Sought, seek, sought}
use Rattle.lnfs_sparse_args.specs.Values.{seek_args_of}
use Rattle.lnfs_sparse.specs.Files.{where_ready}
use Rattle.lnfs_sparse.proofs.HeldFiles.{size_is}
use Rattle.lnfs_sparse.proofs.Led.{err_leads, off, led}
use Rattle.lnfs_sparse.proofs.seek.find_file.Goals as goal

module _ (p : Place) (args : SeekArgs) where
  abbrev next : Node → Outcome (Answer Sought)
  next n = demand (nat_lt args.offset (length n.inner.content)) (refuse p Namespace NFS4ERR_NXIO) (done p (sought args n) (accessed p n))

pub returns-in_err-held : goal.returns-in_err-held
returns-in_err-held c =
    let w = c.args.store.now in
    let site = site_of c.args.at.now.site.now in
    let p : Place = place_at (spot_of c.args.at.now) in
    let args : SeekArgs = seek_args_of c.args.args.now in
    err_leads (seek site args p w) p w (sought args) (accessed p) c.from_residual-in_err-held.result c.in_err-held.field-0.0 c.from_residual-in_err-held.ensures.1
    (off site p w args.id Reading (next p args) (seek site args p w) (c.in_ok-check_sort.ensures.sort p (where_ready site p w args.id Reading (next p args))) c.in_err-held.field-0.0 c.in_err-held.ensures.refused)

pub returns : goal.returns
returns c =
    let w = c.args.store.now in
    let site = site_of c.args.at.now.site.now in
    let p : Place = place_at (spot_of c.args.at.now) in
    let args : SeekArgs = seek_args_of c.args.args.now in
    let h = c.in_ok-held.held in
    led site p w args.id Reading (next p args) (seek site args p w) (c.in_ok-check_sort.ensures.sort p (where_ready site p w args.id Reading (next p args))) h c.in_ok-held.ensures.held c.in_ok-held.ensures.refused c.in_ok-held.ensures.file (sought args) (accessed p)
    (λ n holds file.
    let size = size_is (rows_of w) n h holds file in
    let within : nat_lt args.offset (length n.inner.content) ≡ true = grind (arith, nat_tests, size) in
    ap (λ b. demand b (refuse p Namespace NFS4ERR_NXIO) (done p (sought args n) (accessed p n))) within)
