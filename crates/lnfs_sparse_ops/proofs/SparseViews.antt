-- What ALLOCATE, DEALLOCATE, SEEK and CLONE look at: what their subject sees.
use Rattle.std.proofs.Common.{◌≡◌, ◌+◌, ℕ, Bool, true, false, cond, not, List, length, Ok, Err, refl, ap, ◌∙◌}
use Rattle.std.specs.Prelude.{◌==◌, nat_le, nat_lt}
use Rattle.lnfs_calipso.specs.Label.{IsPreorderWithBottom}
use Rattle.lnfs_xdr.specs.Reading.{Read as ReadOf, read}
use Rattle.lnfs_arguments.specs.declared.statuses.TheConstants.{NFS4ERR_INVAL, NFS4ERR_NOTSUPP}
use Rattle.lnfs_world.specs.World.{Node, World}
use Rattle.lnfs_world.specs.Erased.{shrunk, erased}
use Rattle.lnfs_world.specs.Effects.{size_written}
use Rattle.lnfs_world.specs.Outcome.{Site, Place, Outcome, Stands, View}
use Rattle.lnfs_world.proofs.Seen.{shrunk_whole}
use Rattle.lnfs_operations.specs.declared.Gate.TheVariants.{Namespace, Outside}
use Rattle.lnfs_operations.specs.Accessed.{accessed}
use Rattle.lnfs_operations.specs.Chain.{Answer, refuse, done, demand}
use Rattle.lnfs_operations.specs.Files.{where_fitting}
use Rattle.lnfs_operations.specs.StateIds.{Reading, Writing}
use Rattle.lnfs_operations.proofs.Chains.{demand_alike, standing_view}
use Rattle.lnfs_operations.proofs.CurrentLaws.{saved_held, with_node-seen, with_current-seen}
use Rattle.lnfs_operations.proofs.FileLaws.{where_fitting-seen}
use Rattle.lnfs_operations.proofs.StateIdLaws.{where_usable-seen}
use Rattle.lnfs_operations.proofs.TakingLaws.{own_whole}
use Rattle.lnfs_sparse_ops.specs.declared.numbers.TheConstants.{OP_ALLOCATE, OP_DEALLOCATE, OP_SEEK, OP_CLONE, NFS4_CONTENT_HOLE, NFS4ERR_NXIO}
use Rattle.lnfs_sparse_ops.specs.Arguments.{RegionArgs, SeekArgs, CloneArgs, region_args, seek_args, clone_args}
use Rattle.lnfs_sparse_ops.specs.Regions.{is_region, is_file}
use Rattle.lnfs_sparse_ops.specs.Allocate.{size_allocated, allocated, allocate}
use Rattle.lnfs_sparse_ops.specs.Deallocate.{deallocated, deallocate}
use Rattle.lnfs_sparse_ops.specs.Seek.{sought, seek, seek_text}
use Rattle.lnfs_sparse_ops.specs.Clone.{are_ranges, bytes_cloned, overlap, cloned, clone}
use Rattle.lnfs_sparse_ops.specs.Outcome.{told, plain, with_arguments, answered}

module _ (site : Site) (lattice : IsPreorderWithBottom site.dom) (p : Place) (w : World) (stands : Stands site.dom p w) where
  abbrev seen : World
  seen = erased site.dom p.subject w

  allocate_seen : (args : RegionArgs) → allocate site args p seen ≡ allocate site args p w
  allocate_seen args =
      demand_alike (is_region args.offset args.length) _ _ _ (λ region.
      with_current-seen site.dom p w stands _ _ (λ n held.
      demand_alike (is_file n.kind) _ _ _ (λ file.
      demand_alike (p.subject == n.label) _ _ _ (λ own.
      where_usable-seen site lattice p w n args.id Writing _ _ (
      ap (λ m. where_fitting site p seen m (size_allocated args m) (done p tt (allocated p m args))) (own_whole site.dom lattice p w stands n own)
      ∙ where_fitting-seen site lattice p w stands n (size_allocated args n) _ own)))))

  deallocate_seen : (args : RegionArgs) → deallocate site args p seen ≡ deallocate site args p w
  deallocate_seen args =
      demand_alike (is_region args.offset args.length) _ _ _ (λ region.
      with_current-seen site.dom p w stands _ _ (λ n held.
      demand_alike (is_file n.kind) _ _ _ (λ file.
      demand_alike (p.subject == n.label) _ _ _ (λ own.
      where_usable-seen site lattice p w n args.id Writing _ _ (
      ap (λ m. done p tt (deallocated p m args)) (own_whole site.dom lattice p w stands n own))))))

  seek_seen : (args : SeekArgs) → seek site args p seen ≡ seek site args p w
  seek_seen args =
      demand_alike (nat_le args.what NFS4_CONTENT_HOLE) _ _ _ (λ known.
      with_current-seen site.dom p w stands _ _ (λ n held.
      demand_alike (is_file n.kind) _ _ _ (λ file.
      demand_alike (site.dom p.subject n.label) _ _ _ (λ above.
      where_usable-seen site lattice p w n args.id Reading _ _ (
      ap (λ m. demand (nat_lt args.offset (length m.inner.content)) (refuse p Namespace NFS4ERR_NXIO) (done p (sought args m) (accessed p m))) (shrunk_whole site.dom p.subject n above))))))

  -- behind the tests of labels and of open state
  abbrev copied : CloneArgs → World → (s t : Node) → Outcome (Answer (Unit {0}))
  copied args v s t =
      demand (nat_le (args.from + args.count) (length s.inner.content)) (refuse p Namespace NFS4ERR_INVAL) (
      demand (not (overlap args s t)) (refuse p Namespace NFS4ERR_INVAL) (
      where_fitting site p v t (size_written args.to (bytes_cloned args s) t.inner.content) (
      done p tt (cloned p args s t))))

  copied_seen : (args : CloneArgs) (s t : Node) → (p.subject == t.label) ≡ true → copied args seen s t ≡ copied args w s t
  copied_seen args s t own =
      demand_alike (nat_le (args.from + args.count) (length s.inner.content)) _ _ _ (λ there.
      demand_alike (not (overlap args s t)) _ _ _ (λ apart.
      where_fitting-seen site lattice p w stands t (size_written args.to (bytes_cloned args s) t.inner.content) _ own))

  clone_seen : (args : CloneArgs) → clone site args p seen ≡ clone site args p w
  clone_seen args =
      demand_alike (are_ranges args) _ _ _ (λ ranges.
      with_node-seen site.dom p w stands p.saved _ _ (saved_held site.dom p w stands) (λ s held_s.
      with_current-seen site.dom p w stands _ _ (λ t held_t.
      demand_alike (is_file s.kind) _ _ _ (λ file_s.
      demand_alike (is_file t.kind) _ _ _ (λ file_t.
      demand_alike (site.dom p.subject s.label) _ _ _ (λ above.
      demand_alike (p.subject == t.label) _ _ _ (λ own.
      where_usable-seen site lattice p w s args.source Reading _ _ (
      where_usable-seen site lattice p w t args.target Writing _ _ (
      ap (λ m. copied args seen m (shrunk site.dom p.subject t)) (shrunk_whole site.dom p.subject s above)
      ∙ ap (λ m. copied args seen s m) (own_whole site.dom lattice p w stands t own)
      ∙ copied_seen args s t own)))))))))

  -- by number and arguments
  read_seen : {A : Type 0} (r : ReadOf ⊥ A) (shown found : A → Outcome (Answer (List ℕ))) → ((args : A) → shown args ≡ found args) → with_arguments p r shown ≡ with_arguments p r found
  read_seen (Ok x) shown found same = same x.0
  read_seen (Err stuck) shown found same = refl

  answered_seen : (number : ℕ) (arguments : List ℕ) → answered site number arguments p seen ≡ answered site number arguments p w
  answered_seen number arguments = by (number == OP_ALLOCATE) (number == OP_DEALLOCATE) (number == OP_SEEK) (number == OP_CLONE)
    where
      each : World → (a d s c : Bool) → Outcome (Answer (List ℕ))
      each v a d s c = cond a (with_arguments p (read region_args arguments) (λ args. plain (allocate site args p v)))
          (cond d (with_arguments p (read region_args arguments) (λ args. plain (deallocate site args p v)))
          (cond s (with_arguments p (read seek_args arguments) (λ args. told seek_text (seek site args p v)))
          (cond c (with_arguments p (read clone_args arguments) (λ args. plain (clone site args p v)))
          (refuse p Outside NFS4ERR_NOTSUPP))))

      by : (a d s c : Bool) → each seen a d s c ≡ each w a d s c
      by true d s c = read_seen (read region_args arguments) _ _ (λ args. ap plain (allocate_seen args))
      by false true s c = read_seen (read region_args arguments) _ _ (λ args. ap plain (deallocate_seen args))
      by false false true c = read_seen (read seek_args arguments) _ _ (λ args. ap (told seek_text) (seek_seen args))
      by false false false true = read_seen (read clone_args arguments) _ _ (λ args. ap plain (clone_seen args))
      by false false false false = refl

pub answered_view : (site : Site) → IsPreorderWithBottom site.dom → (number : ℕ) (arguments : List ℕ) → View site.dom (answered site number arguments)
answered_view site lattice number arguments = standing_view site.dom (answered site number arguments) (λ p w stands. answered_seen site lattice p w stands number arguments)
