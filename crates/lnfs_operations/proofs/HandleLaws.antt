-- What the operations on file handles look at, and what they change.
use Rattle.std.proofs.Common.{◌≡◌, ℕ, List, [], Some, refl, sym, ap, ◌∙◌}
use Rattle.lnfs_calipso.specs.Label.{IsPreorderWithBottom}
use Rattle.lnfs_world.specs.World.{Id, World, node_at}
use Rattle.lnfs_world.specs.Erased.{shrunk, erased}
use Rattle.lnfs_world.specs.Tree.{root}
use Rattle.lnfs_world.specs.Outcome.{Site, Place, View, Footprint, may_hold}
use Rattle.lnfs_world.proofs.Seen.{node_at-id, node_at-seen}
use Rattle.lnfs_arguments.specs.declared.statuses.TheConstants.{NFS4ERR_STALE}
use Rattle.lnfs_operations.specs.declared.Gate.TheVariants.{Namespace}
use Rattle.lnfs_operations.specs.Chain.{refuse, done, where_there}
use Rattle.lnfs_operations.specs.Handles.{handle_named, is_handle, handle_of}
use Rattle.lnfs_operations.specs.FileHandles.{put_fh, put_root_fh, get_fh, save_fh, restore_fh}
use Rattle.lnfs_operations.proofs.Chains.{demand_alike, standing_view, unchanged_footprint, demand_footprint, where_footprint}
use Rattle.lnfs_operations.proofs.CurrentLaws.{shown_alike, saved_held, with_current-seen, with_current-footprint, current_footprint, saved_footprint}

module _ (site : Site) (lattice : IsPreorderWithBottom site.dom) where
  -- ---- PUTFH

  put_fh_seen : (handle : List ℕ) (p : Place) (w : World) → put_fh site handle p (erased site.dom p.subject w) ≡ put_fh site handle p w
  put_fh_seen handle p w =
      demand_alike (is_handle site handle) _ _ _ (λ good.
      demand_alike (site.dom p.subject (handle_named handle).level) _ _ _ (λ home.
      ap (λ o. where_there o (λ n. done (record p { current = Some n.id }) tt []) (refuse p Namespace NFS4ERR_STALE)) (node_at-seen site.dom p.subject w (handle_named handle) home)
      ∙ shown_alike (shrunk site.dom p.subject) _ _ (refuse p Namespace NFS4ERR_STALE) (node_at w.nodes (handle_named handle)) (λ n there. refl)))

  pub put_fh_view : (handle : List ℕ) → View site.dom (put_fh site handle)
  put_fh_view handle = standing_view site.dom (put_fh site handle) (λ p w stands. put_fh_seen handle p w)

  pub put_fh_footprint : (handle : List ℕ) → Footprint site.dom (put_fh site handle)
  put_fh_footprint handle p w stands =
      demand_footprint site.dom p w stands (is_handle site handle) _ _ (unchanged_footprint site.dom p w stands _) (λ good.
      demand_footprint site.dom p w stands (site.dom p.subject (handle_named handle).level) _ _ (unchanged_footprint site.dom p w stands _) (λ home.
      where_footprint site.dom p w stands (node_at w.nodes (handle_named handle)) _ _ (λ n there.
      current_footprint site.dom p w stands _ n.id (ap (λ (i : Id). site.dom p.subject i.level) (node_at-id (handle_named handle) w.nodes n there) ∙ home))
      (unchanged_footprint site.dom p w stands _)))

  -- ---- PUTROOTFH

  pub put_root_fh_view : View site.dom put_root_fh
  put_root_fh_view p a b sa sb e = refl

  pub put_root_fh_footprint : Footprint site.dom put_root_fh
  put_root_fh_footprint p w stands = current_footprint site.dom p w stands _ root (lattice.bottom p.subject)

  -- ---- GETFH

  pub get_fh_view : View site.dom get_fh
  get_fh_view = standing_view site.dom get_fh (λ p w stands. with_current-seen site.dom p w stands _ (λ n. done p (handle_of n.id) []) (λ n held. refl))

  pub get_fh_footprint : Footprint site.dom get_fh
  get_fh_footprint p w stands = with_current-footprint site.dom p w stands _ (λ n held. unchanged_footprint site.dom p w stands _)

  -- ---- SAVEFH

  pub save_fh_view : View site.dom save_fh
  save_fh_view = standing_view site.dom save_fh (λ p w stands. with_current-seen site.dom p w stands _ (λ n. done (record p { saved = Some n.id }) tt []) (λ n held. refl))

  pub save_fh_footprint : Footprint site.dom save_fh
  save_fh_footprint p w stands = with_current-footprint site.dom p w stands _ (λ n held. saved_footprint site.dom p w stands _ n.id held.home)

  -- ---- RESTOREFH

  pub restore_fh_view : View site.dom restore_fh
  restore_fh_view p a b sa sb e = refl

  pub restore_fh_footprint : Footprint site.dom restore_fh
  restore_fh_footprint p w stands =
      where_footprint site.dom p w stands p.saved _ _ (λ i there.
      current_footprint site.dom p w stands _ i (ap (may_hold site.dom p.subject) (sym there) ∙ saved_held site.dom p w stands))
      (unchanged_footprint site.dom p w stands _)
