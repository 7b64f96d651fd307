-- What ACCESS and READLINK look at, and what they change.
use Rattle.std.proofs.Common.{◌≡◌, ℕ, refl, ap}
use Rattle.lnfs_world.specs.World.{World}
use Rattle.lnfs_world.specs.Erased.{erased}
use Rattle.lnfs_world.specs.Outcome.{Site, Place, Stands, View, Footprint}
use Rattle.lnfs_world.proofs.Seen.{shrunk_whole}
use Rattle.lnfs_operations.specs.Chain.{done}
use Rattle.lnfs_operations.specs.Accessed.{accessed}
use Rattle.lnfs_operations.specs.Access.{access}
use Rattle.lnfs_operations.specs.Lookup.{is_link}
use Rattle.lnfs_operations.specs.ReadLink.{read_link}
use Rattle.lnfs_operations.proofs.Chains.{demand_alike, standing_view, unchanged_footprint, demand_footprint}
use Rattle.lnfs_operations.proofs.CurrentLaws.{with_current-seen, with_current-footprint, accessed_footprint}

module _ (site : Site) where
  -- ---- ACCESS

  access_seen : (bits : ℕ) (p : Place) (w : World) → Stands site.dom p w → access site bits p (erased site.dom p.subject w) ≡ access site bits p w
  access_seen bits p w stands = with_current-seen site.dom p w stands _ _ (λ n held. refl)

  pub access_view : (bits : ℕ) → View site.dom (access site bits)
  access_view bits = standing_view site.dom (access site bits) (access_seen bits)

  pub access_footprint : (bits : ℕ) → Footprint site.dom (access site bits)
  access_footprint bits p w stands = with_current-footprint site.dom p w stands _ (λ n held. unchanged_footprint site.dom p w stands _)

  -- ---- READLINK

  read_link_seen : (p : Place) (w : World) → Stands site.dom p w → read_link site p (erased site.dom p.subject w) ≡ read_link site p w
  read_link_seen p w stands =
      with_current-seen site.dom p w stands _ _ (λ n held.
      demand_alike (is_link n.kind) _ _ _ (λ link.
      demand_alike (site.dom p.subject n.label) _ _ _ (λ read.
      ap (λ m. done p m.inner.content (accessed p m)) (shrunk_whole site.dom p.subject n read))))

  pub read_link_view : View site.dom (read_link site)
  read_link_view = standing_view site.dom (read_link site) read_link_seen

  pub read_link_footprint : Footprint site.dom (read_link site)
  read_link_footprint p w stands =
      with_current-footprint site.dom p w stands _ (λ n held.
      demand_footprint site.dom p w stands (is_link n.kind) _ _ (unchanged_footprint site.dom p w stands _) (λ link.
      demand_footprint site.dom p w stands (site.dom p.subject n.label) _ _ (unchanged_footprint site.dom p w stands _) (λ read.
      accessed_footprint site.dom p w stands _ n held.found)))
