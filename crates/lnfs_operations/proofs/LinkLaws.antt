-- What LINK looks at, and what it changes.
use Rattle.std.proofs.Common.{◌≡◌, ℕ, Bool, not, List, [], ◌∷◌, None, refl, ap}
use Rattle.std.specs.Prelude.{◌==◌, nat_lt}
use Rattle.lnfs_calipso.specs.Label.{IsPreorderWithBottom}
use Rattle.lnfs_world.specs.declared.numbers.TheConstants.{MOST_NAMES}
use Rattle.lnfs_world.specs.World.{Node, World, is_directory}
use Rattle.lnfs_world.specs.Names.{entry_at}
use Rattle.lnfs_world.specs.Erased.{erased}
use Rattle.lnfs_world.specs.Effects.{attributes_changed, name_added, next_entry, has_cookie}
use Rattle.lnfs_world.specs.Change.{Touch, Link, apply_all}
use Rattle.lnfs_world.specs.Outcome.{Site, Place, Stands, View, Footprint, IsFootprint}
use Rattle.lnfs_world.proofs.ChangedNames.{place_left, own_label}
use Rattle.lnfs_world.proofs.LinkedNames.{linked_within}
use Rattle.lnfs_world.proofs.Seen.{entry_at-seen, names_of-seen}
use Rattle.lnfs_arguments.specs.declared.statuses.TheConstants.{NFS4ERR_EXIST, NFS4ERR_MLINK, NFS4ERR_NOSPC}
use Rattle.lnfs_operations.specs.declared.Gate.TheVariants.{Namespace, Quota}
use Rattle.lnfs_operations.specs.Chain.{refuse, done, demand, where_there}
use Rattle.lnfs_operations.specs.Names.{where_named}
use Rattle.lnfs_operations.specs.NewNames.{changed}
use Rattle.lnfs_operations.specs.Link.{link}
use Rattle.lnfs_operations.proofs.Chains.{demand_alike, standing_view, unchanged_footprint}
use Rattle.lnfs_operations.proofs.CurrentLaws.{saved_held, with_node-seen, with_current-seen}
use Rattle.lnfs_operations.proofs.TakingLaws.{own_whole, own_seen}
use Rattle.lnfs_operations.proofs.Namings.{IsOwnDirectory, Links, linked, link_any}

module _ (site : Site) (lattice : IsPreorderWithBottom site.dom) where
  link_seen : (name : List ℕ) (p : Place) (w : World) → Stands site.dom p w → link site name p (erased site.dom p.subject w) ≡ link site name p w
  link_seen name p w stands = ap (where_named p name) (
      with_node-seen site.dom p w stands p.saved _ _ (saved_held site.dom p w stands) (λ n held_node.
      with_current-seen site.dom p w stands _ _ (λ d held.
      demand_alike (not (is_directory n.kind)) _ _ _ (λ other.
      demand_alike (is_directory d.kind) _ _ _ (λ directory.
      demand_alike (p.subject == d.label) _ _ _ (λ own.
      demand_alike (p.subject == n.label) _ _ _ (λ own_node.
      let entry = entry_at-seen site.dom p.subject w d.id (own_seen site.dom lattice p w stands d held.found own) name in
      let names = names_of-seen site.dom lattice p.subject w stands.facts n.id (own_seen site.dom lattice p w stands n held_node.found own_node) in
      let d_whole = own_whole site.dom lattice p w stands d own in
      let n_whole = own_whole site.dom lattice p w stands n own_node in
      λ i. where_there (entry i) (λ e. refuse p Namespace NFS4ERR_EXIST) (
      demand (nat_lt (names i) MOST_NAMES) (refuse p Namespace NFS4ERR_MLINK) (
      demand (has_cookie (d_whole i)) (refuse p Quota NFS4ERR_NOSPC) (
      done p (changed (d_whole i)) (
      Touch (d_whole i).id (name_added p.moment (d_whole i).inner) ∷ Touch (n_whole i).id (attributes_changed p.moment (n_whole i).inner) ∷ Link (next_entry (d_whole i) name (n_whole i).id) ∷ [])))))))))))

  pub link_view : (name : List ℕ) → View site.dom (link site name)
  link_view name = standing_view site.dom (link site name) (link_seen name)

-- the changes of LINK are those that its subject may make
module _ (dom : ℕ → ℕ → Bool) (p : Place) (w : World) (stands : Stands dom p w) (name : List ℕ) (n d : Node) (is : IsOwnDirectory p w d) (links : Links p w name n d) (free : entry_at w.entries d.id name ≡ None) where
  linked_footprint : IsFootprint dom p w (linked p name n d)
  linked_footprint = record {
    within =
        linked_within dom p.subject w stands.facts p.moment d is.there is.directory (own_label p.subject w.nodes d.id d is.there is.own) name n
        links.there links.other (own_label p.subject w.nodes n.id n links.there links.own) free;
    place = place_left dom p w (apply_all (linked p name n d).changes w) (record { clients = refl; sessions = refl }) stands.place;
    subject = refl;
  }

pub link_footprint : (site : Site) → IsPreorderWithBottom site.dom → (name : List ℕ) → Footprint site.dom (link site name)
link_footprint site lattice name p w stands = link_any site p w (IsFootprint site.dom p w) name (λ gate status. unchanged_footprint site.dom p w stands _) (λ n d is links free. linked_footprint site.dom p w stands name n d is links free)
