-- What REMOVE looks at, and what it changes.
use Rattle.std.proofs.Common.{◌≡◌, ℕ, Bool, not, List, ◌∷◌, refl, sym, ap, ◌∙◌}
use Rattle.std.specs.Prelude.{◌==◌}
use Rattle.lnfs_calipso.specs.Label.{IsPreorderWithBottom}
use Rattle.lnfs_world.specs.World.{Node, Entry, World, node_at, is_directory}
use Rattle.lnfs_world.specs.Erased.{erased, sees}
use Rattle.lnfs_world.specs.Effects.{names_changed}
use Rattle.lnfs_world.specs.Change.{Touch, apply}
use Rattle.lnfs_world.specs.Outcome.{Site, Place, Stands, View, Footprint, IsFootprint}
use Rattle.lnfs_world.proofs.Seen.{node_at-id, holds_names-seen}
use Rattle.lnfs_world.proofs.ChangedNames.{beside_both, place_left, own_label, taken_out-without}
use Rattle.lnfs_world.proofs.LinkedNames.{removed_within}
use Rattle.lnfs_arguments.specs.declared.statuses.TheConstants.{NFS4ERR_NOTEMPTY}
use Rattle.lnfs_operations.specs.declared.Gate.TheVariants.{Namespace}
use Rattle.lnfs_operations.specs.Chain.{refuse, done, demand}
use Rattle.lnfs_operations.specs.Names.{where_named}
use Rattle.lnfs_operations.specs.NewNames.{changed}
use Rattle.lnfs_operations.specs.Remove.{remove}
use Rattle.lnfs_operations.proofs.Chains.{demand_alike, standing_view, unchanged_footprint}
use Rattle.lnfs_operations.proofs.CurrentLaws.{with_current-seen}
use Rattle.lnfs_operations.proofs.TakingLaws.{own_whole, own_seen, where_old-seen, taken_out-seen}
use Rattle.lnfs_operations.proofs.Namings.{IsOwnDirectory, IsNamed, Leaves, removed, remove_any}

module _ (site : Site) (lattice : IsPreorderWithBottom site.dom) where
  remove_seen : (name : List ℕ) (p : Place) (w : World) → Stands site.dom p w → remove site name p (erased site.dom p.subject w) ≡ remove site name p w
  remove_seen name p w stands = ap (where_named p name) (
      with_current-seen site.dom p w stands _ _ (λ d held.
      demand_alike (is_directory d.kind) _ _ _ (λ directory.
      demand_alike (p.subject == d.label) _ _ _ (λ own.
      where_old-seen site.dom lattice p w stands d (own_seen site.dom lattice p w stands d held.found own) name _ _ (λ e n is there.
      demand_alike (p.subject == n.label) _ _ _ (λ own_child.
      let id = node_at-id e.node w.nodes n there in
      let seen = own_seen site.dom lattice p w stands n (ap (node_at w.nodes) id ∙ there) own_child in
      let holds = holds_names-seen site.dom p.subject w n.id seen in
      let whole = own_whole site.dom lattice p w stands d own in
      let out = taken_out-seen site.dom lattice p w stands p.moment e n (ap (λ i. sees site.dom p.subject w.nodes i) (sym id) ∙ seen) own_child in
      λ i. demand (not (holds i)) (refuse p Namespace NFS4ERR_NOTEMPTY) (done p (changed (whole i)) (Touch (whole i).id (names_changed p.moment (whole i).inner) ∷ out i))))))))

  pub remove_view : (name : List ℕ) → View site.dom (remove site name)
  remove_view name = standing_view site.dom (remove site name) (remove_seen name)

-- the changes of REMOVE are those that its subject may make
module _ (dom : ℕ → ℕ → Bool) (p : Place) (w : World) (stands : Stands dom p w) (name : List ℕ) (d n : Node) (e : Entry) (is : IsOwnDirectory p w d) (named : IsNamed w d name e n) (leaves : Leaves p w n) where
  removed_footprint : IsFootprint dom p w (removed p w d e n)
  removed_footprint =
      let id = node_at-id e.node w.nodes n named.there in
      record {
        within =
            removed_within dom p.subject w stands.facts p.moment d is.there is.directory (own_label p.subject w.nodes d.id d is.there is.own) name n
            e named.named named.there (own_label p.subject w.nodes e.node n named.there leaves.own) leaves.empty;
        place = place_left dom p w _ (beside_both w (apply (Touch d.id (names_changed p.moment d.inner)) w) _ (record { clients = refl; sessions = refl }) (taken_out-without p.moment w.entries e n _ id).beside) stands.place;
        subject = refl;
      }

pub remove_footprint : (site : Site) → IsPreorderWithBottom site.dom → (name : List ℕ) → Footprint site.dom (remove site name)
remove_footprint site lattice name p w stands = remove_any site p w (IsFootprint site.dom p w) name (λ gate status. unchanged_footprint site.dom p w stands _) (λ d n e is named leaves. removed_footprint site.dom p w stands name d n e is named leaves)
