-- What LOOKUP and LOOKUPP look at, and what they change.
use Rattle.std.proofs.Common.{◌≡◌, ℕ, Bool, true, not, List, [], Some, ap}
use Rattle.std.specs.Prelude.{length, nat_le}
use Rattle.std.specs.Str.{is_utf8}
use Rattle.lnfs_calipso.specs.Label.{IsPreorderWithBottom}
use Rattle.lnfs_words.specs.Words.{is_empty}
use Rattle.lnfs_world.specs.World.{Node, World, is_directory}
use Rattle.lnfs_world.specs.Names.{entry_at}
use Rattle.lnfs_world.specs.Tree.{parent_of}
use Rattle.lnfs_world.specs.Erased.{sees, erased}
use Rattle.lnfs_world.specs.Outcome.{Site, Place, Outcome, Stands, View, Footprint, IsFootprint}
use Rattle.lnfs_world.proofs.Seen.{sees_node, entry_at-seen, parent_of-seen, entry_at-home, parent_home}
use Rattle.lnfs_arguments.specs.declared.statuses.TheConstants.{NFS4ERR_NOENT}
use Rattle.lnfs_operations.specs.declared.Gate.TheVariants.{Namespace}
use Rattle.lnfs_operations.specs.declared.numbers.TheConstants.{LONGEST_NAME}
use Rattle.lnfs_operations.specs.Chain.{Answer, refuse, done, where_there}
use Rattle.lnfs_operations.specs.Names.{has_bad_byte, is_dots, where_named}
use Rattle.lnfs_operations.specs.Lookup.{is_link, lookup, lookup_parent}
use Rattle.lnfs_operations.proofs.Chains.{demand_alike, standing_view, unchanged_footprint, demand_footprint, where_footprint}
use Rattle.lnfs_operations.proofs.CurrentLaws.{IsHeld, with_current-seen, with_current-footprint, current_footprint}

-- a name that isn't well formed leaves all as it was
where_named-footprint : {R : Type 0} (dom : ℕ → ℕ → Bool) (p : Place) (w : World) → Stands dom p w → (name : List ℕ) (next : Outcome (Answer R)) → IsFootprint dom p w next → IsFootprint dom p w (where_named p name next)
where_named-footprint dom p w stands name next is =
    demand_footprint dom p w stands (not (is_empty name)) _ _ (unchanged_footprint dom p w stands _) (λ some.
    demand_footprint dom p w stands (nat_le (length name) LONGEST_NAME) _ _ (unchanged_footprint dom p w stands _) (λ short.
    demand_footprint dom p w stands (is_utf8 name) _ _ (unchanged_footprint dom p w stands _) (λ text.
    demand_footprint dom p w stands (not (has_bad_byte name)) _ _ (unchanged_footprint dom p w stands _) (λ good.
    demand_footprint dom p w stands (not (is_dots name)) _ _ (unchanged_footprint dom p w stands _) (λ plain. is)))))

module _ (site : Site) (lattice : IsPreorderWithBottom site.dom) where
  -- a node that is read is seen
  pub read_seen : (p : Place) (w : World) (stands : Stands site.dom p w) (n : Node) → IsHeld site.dom p w stands n → site.dom p.subject n.label ≡ true → sees site.dom p.subject w.nodes n.id ≡ true
  read_seen p w stands n held read = sees_node site.dom lattice p.subject w stands.facts n.id n held.found read

  -- ---- LOOKUP

  lookup_seen : (name : List ℕ) (p : Place) (w : World) → Stands site.dom p w → lookup site name p (erased site.dom p.subject w) ≡ lookup site name p w
  lookup_seen name p w stands = ap (where_named p name) (
      with_current-seen site.dom p w stands _ _ (λ d held.
      demand_alike (not (is_link d.kind)) _ _ _ (λ other.
      demand_alike (is_directory d.kind) _ _ _ (λ directory.
      demand_alike (site.dom p.subject d.label) _ _ _ (λ read.
      ap (λ o. where_there o (λ e. done (record p { current = Some e.node }) tt []) (refuse p Namespace NFS4ERR_NOENT)) (entry_at-seen site.dom p.subject w d.id (read_seen p w stands d held read) name))))))

  pub lookup_view : (name : List ℕ) → View site.dom (lookup site name)
  lookup_view name = standing_view site.dom (lookup site name) (lookup_seen name)

  pub lookup_footprint : (name : List ℕ) → Footprint site.dom (lookup site name)
  lookup_footprint name p w stands = where_named-footprint site.dom p w stands name _ (
      with_current-footprint site.dom p w stands _ (λ d held.
      demand_footprint site.dom p w stands (not (is_link d.kind)) _ _ (unchanged_footprint site.dom p w stands _) (λ other.
      demand_footprint site.dom p w stands (is_directory d.kind) _ _ (unchanged_footprint site.dom p w stands _) (λ directory.
      demand_footprint site.dom p w stands (site.dom p.subject d.label) _ _ (unchanged_footprint site.dom p w stands _) (λ read.
      where_footprint site.dom p w stands (entry_at w.entries d.id name) _ _ (λ e there.
      current_footprint site.dom p w stands _ e.node (entry_at-home site.dom lattice p.subject w stands.facts d.id name e (read_seen p w stands d held read) there))
      (unchanged_footprint site.dom p w stands _))))))

  -- ---- LOOKUPP

  lookup_parent_seen : (p : Place) (w : World) → Stands site.dom p w → lookup_parent site p (erased site.dom p.subject w) ≡ lookup_parent site p w
  lookup_parent_seen p w stands =
      with_current-seen site.dom p w stands _ _ (λ d held.
      demand_alike (is_directory d.kind) _ _ _ (λ directory.
      demand_alike (site.dom p.subject d.label) _ _ _ (λ read.
      ap (λ o. where_there o (λ i. done (record p { current = Some i }) tt []) (refuse p Namespace NFS4ERR_NOENT)) (parent_of-seen site.dom lattice p.subject w stands.facts d.id (read_seen p w stands d held read)))))

  pub lookup_parent_view : View site.dom (lookup_parent site)
  lookup_parent_view = standing_view site.dom (lookup_parent site) lookup_parent_seen

  pub lookup_parent_footprint : Footprint site.dom (lookup_parent site)
  lookup_parent_footprint p w stands =
      with_current-footprint site.dom p w stands _ (λ d held.
      demand_footprint site.dom p w stands (is_directory d.kind) _ _ (unchanged_footprint site.dom p w stands _) (λ directory.
      demand_footprint site.dom p w stands (site.dom p.subject d.label) _ _ (unchanged_footprint site.dom p w stands _) (λ read.
      where_footprint site.dom p w stands (parent_of w.entries d.id) _ _ (λ i there.
      current_footprint site.dom p w stands _ i (parent_home site.dom lattice p.subject w stands.facts d.id (read_seen p w stands d held read) i there))
      (unchanged_footprint site.dom p w stands _))))
