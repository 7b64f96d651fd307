-- The ends of the operations that read: what holds of each holds of their outcomes.
use Rattle.std.proofs.Common.{◌≡◌, ℕ, true, not, List, [], Some, refl}
use Rattle.lnfs_world.specs.World.{Id, Node, World, node_at, is_directory}
use Rattle.lnfs_world.specs.Names.{entry_at}
use Rattle.lnfs_world.specs.Tree.{parent_of}
use Rattle.lnfs_world.specs.Outcome.{Site, Place, Outcome}
use Rattle.lnfs_monitor.specs.Rules.{Read}
use Rattle.lnfs_operations.specs.declared.Gate.{Gate}
use Rattle.lnfs_operations.specs.Chain.{Answer, refuse, done}
use Rattle.lnfs_operations.specs.Accessed.{accessed}
use Rattle.lnfs_operations.specs.Access.{Granted, access}
use Rattle.lnfs_operations.specs.Handles.{handle_of, handle_named, is_handle}
use Rattle.lnfs_operations.specs.FileHandles.{put_fh, get_fh, save_fh, restore_fh}
use Rattle.lnfs_operations.specs.Lookup.{is_link, lookup, lookup_parent}
use Rattle.lnfs_operations.specs.ReadLink.{read_link}
use Rattle.lnfs_operations.proofs.Chains.{demand_any, where_any}
use Rattle.lnfs_operations.proofs.Ends.{current_any, allowed_any, named_any}

-- a place with other file handles
abbrev pub IsMovedPlace : Place → Place → Type 0
IsMovedPlace p q = q ≡ record p { current = q.current; saved = q.saved }

module _ (P : Outcome (Answer (Unit {0})) → Type 0) (site : Site) (p : Place) (w : World) (refused : (gate : Gate) (status : ℕ) → P (refuse p gate status)) (moved : (q : Place) → IsMovedPlace p q → P (done q tt [])) where
  pub put_fh_any : (handle : List ℕ) → P (put_fh site handle p w)
  put_fh_any handle =
      demand_any P (is_handle site handle) _ _ (refused _ _) (λ form.
      demand_any P (site.dom p.subject (handle_named handle).level) _ _ (refused _ _) (λ home.
      where_any P (node_at w.nodes (handle_named handle)) _ _ (λ n there. moved (record p { current = Some n.id }) refl) (refused _ _)))

  pub save_fh_any : P (save_fh p w)
  save_fh_any = current_any P p refused w _ (λ i n there. moved (record p { saved = Some n.id }) refl)

  pub restore_fh_any : P (restore_fh p w)
  restore_fh_any = where_any P p.saved _ _ (λ i is. moved (record p { current = Some i }) refl) (refused _ _)

  pub lookup_any : (name : List ℕ) → P (lookup site name p w)
  lookup_any name =
      named_any P p refused name _ (current_any P p refused w _ (λ i d there.
      demand_any P (not (is_link d.kind)) _ _ (refused _ _) (λ other.
      demand_any P (is_directory d.kind) _ _ (refused _ _) (λ directory.
      allowed_any P p refused site (Read d.label) _ (λ above.
      where_any P (entry_at w.entries d.id name) _ _ (λ e is. moved (record p { current = Some e.node }) refl) (refused _ _))))))

  pub lookup_parent_any : P (lookup_parent site p w)
  lookup_parent_any =
      current_any P p refused w _ (λ i d there.
      demand_any P (is_directory d.kind) _ _ (refused _ _) (λ directory.
      allowed_any P p refused site (Read d.label) _ (λ above.
      where_any P (parent_of w.entries d.id) _ _ (λ i is. moved (record p { current = Some i }) refl) (refused _ _))))

pub get_fh_any : (P : Outcome (Answer (List ℕ)) → Type 0) (p : Place) (w : World) → ((gate : Gate) (status : ℕ) → P (refuse p gate status)) → ((i : Id) → P (done p (handle_of i) [])) → P (get_fh p w)
get_fh_any P p w refused told = current_any P p refused w _ (λ i n there. told n.id)

pub access_any : (P : Outcome (Answer Granted) → Type 0) (site : Site) (bits : ℕ) (p : Place) (w : World) → ((gate : Gate) (status : ℕ) → P (refuse p gate status)) → ((granted : Granted) → P (done p granted [])) → P (access site bits p w)
access_any P site bits p w refused told = current_any P p refused w _ (λ i n there. told _)

pub read_link_any : (P : Outcome (Answer (List ℕ)) → Type 0) (site : Site) (p : Place) (w : World) → ((gate : Gate) (status : ℕ) → P (refuse p gate status)) →
    ((i : Id) (n : Node) → node_at w.nodes i ≡ Some n → is_link n.kind ≡ true → P (done p n.inner.content (accessed p n))) → P (read_link site p w)
read_link_any P site p w refused told =
    current_any P p refused w _ (λ i n there.
    demand_any P (is_link n.kind) _ _ (refused _ _) (λ link.
    allowed_any P p refused site (Read n.label) _ (λ above. told i n there link)))
