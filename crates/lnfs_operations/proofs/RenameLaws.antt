-- What RENAME looks at, and what it changes.
use Rattle.std.proofs.Common.{◌≡◌, ℕ, Bool, true, not, cond, List, [], ◌∷◌, Option, Some, None, refl, sym, ap, ◌∙◌}
use Rattle.std.specs.Prelude.{◌==◌, ◌&&◌, ◌||◌, ◌++◌}
use Rattle.lnfs_calipso.specs.Label.{IsPreorderWithBottom}
use Rattle.lnfs_world.specs.World.{Node, Entry, World, node_at, same_id, is_directory}
use Rattle.lnfs_world.specs.Names.{entry_at}
use Rattle.lnfs_world.specs.Erased.{erased, sees, shrunk}
use Rattle.lnfs_world.specs.Effects.{next_entry, has_cookie, taken_out, may_give_way, directories_changed}
use Rattle.lnfs_world.specs.Change.{Change, Move}
use Rattle.lnfs_world.specs.Outcome.{Site, Place, Stands, View, Footprint, IsFootprint}
use Rattle.lnfs_world.proofs.Seen.{node_at-id, entry_at-seen, holds_names-seen}
use Rattle.lnfs_world.proofs.ChangedNames.{place_left, own_label}
use Rattle.lnfs_world.proofs.MovedNames.{MayMove, AreWithin, moved_free, moved_onto as moved_onto_within}
use Rattle.lnfs_arguments.specs.declared.statuses.TheConstants.{NFS4ERR_INVAL, NFS4ERR_EXIST, NFS4ERR_NOSPC}
use Rattle.lnfs_operations.specs.declared.Gate.TheVariants.{Namespace, Quota}
use Rattle.lnfs_operations.specs.Chain.{refuse, done, demand}
use Rattle.lnfs_operations.specs.Names.{where_named}
use Rattle.lnfs_operations.specs.NewNames.{changed, unchanged}
use Rattle.lnfs_operations.specs.Rename.{Mover, moved, moved_onto, rename}
use Rattle.lnfs_operations.proofs.Chains.{demand_alike, standing_view, unchanged_footprint}
use Rattle.lnfs_operations.proofs.CurrentLaws.{saved_held, with_node-seen, with_current-seen}
use Rattle.lnfs_operations.proofs.TakingLaws.{own_whole, own_seen, where_old-seen, taken_out-seen, goes_under-seen}
use Rattle.lnfs_operations.proofs.Namings.{IsOwnDirectory, IsNamed, Moves, GivesWay, renamed, rename_any}

module _ (site : Site) (lattice : IsPreorderWithBottom site.dom) (p : Place) (w : World) (stands : Stands site.dom p w) where
  abbrev shown_world : World
  shown_world = erased site.dom p.subject w

  -- what moves, as its subject sees it
  abbrev shown_mover : Mover → Mover
  shown_mover m = record { entry = m.entry; node = shrunk site.dom p.subject m.node; from = shrunk site.dom p.subject m.from; to = shrunk site.dom p.subject m.to }

  -- the two directories are found, and of the subject's label
  record IsMover (m : Mover) : Type 0 where
    there : node_at w.nodes m.to.id ≡ Some m.to
    from : p.subject == m.from.label ≡ true
    to : p.subject == m.to.label ≡ true

  moved_seen : (new : List ℕ) (m : Mover) (shown room : List Change) → IsMover m → shown ≡ room → moved site new p shown_world (shown_mover m) shown ≡ moved site new p w m room
  moved_seen new m shown room is same =
      let under = goes_under-seen site.dom lattice p w stands m.node.id m.to.id (own_seen site.dom lattice p w stands m.to is.there is.to) in
      let from = own_whole site.dom lattice p w stands m.from is.from in
      let to = own_whole site.dom lattice p w stands m.to is.to in
      λ i. demand (not (under i)) (refuse p Namespace NFS4ERR_INVAL) (
      demand (has_cookie (to i)) (refuse p Quota NFS4ERR_NOSPC) (
      done p (record { source = changed (from i); target = changed (to i) }) (
      directories_changed p.moment (from i) (to i) ++ same i ++ Move m.entry (next_entry (to i) new m.node.id) ∷ [])))

  moved_onto_seen : (new : List ℕ) (m : Mover) → IsMover m → (o : Option Entry) → moved_onto site new p shown_world (shown_mover m) o ≡ moved_onto site new p w m o
  moved_onto_seen new m is None = moved_seen new m [] [] is refl
  moved_onto_seen new m is (Some other) =
      let from = own_whole site.dom lattice p w stands m.from is.from in
      let to = own_whole site.dom lattice p w stands m.to is.to in
      let onto = where_old-seen site.dom lattice p w stands m.to (own_seen site.dom lattice p w stands m.to is.there is.to) new _ _ (λ e n named there.
      demand_alike (p.subject == n.label) _ _ _ (λ own.
      let id = node_at-id e.node w.nodes n there in
      let seen = own_seen site.dom lattice p w stands n (ap (node_at w.nodes) id ∙ there) own in
      let holds = holds_names-seen site.dom p.subject w n.id seen in
      let out = taken_out-seen site.dom lattice p w stands p.moment e n (ap (λ i. sees site.dom p.subject w.nodes i) (sym id) ∙ seen) own in
      ap (λ b. demand b (refuse p Namespace NFS4ERR_EXIST) (moved site new p shown_world (shown_mover m) (taken_out p.moment shown_world.entries e (shrunk site.dom p.subject n)))) (gives_way m.node n _ _ holds)
      ∙ demand_alike (may_give_way w.entries m.node n) _ _ _ (λ gives. moved_seen new m _ _ is out))) in
      λ i. cond (same_id m.node.id other.node) (done p (record { source = unchanged (from i); target = unchanged (to i) }) []) (onto i)
    where
      gives_way : (mover other : Node) (shown held : Bool) → shown ≡ held → (is_directory mover.kind && (is_directory other.kind && not shown) || not (is_directory mover.kind) && not (is_directory other.kind)) ≡ (is_directory mover.kind && (is_directory other.kind && not held) || not (is_directory mover.kind) && not (is_directory other.kind))
      gives_way mover other shown held same = ap (λ b. is_directory mover.kind && (is_directory other.kind && not b) || not (is_directory mover.kind) && not (is_directory other.kind)) same

  rename_seen : (old new : List ℕ) → rename site old new p shown_world ≡ rename site old new p w
  rename_seen old new = ap (λ o. where_named p old (where_named p new o)) (
      with_node-seen site.dom p w stands p.saved _ _ (saved_held site.dom p w stands) (λ from held_from.
      with_current-seen site.dom p w stands _ _ (λ to held.
      demand_alike (is_directory from.kind) _ _ _ (λ directory_from.
      demand_alike (is_directory to.kind) _ _ _ (λ directory.
      demand_alike (p.subject == from.label) _ _ _ (λ own_from.
      demand_alike (p.subject == to.label) _ _ _ (λ own.
      where_old-seen site.dom lattice p w stands from (own_seen site.dom lattice p w stands from held_from.found own_from) old _ _ (λ e n named there.
      let m : Mover = record { entry = e; node = n; from = from; to = to } in
      ap (moved_onto site new p shown_world (shown_mover m)) (entry_at-seen site.dom p.subject w to.id (own_seen site.dom lattice p w stands to held.found own) new)
      ∙ moved_onto_seen new m (record { there = held.found; from = own_from; to = own }) (entry_at w.entries to.id new)))))))))

pub rename_view : (site : Site) → IsPreorderWithBottom site.dom → (old new : List ℕ) → View site.dom (rename site old new)
rename_view site lattice old new = standing_view site.dom (rename site old new) (λ p w stands. rename_seen site lattice p w stands old new)

-- the changes of RENAME are those that its subject may make
module _ (site : Site) (lattice : IsPreorderWithBottom site.dom) (p : Place) (w : World) (stands : Stands site.dom p w) (old new : List ℕ) (m : Mover) (from : IsOwnDirectory p w m.from) (to : IsOwnDirectory p w m.to) (named : IsNamed w m.from old m.entry m.node) (moves : Moves site p w new m) where
  may : MayMove site.dom p.subject w m.from old m.to m.entry m.node
  may = record {
    from_there = from.there;
    from_own = own_label p.subject w.nodes m.from.id m.from from.there from.own;
    to_there = to.there;
    to_own = own_label p.subject w.nodes m.to.id m.to to.there to.own;
    directory = to.directory;
    named = named.named;
    there = named.there;
    clear = moves.clear;
  }

  renamed_footprint : (room : List Change) → AreWithin site.dom p.subject w (renamed p new m room).changes → IsFootprint site.dom p w (renamed p new m room)
  renamed_footprint room are = record { within = are.within; place = place_left site.dom p w _ are.beside stands.place; subject = refl }

  free_footprint : entry_at w.entries m.to.id new ≡ None → IsFootprint site.dom p w (renamed p new m [])
  free_footprint free = renamed_footprint [] (moved_free site.dom lattice p.subject w stands.facts p.moment m.from old m.to new m.entry m.node may free)

  onto_footprint : (e : Entry) (n : Node) → IsNamed w m.to new e n → GivesWay p w m e n → IsFootprint site.dom p w (renamed p new m (taken_out p.moment w.entries e n))
  onto_footprint e n onto gives =
      renamed_footprint (taken_out p.moment w.entries e n) (moved_onto_within site.dom lattice p.subject w stands.facts p.moment m.from old m.to new m.entry m.node may e n (record {
        named = onto.named;
        there = onto.there;
        own = own_label p.subject w.nodes e.node n onto.there gives.own;
        differs = gives.differs;
        gives = gives.gives;
      }))

pub rename_footprint : (site : Site) → IsPreorderWithBottom site.dom → (old new : List ℕ) → Footprint site.dom (rename site old new)
rename_footprint site lattice old new p w stands = rename_any site p w (IsFootprint site.dom p w) old new (record {
  refused = λ gate status. unchanged_footprint site.dom p w stands _;
  stays = λ m. unchanged_footprint site.dom p w stands _;
  free = λ m from to named moves is. free_footprint site lattice p w stands old new m from to named moves is;
  onto = λ m e n from to named moves onto gives. onto_footprint site lattice p w stands old new m from to named moves e n onto gives;
})
