-- The ends of the operations that give, take out and move names: what holds of each holds of their outcomes.
use Rattle.std.proofs.Common.{◌≡◌, ℕ, Bool, true, false, not, cond, List, [], ◌∷◌, Option, Some, None, refl, sym, ap, ◌∙◌, arith}
use Rattle.std.specs.Prelude.{◌==◌, ◌++◌, nat_lt}
use Rattle.std.proofs.lemmas.Bool.{not-true}
use Rattle.lnfs_arguments.specs.declared.stateid.Cinfo.{Cinfo}
use Rattle.lnfs_arguments.specs.declared.statuses.TheConstants.{NFS4ERR_NOENT, NFS4ERR_EXIST}
use Rattle.lnfs_world.specs.declared.numbers.TheConstants.{MOST_NAMES}
use Rattle.lnfs_world.specs.World.{Id, Node, Entry, World, same_id, node_at, is_directory}
use Rattle.lnfs_world.specs.Names.{entry_at, names_of}
use Rattle.lnfs_world.specs.Tree.{holds_names, goes_under}
use Rattle.lnfs_world.specs.Change.{Change, Touch, Link, Move}
use Rattle.lnfs_world.specs.Effects.{attributes_changed, name_added, names_changed, next_entry, has_cookie, taken_out, may_give_way, directories_changed}
use Rattle.lnfs_world.specs.Outcome.{Site, Place, Outcome}
use Rattle.lnfs_world.proofs.Seen.{node_at-id}
use Rattle.lnfs_monitor.specs.Rules.{Change as ChangeNames, Drop}
use Rattle.lnfs_operations.specs.declared.Gate.{Gate}
use Rattle.lnfs_operations.specs.declared.Gate.TheVariants.{Namespace}
use Rattle.lnfs_operations.specs.Chain.{Answer, refuse, done, demand}
use Rattle.lnfs_operations.specs.Judged.{where_allowed}
use Rattle.lnfs_operations.specs.NewNames.{where_old, changed, unchanged}
use Rattle.lnfs_operations.specs.Bounds.{is_well_formed}
use Rattle.lnfs_operations.specs.Link.{link}
use Rattle.lnfs_operations.specs.Remove.{remove}
use Rattle.lnfs_operations.specs.Rename.{Renamed, Mover, moved, moved_onto, rename}
use Rattle.lnfs_operations.proofs.Chains.{demand_any, where_any}
use Rattle.lnfs_operations.proofs.Ends.{node_any, current_any, allowed_any, named_any, well_named_any, new_any}

-- ---- what was tested

-- a directory of the subject's label, in which names are changed
pub record IsOwnDirectory (p : Place) (w : World) (d : Node) : Type 0 where
  pub there : node_at w.nodes d.id ≡ Some d
  pub directory : is_directory d.kind ≡ true
  pub own : p.subject == d.label ≡ true

-- a name in a directory, with the node that it names
pub record IsNamed (w : World) (d : Node) (name : List ℕ) (e : Entry) (n : Node) : Type 0 where
  pub named : entry_at w.entries d.id name ≡ Some e
  pub there : node_at w.nodes e.node ≡ Some n

-- a node that takes a further name
pub record Links (p : Place) (w : World) (name : List ℕ) (n d : Node) : Type 0 where
  pub named : is_well_formed name ≡ true
  pub there : node_at w.nodes n.id ≡ Some n
  pub other : is_directory n.kind ≡ false
  pub own : p.subject == n.label ≡ true
  pub few : nat_lt (names_of w.entries n.id) MOST_NAMES ≡ true
  pub left : has_cookie d ≡ true

-- a node that may be taken out
pub record Leaves (p : Place) (w : World) (n : Node) : Type 0 where
  pub own : p.subject == n.label ≡ true
  pub empty : holds_names w.entries n.id ≡ false

-- a name that may move
pub record Moves (site : Site) (p : Place) (w : World) (new : List ℕ) (m : Mover) : Type 0 where
  pub named : is_well_formed new ≡ true
  pub clear : goes_under site.dom p.subject w m.node.id m.to.id ≡ false
  pub left : has_cookie m.to ≡ true

-- another node that gives way to it
pub record GivesWay (p : Place) (w : World) (m : Mover) (e : Entry) (n : Node) : Type 0 where
  pub differs : same_id m.node.id e.node ≡ false
  pub own : p.subject == n.label ≡ true
  pub gives : may_give_way w.entries m.node n ≡ true

-- ---- the outcomes behind the tests

abbrev pub linked : Place → (name : List ℕ) → (n d : Node) → Outcome (Answer Cinfo)
linked p name n d = done p (changed d) (Touch d.id (name_added p.moment d.inner) ∷ Touch n.id (attributes_changed p.moment n.inner) ∷ Link (next_entry d name n.id) ∷ [])

abbrev pub removed : Place → World → Node → Entry → Node → Outcome (Answer Cinfo)
removed p w d e n = done p (changed d) (Touch d.id (names_changed p.moment d.inner) ∷ taken_out p.moment w.entries e n)

abbrev pub stayed : Place → Mover → Outcome (Answer Renamed)
stayed p m = done p (record { source = unchanged m.from; target = unchanged m.to }) []

abbrev pub renamed : Place → (new : List ℕ) → Mover → List Change → Outcome (Answer Renamed)
renamed p new m making_room =
    done p (record { source = changed m.from; target = changed m.to }) (
    directories_changed p.moment m.from m.to ++ making_room ++ Move m.entry (next_entry m.to new m.node.id) ∷ [])

-- ---- names

module _ {R : Type 0} (P : Outcome (Answer R) → Type 0) (p : Place) (w : World) (refused : (gate : Gate) (status : ℕ) → P (refuse p gate status)) where
  old_any : (d : Node) (name : List ℕ) (next : Entry → Node → Outcome (Answer R)) → ((e : Entry) (n : Node) → IsNamed w d name e n → P (next e n)) → P (where_old p w d name next)
  old_any d name next found =
      where_any P (entry_at w.entries d.id name) _ _ (λ e named.
      where_any P (node_at w.nodes e.node) (next e) _ (λ n there. found e n (record { named = named; there = there })) (refused Namespace NFS4ERR_NOENT)) (refused Namespace NFS4ERR_NOENT)

by_id : (w : World) (i : Id) (n : Node) → node_at w.nodes i ≡ Some n → node_at w.nodes n.id ≡ Some n
by_id w i n found = ap (node_at w.nodes) (node_at-id i w.nodes n found) ∙ found

-- ---- the operations

module _ (site : Site) (p : Place) (w : World) where
  pub link_any : (P : Outcome (Answer Cinfo) → Type 0) (name : List ℕ) → ((gate : Gate) (status : ℕ) → P (refuse p gate status)) →
      ((n d : Node) → IsOwnDirectory p w d → Links p w name n d → entry_at w.entries d.id name ≡ None → P (linked p name n d)) → P (link site name p w)
  link_any P name refused told =
      well_named_any P p refused name _ (λ named.
      node_any P p refused w p.saved _ (λ i n n_there.
      current_any P p refused w _ (λ j d d_there.
      demand_any P (not (is_directory n.kind)) _ _ (refused _ _) (λ other.
      demand_any P (is_directory d.kind) _ _ (refused _ _) (λ directory.
      allowed_any P p refused site (ChangeNames d.label) _ (λ own.
      allowed_any P p refused site (Drop n.label) _ (λ own_node.
      new_any P p refused w d name _ (λ free.
      demand_any P (nat_lt (names_of w.entries n.id) MOST_NAMES) _ _ (refused _ _) (λ few.
      demand_any P (has_cookie d) _ _ (refused _ _) (λ left.
      told n d
      (record { there = by_id w j d d_there; directory = directory; own = own })
      (record { named = named; there = by_id w i n n_there; other = not-true _ other; own = own_node; few = few; left = left })
      free))))))))))

  pub remove_any : (P : Outcome (Answer Cinfo) → Type 0) (name : List ℕ) → ((gate : Gate) (status : ℕ) → P (refuse p gate status)) →
      ((d n : Node) (e : Entry) → IsOwnDirectory p w d → IsNamed w d name e n → Leaves p w n → P (removed p w d e n)) → P (remove site name p w)
  remove_any P name refused told =
      named_any P p refused name _ (current_any P p refused w _ (λ i d there.
      demand_any P (is_directory d.kind) _ _ (refused _ _) (λ directory.
      allowed_any P p refused site (ChangeNames d.label) _ (λ own.
      old_any P p w refused d name _ (λ e n named.
      allowed_any P p refused site (Drop n.label) _ (λ own_node.
      demand_any P (not (holds_names w.entries n.id)) _ _ (refused _ _) (λ empty.
      told d n e (record { there = by_id w i d there; directory = directory; own = own }) named (record { own = own_node; empty = not-true _ empty }))))))))

  -- RENAME to a name that is new, onto a name of another node, and onto a name of the same one
  pub record RenameEnds (P : Outcome (Answer Renamed) → Type 0) (old new : List ℕ) : Type 0 where
    pub refused : (gate : Gate) (status : ℕ) → P (refuse p gate status)
    pub stays : (m : Mover) → P (stayed p m)
    pub free : (m : Mover) → IsOwnDirectory p w m.from → IsOwnDirectory p w m.to → IsNamed w m.from old m.entry m.node → Moves site p w new m → entry_at w.entries m.to.id new ≡ None → P (renamed p new m [])
    pub onto : (m : Mover) (e : Entry) (n : Node) → IsOwnDirectory p w m.from → IsOwnDirectory p w m.to → IsNamed w m.from old m.entry m.node → Moves site p w new m → IsNamed w m.to new e n → GivesWay p w m e n → P (renamed p new m (taken_out p.moment w.entries e n))

  module _ (P : Outcome (Answer Renamed) → Type 0) (old new : List ℕ) (ends : RenameEnds P old new) where
    moved_any : is_well_formed new ≡ true → (m : Mover) (room : List Change) → (Moves site p w new m → P (renamed p new m room)) → P (moved site new p w m room)
    moved_any well m room told =
        demand_any P (not (goes_under site.dom p.subject w m.node.id m.to.id)) _ _ (ends.refused _ _) (λ clear.
        demand_any P (has_cookie m.to) _ _ (ends.refused _ _) (λ left.
        told (record { named = well; clear = not-true _ clear; left = left })))

    moved_onto_any : is_well_formed new ≡ true → (m : Mover) → IsOwnDirectory p w m.from → IsOwnDirectory p w m.to → IsNamed w m.from old m.entry m.node → (o : Option Entry) → entry_at w.entries m.to.id new ≡ o → P (moved_onto site new p w m o)
    moved_onto_any well m from to named None is = moved_any well m [] (λ moves. ends.free m from to named moves is)
    moved_onto_any well m from to named (Some other) is = at (same_id m.node.id other.node) refl
      where
        at : (b : Bool) → same_id m.node.id other.node ≡ b →
            P (cond b (stayed p m) (where_old p w m.to new (λ e n.
            where_allowed site p (Drop n.label) (
            demand (may_give_way w.entries m.node n) (refuse p Namespace NFS4ERR_EXIST) (
            moved site new p w m (taken_out p.moment w.entries e n))))))
        at true same = ends.stays m
        at false differs =
            old_any P p w ends.refused m.to new _ (λ e n there.
            allowed_any P p ends.refused site (Drop n.label) _ (λ own.
            demand_any P (may_give_way w.entries m.node n) _ _ (ends.refused _ _) (λ gives.
            let same : other ≡ e = grind (arith, is, there.named) in
            moved_any well m (taken_out p.moment w.entries e n) (λ moves.
            ends.onto m e n from to named moves there (record { differs = ap (λ (x : Entry). same_id m.node.id x.node) (sym same) ∙ differs; own = own; gives = gives })))))

    pub rename_any : P (rename site old new p w)
    rename_any =
        named_any P p ends.refused old _ (well_named_any P p ends.refused new _ (λ well.
        node_any P p ends.refused w p.saved _ (λ i from from_there.
        current_any P p ends.refused w _ (λ j to to_there.
        demand_any P (is_directory from.kind) _ _ (ends.refused _ _) (λ directory_from.
        demand_any P (is_directory to.kind) _ _ (ends.refused _ _) (λ directory_to.
        allowed_any P p ends.refused site (ChangeNames from.label) _ (λ own_from.
        allowed_any P p ends.refused site (ChangeNames to.label) _ (λ own_to.
        old_any P p w ends.refused from old _ (λ e n named.
        moved_onto_any well (record { entry = e; node = n; from = from; to = to })
        (record { there = by_id w i from from_there; directory = directory_from; own = own_from })
        (record { there = by_id w j to to_there; directory = directory_to; own = own_to })
        named (entry_at w.entries to.id new) refl)))))))))
