-- What the changes that a tree tells leave of a world's other rows: the opens of the node that goes, where one does, go
-- with it.
use Rattle.std.proofs.Common.{◌≡◌, refl, ap, sym, ◌∙◌, ℕ, Bool, true, false, not, cond, List, [], ◌∷◌, ◌++◌, Option, Some, None, Result, Ok, Err, arith}
use Rattle.lnfs_types.specs.declared.event.Moment.{Moment}
use Rattle.lnfs_world.specs.World.{Id, Node, Entry, World, node_at, is_directory, same_id}
use Rattle.lnfs_world.specs.Names.{entry_at, size_of}
use Rattle.lnfs_world.specs.Tree.{has_other_name, holds_names}
use Rattle.lnfs_world.specs.Change.{Touch, Unlink, Drop, Move}
use Rattle.lnfs_world.specs.Effects.{attributes_changed, names_changed, name_added, next_entry, has_cookie, taken_out, may_give_way, directories_changed}
use Rattle.lnfs_world.proofs.Seen.{node_at-id}
use Rattle.lnfs_tree.specs.declared.node.Info.{Info}
use Rattle.lnfs_tree.specs.declared.node.TreeError.{TreeError}
use Rattle.lnfs_tree.specs.declared.node.TreeError.TheVariants.{NotDir, NotEmpty, Exist, Inval, Spent}
use Rattle.lnfs_tree.specs.Rows.{Rows, in_directory}
use Rattle.lnfs_tree.specs.Changed.{Doing, Gone, Room, gone, changed, unchanged, on_node, at_name, test, lies_above, moved, moved_onto, link_of, remove_of, rename_of}
use Rattle.lnfs_nodes.specs.Acts.{without_opens, without_opens_of}
use Rattle.lnfs_nodes.proofs.TreeSteps.{left_by_all, left_by_both}
use Rattle.lnfs_nodes.proofs.Acting.{Leaves}

-- ---- tests

on_leaves : {B : Type 0} (left : B → World → World) (o : Option Node) (next : Node → Result (Doing B) TreeError) → ((n : Node) → o ≡ Some n → Leaves left (next n)) → Leaves left (on_node o next)
on_leaves left None next each rest = tt
on_leaves left (Some n) next each rest = each n refl rest

test_leaves : {B : Type 0} (left : B → World → World) (b : Bool) (why : TreeError) (next : Result (Doing B) TreeError) → Leaves left next → Leaves left (test b why next)
test_leaves left true why next leaves rest = leaves rest
test_leaves left false why next leaves rest = tt

name_leaves : {B : Type 0} (left : B → World → World) (t : Rows) (o : Option Entry) (next : Entry → Node → Result (Doing B) TreeError) → ((e : Entry) (n : Node) → n.id ≡ e.node → Leaves left (next e n)) → Leaves left (at_name t o next)
name_leaves left t None next each rest = tt
name_leaves left t (Some e) next each rest = on_leaves left (node_at t.nodes e.node) (next e) (λ n found. each e n (node_at-id e.node t.nodes n found)) rest

-- ---- changes

taken_leaves : (at : Moment) (entries : List Entry) (e : Entry) (n : Node) → n.id ≡ e.node → (rest : World) → left_by_all (taken_out at entries e n) rest ≡ without_opens (gone entries e n) rest
taken_leaves at entries e n is rest = kept (has_other_name entries e)
  where
    kept : (b : Bool) → left_by_all (cond b (Touch n.id (attributes_changed at n.inner) ∷ Unlink e ∷ []) (Drop e ∷ [])) rest
        ≡ without_opens (cond b None (Some (record { node = n.id; kind = n.kind; label = n.label; size = size_of entries n n.kind }))) rest
    kept true = refl
    kept false = ap (λ (i : Id). without_opens_of i rest) (sym is)

directories_leave : (at : Moment) (from to : Node) (rest : World) → left_by_all (directories_changed at from to) rest ≡ rest
directories_leave at from to rest = by_test (same_id from.id to.id)
  where
    by_test : (b : Bool) → left_by_all (cond b (Touch to.id (name_added at to.inner) ∷ []) (Touch from.id (names_changed at from.inner) ∷ Touch to.id (name_added at to.inner) ∷ [])) rest ≡ rest
    by_test true = refl
    by_test false = refl

-- ---- calls

pub leaves_link : (t : Rows) (node dir : Id) (name : List ℕ) (at : Moment) → Leaves (λ (a : Info) (rest : World). rest) (link_of t node dir name at)
leaves_link t node dir name at rest = grind arith

-- what REMOVE tells, and leaves
abbrev pub left_removed : Info × Option Gone → World → World
left_removed a rest = without_opens a.1 rest

pub leaves_remove : (t : Rows) (dir : Id) (name : List ℕ) (at : Moment) → Leaves left_removed (remove_of t dir name at)
leaves_remove t dir name at = by_dir (node_at t.nodes dir)
  where
    takes : Node → Entry → Node → Doing (Info × Option Gone)
    takes d e n = record { answer = (changed d, gone t.entries e n); changes = Touch d.id (names_changed at d.inner) ∷ taken_out at t.entries e n }

    names : Node → Result (Doing (Info × Option Gone)) TreeError
    names d = at_name t (entry_at t.entries d.id name) (λ e n. test (not (holds_names t.entries n.id)) NotEmpty (Ok (takes d e n)))

    by_kind : (d : Node) (b : Bool) → Leaves left_removed (cond b (names d) (Err NotDir))
    by_kind d false rest = tt
    by_kind d true rest =
        name_leaves left_removed t (entry_at t.entries d.id name) (λ e n. test (not (holds_names t.entries n.id)) NotEmpty (Ok (takes d e n))) (λ e n is.
        test_leaves left_removed (not (holds_names t.entries n.id)) NotEmpty (Ok (takes d e n)) (taken_leaves at t.entries e n is)) rest

    by_dir : (o : Option Node) → Leaves left_removed (in_directory o names)
    by_dir None rest = tt
    by_dir (Some d) rest = by_kind d (is_directory d.kind) rest

-- and RENAME
abbrev pub left_renamed : Info × Info × Option Gone → World → World
left_renamed a rest = without_opens a.2 rest

module _ (t : Rows) (at : Moment) (new : List ℕ) (a b : Node) (e : Entry) (n : Node) where
  moved_leaves : (room : Room) → ((rest : World) → left_by_all room.changes rest ≡ without_opens room.gone rest) → Leaves left_renamed (moved t at new a b e n room)
  moved_leaves room room_leaves =
      test_leaves left_renamed (not (lies_above t n.id b.id)) Inval _ (
      test_leaves left_renamed (has_cookie b) Spent (Ok (record { answer = (changed a, changed b, room.gone); changes = directories_changed at a b ++ room.changes ++ Move e (next_entry b new n.id) ∷ [] })) (λ rest.
      left_by_both (directories_changed at a b ++ room.changes) (Move e (next_entry b new n.id) ∷ []) rest
      ∙ left_by_both (directories_changed at a b) room.changes rest
      ∙ ap (left_by_all room.changes) (directories_leave at a b rest)
      ∙ room_leaves rest))

  onto_leaves : (other : Option Entry) → Leaves left_renamed (moved_onto t at new a b e n other)
  onto_leaves None = moved_leaves (record { changes = []; gone = None }) (λ rest. refl)
  onto_leaves (Some other) = by_test (same_id n.id other.node)
    where
      onto : Node → Result (Doing (Info × Info × Option Gone)) TreeError
      onto m = test (may_give_way t.entries n m) Exist (moved t at new a b e n (record { changes = taken_out at t.entries other m; gone = gone t.entries other m }))

      by_test : (s : Bool) → Leaves left_renamed (cond s (Ok (record { answer = (unchanged a, unchanged b, None); changes = [] })) (on_node (node_at t.nodes other.node) onto))
      by_test true rest = refl
      by_test false rest =
          on_leaves left_renamed (node_at t.nodes other.node) onto (λ m found.
          test_leaves left_renamed (may_give_way t.entries n m) Exist _ (
          moved_leaves (record { changes = taken_out at t.entries other m; gone = gone t.entries other m }) (taken_leaves at t.entries other m (node_at-id other.node t.nodes m found)))) rest

pub leaves_rename : (t : Rows) (from : Id) (old : List ℕ) (to : Id) (new : List ℕ) (at : Moment) → Leaves left_renamed (rename_of t from old to new at)
leaves_rename t from old to new at =
    on_leaves left_renamed (node_at t.nodes from) _ (λ a found_a.
    on_leaves left_renamed (node_at t.nodes to) _ (λ b found_b.
    test_leaves left_renamed (is_directory a.kind) NotDir _ (
    test_leaves left_renamed (is_directory b.kind) NotDir _ (
    name_leaves left_renamed t (entry_at t.entries a.id old) _ (λ e n is.
    onto_leaves t at new a b e n (entry_at t.entries b.id new))))))
