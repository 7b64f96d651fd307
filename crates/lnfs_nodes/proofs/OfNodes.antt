-- What a tree tells of its calls is of nodes and names alone.
use Rattle.std.proofs.Common.{◌≡◌, refl, ap, ◌∙◌, ℕ, Bool, true, false, not, List, [], ◌∷◌, ◌++◌, Option, Some, None, Result, Ok, cond, arith}
use Rattle.std.specs.Prelude.{◌&&◌}
use Rattle.std.specs.List.{list_all}
use Rattle.std.proofs.lemmas.List.Folds.{list_all-append}
use Rattle.lnfs_types.specs.declared.event.Moment.{Moment}
use Rattle.lnfs_world.specs.World.{Id, Node, Entry as NameRow, node_at, same_id}
use Rattle.lnfs_world.specs.Tree.{has_other_name}
use Rattle.lnfs_world.specs.Change.{Change, Touch, Unlink, Drop, Move}
use Rattle.lnfs_world.specs.Effects.{attributes_changed, names_changed, name_added, taken_out, directories_changed, may_give_way, next_entry, has_cookie}
use Rattle.lnfs_tree.specs.declared.node.TreeError.{TreeError}
use Rattle.lnfs_tree.specs.declared.node.TreeError.TheVariants.{Exist, Inval, Spent}
use Rattle.lnfs_tree.specs.declared.node.Info.{Info}
use Rattle.lnfs_tree.specs.Rows.{Rows}
use Rattle.lnfs_tree.specs.Changed.{Doing, Gone, Room, gone, unchanged, lies_above, on_node, test, changed, link_of, remove_of, rename_of, moved, moved_onto}
use Rattle.lnfs_nodes.proofs.TreeSteps.{is_of_nodes, are_of_nodes}

-- ---- changes

of_taken : (at : Moment) (entries : List NameRow) (e : NameRow) (n : Node) → list_all is_of_nodes (taken_out at entries e n) ≡ true
of_taken at entries e n = kept (has_other_name entries e)
  where
    kept : (b : Bool) → list_all is_of_nodes (cond b (Touch n.id (attributes_changed at n.inner) ∷ Unlink e ∷ []) (Drop e ∷ [])) ≡ true
    kept true = refl
    kept false = refl

of_directories : (at : Moment) (from to : Node) → list_all is_of_nodes (directories_changed at from to) ≡ true
of_directories at from to = by_test (same_id from.id to.id)
  where
    by_test : (b : Bool) → list_all is_of_nodes (cond b (Touch to.id (name_added at to.inner) ∷ []) (Touch from.id (names_changed at from.inner) ∷ Touch to.id (name_added at to.inner) ∷ [])) ≡ true
    by_test true = refl
    by_test false = refl

of_both : (a b : List Change) → list_all is_of_nodes a ≡ true → list_all is_of_nodes b ≡ true → list_all is_of_nodes (a ++ b) ≡ true
of_both a b of_a of_b = list_all-append is_of_nodes a b ∙ ap (λ (x : Bool). x && list_all is_of_nodes b) of_a ∙ of_b

-- ---- calls

pub of_remove : (t : Rows) (dir : Id) (name : List ℕ) (at : Moment) → are_of_nodes (remove_of t dir name at) ≡ true
of_remove t dir name at = grind (arith, of_taken at t.entries)

pub of_link : (t : Rows) (node dir : Id) (name : List ℕ) (at : Moment) → are_of_nodes (link_of t node dir name at) ≡ true
of_link t node dir name at = grind arith

of_move : (t : Rows) (at : Moment) (new : List ℕ) (from to : Node) (e : NameRow) (n : Node) (changes : List Change) → list_all is_of_nodes changes ≡ true → list_all is_of_nodes (directories_changed at from to ++ changes ++ Move e (next_entry to new n.id) ∷ []) ≡ true
of_move t at new from to e n changes of =
    of_both (directories_changed at from to ++ changes) (Move e (next_entry to new n.id) ∷ []) (of_both (directories_changed at from to) changes (of_directories at from to) of) refl

of_moved : (t : Rows) (at : Moment) (new : List ℕ) (from to : Node) (e : NameRow) (n : Node) (room : Room) → list_all is_of_nodes room.changes ≡ true → are_of_nodes (moved t at new from to e n room) ≡ true
of_moved t at new from to e n room of = by_tests (not (lies_above t n.id to.id)) (has_cookie to)
  where
    by_tests : (a b : Bool) → are_of_nodes {A = Info × Info × Option Gone} (test a Inval (test b Spent (Ok (record { answer = (changed from, changed to, room.gone); changes = directories_changed at from to ++ room.changes ++ Move e (next_entry to new n.id) ∷ [] })))) ≡ true
    by_tests false b = refl
    by_tests true false = refl
    by_tests true true = of_move t at new from to e n room.changes of

of_onto : (t : Rows) (at : Moment) (new : List ℕ) (from to : Node) (e : NameRow) (n : Node) (other : Option NameRow) → are_of_nodes (moved_onto t at new from to e n other) ≡ true
of_onto t at new from to e n None = of_moved t at new from to e n (record { changes = []; gone = None }) refl
of_onto t at new from to e n (Some other) = by_test (same_id n.id other.node) (node_at t.nodes other.node)
  where
    onto : Node → Bool → Result (Doing (Info × Info × Option Gone)) TreeError
    onto m b = test b Exist (moved t at new from to e n (record { changes = taken_out at t.entries other m; gone = gone t.entries other m }))

    way : (m : Node) (b : Bool) → are_of_nodes (onto m b) ≡ true
    way m true = of_moved t at new from to e n (record { changes = taken_out at t.entries other m; gone = gone t.entries other m }) (of_taken at t.entries other m)
    way m false = refl

    by_test : (b : Bool) (x : Option Node) → are_of_nodes {A = Info × Info × Option Gone} (cond b (Ok (record { answer = (unchanged from, unchanged to, None); changes = [] })) (on_node x (λ m. onto m (may_give_way t.entries n m)))) ≡ true
    by_test true x = refl
    by_test false None = refl
    by_test false (Some m) = way m (may_give_way t.entries n m)

pub of_rename : (t : Rows) (from : Id) (old : List ℕ) (to : Id) (new : List ℕ) (at : Moment) → are_of_nodes (rename_of t from old to new at) ≡ true
of_rename t from old to new at = grind (arith, of_onto t at new)
