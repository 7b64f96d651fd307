-- The node that goes where one name takes the place of another.
use Rattle.std.proofs.Common.{◌≡◌, refl, ap, sym, ◌∙◌, ℕ, Bool, true, false, not, cond, List, [], ◌∷◌, ◌++◌, Option, Some, None, Result, Ok, Err}
use Rattle.std.specs.Prelude.{IfOk, if◌then◌else◌}
use Rattle.std.specs.Option.{option_and_then}
use Rattle.lnfs_types.specs.declared.event.Moment.{Moment}
use Rattle.lnfs_world.specs.World.{Id, Node, Entry, node_at, is_directory, same_id}
use Rattle.lnfs_world.specs.Names.{entry_at}
use Rattle.lnfs_world.specs.Change.{Move}
use Rattle.lnfs_world.specs.Effects.{next_entry, has_cookie, taken_out, may_give_way, directories_changed}
use Rattle.lnfs_world.proofs.Seen.{node_at-id}
use Rattle.lnfs_tree.specs.declared.node.Info.{Info}
use Rattle.lnfs_tree.specs.declared.node.TreeError.{TreeError}
use Rattle.lnfs_tree.specs.declared.node.TreeError.TheVariants.{NotDir, Exist, Inval, Spent}
use Rattle.lnfs_tree.specs.Rows.{Rows}
use Rattle.lnfs_tree.specs.Changed.{Doing, Gone, Room, gone, changed, unchanged, on_node, at_name, test, lies_above, moved, moved_onto, rename_of}
use Rattle.lnfs_nodes.specs.Renames.{gone_between, gone_past}

-- what is told of a name that moves
abbrev Told : Type 0
Told = Result (Doing (Info × Info × Option Gone)) TreeError

abbrev Goes : Option Gone → Told → Type 0
Goes goes told = IfOk told (λ d. d.answer.2 ≡ goes)

goes_as : (told : Told) (g h : Option Gone) → g ≡ h → Goes g told → Goes h told
goes_as (Ok d) g h same is = is ∙ same
goes_as (Err why) g h same is = is

goes_test : (b : Bool) (why : TreeError) (next : Told) (g : Option Gone) → Goes g next → Goes g (test b why next)
goes_test true why next g is = is
goes_test false why next g is = tt

module _ (t : Rows) (at : Moment) (new : List ℕ) (a b : Node) (e : Entry) (n : Node) where
  moved_gone : (room : Room) → Goes room.gone (moved t at new a b e n room)
  moved_gone room = by_tests (not (lies_above t n.id b.id)) (has_cookie b)
    where
      by_tests : (x y : Bool) → Goes room.gone (test x Inval (test y Spent (Ok (record { answer = (changed a, changed b, room.gone); changes = directories_changed at a b ++ room.changes ++ Move e (next_entry b new n.id) ∷ [] }))))
      by_tests false y = tt
      by_tests true false = tt
      by_tests true true = refl

  onto_gone : n.id ≡ e.node → (x : Option Entry) → Goes (gone_between t (Some e) x) (moved_onto t at new a b e n x)
  onto_gone same None = moved_gone (record { changes = []; gone = None })
  onto_gone same (Some other) = goes_as _ _ _ (ap (λ (i : Id). between (same_id i other.node) (node_at t.nodes other.node)) same) (by_node (same_id n.id other.node) (node_at t.nodes other.node))
    where
      room : Node → Room
      room m = record { changes = taken_out at t.entries other m; gone = gone t.entries other m }

      between : Bool → Option Node → Option Gone
      between s x = if s then None else option_and_then (gone t.entries other) x

      by_node : (s : Bool) (x : Option Node) → Goes (between s x) (cond s (Ok (record { answer = (unchanged a, unchanged b, None); changes = [] })) (on_node x (λ m. test (may_give_way t.entries n m) Exist (moved t at new a b e n (room m)))))
      by_node true x = refl
      by_node false None = tt
      by_node false (Some m) = goes_test (may_give_way t.entries n m) Exist (moved t at new a b e n (room m)) (gone t.entries other m) (moved_gone (room m))

pub rename_gone : (t : Rows) (from : Id) (old : List ℕ) (to : Id) (new : List ℕ) (at : Moment) → Goes (gone_past t (Some from) old (Some to) new) (rename_of t from old to new at)
rename_gone t from old to new at = by_from (node_at t.nodes from) refl
  where
    goes : Option Gone
    goes = gone_past t (Some from) old (Some to) new

    onto : Node → Node → Entry → Node → Told
    onto a b e n = moved_onto t at new a b e n (entry_at t.entries b.id new)

    by_node : (a b : Node) → a.id ≡ from → b.id ≡ to → (e : Entry) → entry_at t.entries a.id old ≡ Some e → (x : Option Node) → node_at t.nodes e.node ≡ x → Goes goes (on_node x (onto a b e))
    by_node a b is_a is_b e is_e None is_n = tt
    by_node a b is_a is_b e is_e (Some n) is_n =
        goes_as (onto a b e n) (gone_between t (Some e) (entry_at t.entries b.id new)) goes
        (ap (λ (i : Id). gone_between t (Some e) (entry_at t.entries i new)) is_b
        ∙ ap (λ (x : Option Entry). gone_between t x (entry_at t.entries to new)) (sym is_e ∙ ap (λ (i : Id). entry_at t.entries i old) is_a))
        (onto_gone t at new a b e n (node_at-id e.node t.nodes n is_n) (entry_at t.entries b.id new))

    by_entry : (a b : Node) → a.id ≡ from → b.id ≡ to → (x : Option Entry) → entry_at t.entries a.id old ≡ x → Goes goes (at_name t x (onto a b))
    by_entry a b is_a is_b None is_x = tt
    by_entry a b is_a is_b (Some e) is_x = by_node a b is_a is_b e is_x (node_at t.nodes e.node) refl

    tests : Node → Node → Told
    tests a b = test (is_directory a.kind) NotDir (test (is_directory b.kind) NotDir (at_name t (entry_at t.entries a.id old) (onto a b)))

    by_to : (a : Node) → a.id ≡ from → (x : Option Node) → node_at t.nodes to ≡ x → Goes goes (on_node x (tests a))
    by_to a is_a None is_x = tt
    by_to a is_a (Some b) is_x =
        let names : Told = at_name t (entry_at t.entries a.id old) (onto a b) in
        goes_test (is_directory a.kind) NotDir (test (is_directory b.kind) NotDir names) goes
        (goes_test (is_directory b.kind) NotDir names goes (by_entry a b is_a (node_at-id to t.nodes b is_x) (entry_at t.entries a.id old) refl))

    by_from : (x : Option Node) → node_at t.nodes from ≡ x → Goes goes (on_node x (λ a. on_node (node_at t.nodes to) (tests a)))
    by_from None is_x = tt
    by_from (Some a) is_x = by_to a (node_at-id from t.nodes a is_x) (node_at t.nodes to) refl
