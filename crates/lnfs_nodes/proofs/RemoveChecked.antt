-- REMOVE behind its own tests: what is left are those of the tree.
use Rattle.std.proofs.Common.{◌≡◌, refl, ap, sym, ◌∙◌, ℕ, Bool, true, false, not, List, ◌∷◌, Option, Some, None, Ok, Err, arith}
use Rattle.lnfs_arguments.specs.declared.stateid.Cinfo.{Cinfo}
use Rattle.lnfs_arguments.specs.declared.statuses.TheConstants.{NFS4ERR_NOTEMPTY}
use Rattle.lnfs_world.specs.World.{Node, Entry, World, node_at, is_directory}
use Rattle.lnfs_world.specs.Names.{entry_at}
use Rattle.lnfs_world.specs.Tree.{holds_names}
use Rattle.lnfs_world.specs.Change.{Touch}
use Rattle.lnfs_world.specs.Effects.{names_changed, taken_out}
use Rattle.lnfs_world.specs.Outcome.{Site, Place, Outcome}
use Rattle.lnfs_monitor.specs.Rules.{Change as ChangeNames, Drop}
use Rattle.lnfs_operations.specs.declared.Gate.TheVariants.{Namespace}
use Rattle.lnfs_operations.specs.declared.Refusal.{Refusal}
use Rattle.lnfs_operations.specs.Chain.{Answer, refuse, done, demand}
use Rattle.lnfs_operations.specs.Judged.{where_allowed}
use Rattle.lnfs_operations.specs.NewNames.{where_old, changed}
use Rattle.lnfs_operations.specs.Remove.{remove}
use Rattle.lnfs_tree.specs.declared.node.Info.{Info}
use Rattle.lnfs_tree.specs.declared.node.TreeError.TheVariants.{NotEmpty}
use Rattle.lnfs_tree.specs.Rows.{Rows, id_of}
use Rattle.lnfs_tree.specs.Changed.{Doing, Gone, gone, test, remove_of}
use Rattle.lnfs_tree.specs.Changed as tree
use Rattle.lnfs_nodes.specs.Trees.{with_tree, held_in, Holds, IsHeld, denial, refusal_of}
use Rattle.lnfs_nodes.specs.Told.{naming, no_directory, named, follows, cinfo_of}
use Rattle.lnfs_nodes.specs.declared.held.Held.{Held}
use Rattle.lnfs_nodes.proofs.Tests.{allowed}
use Rattle.lnfs_nodes.proofs.Refusing.{not_held, denied}
use Rattle.lnfs_nodes.proofs.Peeling.{named_on, named_off, about_node, is_one, directory_on, directory_off}
use Rattle.lnfs_nodes.proofs.RenameChecked.{old_off, old_on}

module _ (site : Site) (at : Place) (rest : World) (t : Rows) (name : List ℕ) where
  pub name_off : (why : Refusal) → Some (refusal_of why) ≡ naming name → remove site name at (with_tree rest t) ≡ refuse at why.gate why.status
  name_off why e = named_off at name _ why e

  module _ (well : None ≡ naming name) where
    pub dir_off : (why : Refusal) → IsHeld t (held_in t.nodes at.current) (Err why) → remove site name at (with_tree rest t) ≡ refuse at why.gate why.status
    dir_off why held = named_on at name _ well ∙ not_held at rest t _ why held

    module _ (dir : Held) (dir_is : IsHeld t (held_in t.nodes at.current) (Ok dir)) where
      pub kind_off : (why : Refusal) → Some (refusal_of why) ≡ no_directory dir.facts.kind → remove site name at (with_tree rest t) ≡ refuse at why.gate why.status
      kind_off why e =
          named_on at name _ well
          ∙ about_node (refuse at why.gate why.status) at rest t at.current _ dir dir_is (λ d holds. directory_off at t d dir _ why holds e)

      module _ (is_dir : None ≡ no_directory dir.facts.kind) where
        pub change_off : (why : Refusal) → Some (refusal_of why) ≡ denial site at.subject (ChangeNames dir.facts.label.0) → remove site name at (with_tree rest t) ≡ refuse at why.gate why.status
        change_off why e =
            named_on at name _ well
            ∙ about_node (refuse at why.gate why.status) at rest t at.current _ dir dir_is (λ d holds.
            directory_on at d _ (is_one t d dir holds is_dir)
            ∙ denied site at (ChangeNames d.label) _ why (e ∙ ap (λ (l : ℕ). denial site at.subject (ChangeNames l)) holds.tells.label))

        module _ (may : None ≡ denial site at.subject (ChangeNames dir.facts.label.0)) where
          abbrev next : Node → Entry → Node → Outcome (Answer Cinfo)
          next d e n =
              where_allowed site at (Drop n.label) (
              demand (not (holds_names t.entries n.id)) (refuse at Namespace NFS4ERR_NOTEMPTY) (
              done at (changed d) (Touch d.id (names_changed at.moment d.inner) ∷ taken_out at.moment t.entries e n)))

          -- what follows in the directory
          reaches : (o : Outcome (Answer Cinfo)) → ((d : Node) → Holds t d dir → is_directory d.kind ≡ true → where_old at (with_tree rest t) d name (next d) ≡ o) → remove site name at (with_tree rest t) ≡ o
          reaches o is =
              named_on at name _ well
              ∙ about_node o at rest t at.current _ dir dir_is (λ d holds.
              let one = is_one t d dir holds is_dir in
              directory_on at d _ one
              ∙ allowed site at (ChangeNames d.label) _ (may ∙ ap (λ (l : ℕ). denial site at.subject (ChangeNames l)) holds.tells.label)
              ∙ is d holds one)

          pub child_off : (why : Refusal) → ((d : Node) → Holds t d dir → is_directory d.kind ≡ true → IsHeld t (named t d.id name) (Err why)) → remove site name at (with_tree rest t) ≡ refuse at why.gate why.status
          child_off why off = reaches (refuse at why.gate why.status) (λ d holds one. old_off site at rest t d name (next d) why (off d holds one))

          module _ (child : Held) (is_child : (d : Node) → Holds t d dir → is_directory d.kind ≡ true → IsHeld t (named t d.id name) (Ok child)) where
            pub drop_off : (why : Refusal) → Some (refusal_of why) ≡ denial site at.subject (Drop child.facts.label.0) → remove site name at (with_tree rest t) ≡ refuse at why.gate why.status
            drop_off why off = reaches (refuse at why.gate why.status) (λ d holds one.
                old_on site at rest t d name (next d) (refuse at why.gate why.status) child (is_child d holds one) (λ e n is_e is_n holds_n.
                denied site at (Drop n.label) _ why (off ∙ ap (λ (l : ℕ). denial site at.subject (Drop l)) holds_n.tells.label)))

            abbrev taking : Node → Entry → Node → Doing (Info × Option Gone)
            taking d e n = record { answer = (tree.changed d, gone t.entries e n); changes = Touch d.id (names_changed at.moment d.inner) ∷ taken_out at.moment t.entries e n }

            tree_side : (d : Node) (e : Entry) (n : Node) → Holds t d dir → is_directory d.kind ≡ true → entry_at t.entries d.id name ≡ Some e → node_at t.nodes e.node ≡ Some n
                → remove_of t (id_of dir.id) name at.moment ≡ test (not (holds_names t.entries n.id)) NotEmpty (Ok (taking d e n))
            tree_side d e n holds one is_e is_n = grind (arith, holds.id, holds.node_is, one, is_e, is_n)

            alike : (d : Node) (e : Entry) (n : Node) (b : Bool) → demand b (refuse at Namespace NFS4ERR_NOTEMPTY) (done at (changed d) (taking d e n).changes) ≡ follows (λ a. cinfo_of a.0) at (test b NotEmpty (Ok (taking d e n)))
            alike d e n true = refl
            alike d e n false = refl

            pub remove_checked : None ≡ denial site at.subject (Drop child.facts.label.0) → remove site name at (with_tree rest t) ≡ follows (λ a. cinfo_of a.0) at (remove_of t (id_of dir.id) name at.moment)
            remove_checked may_take =
                let told = follows (λ (a : Info × Option Gone). cinfo_of a.0) at (remove_of t (id_of dir.id) name at.moment) in
                reaches told (λ d holds one.
                old_on site at rest t d name (next d) told child (is_child d holds one) (λ e n is_e is_n holds_n.
                allowed site at (Drop n.label) _ (may_take ∙ ap (λ (l : ℕ). denial site at.subject (Drop l)) holds_n.tells.label)
                ∙ alike d e n (not (holds_names t.entries n.id))
                ∙ ap (λ x. follows (λ (a : Info × Option Gone). cinfo_of a.0) at x) (sym (tree_side d e n holds one is_e is_n))))
