use Rattle.std.proofs.Common.{◌≡◌, ℕ, List, Option, Some, None, sym, ◌∙◌, ap, arith}
use Rattle.std.specs.Option.{option_map}
use Rattle.std.proofs.lemmas.Bool.Decides.{nat_tests}
use Rattle.lnfs_calipso.specs.Label.{dom_of}
use Rattle.lnfs_world.specs.World.{Id, Node as NodeRow, Entry as NameRow, node_at, label_at}
use Rattle.lnfs_world.specs.Tree.{root}
use Rattle.lnfs_tree.specs.declared.node.Facts.{Facts as Told}
use Rattle.lnfs_tree.specs.Rows.{IsTold}
use Rattle.lnfs_test_state.proofs.many.make.Goals as goal

-- the label that is told
told_label : (entries : List NameRow) (nodes : List NodeRow) (d : Id) (told : Told) (l : ℕ) → IsTold entries (node_at nodes d) (Some told) → told.label.0 ≡ l → label_at nodes d ≡ Some l
told_label entries nodes d told l tells is = at (node_at nodes d) tells
  where
    at : (o : Option NodeRow) → IsTold entries o (Some told) → option_map (λ n. n.label) o ≡ Some l
    at None tells = absurd tells
    at (Some n) tells = ap Some (sym tells.label ∙ is)

lowest : (c : goal.After-node-1) → c.in-Some.root.label.0 ≡ 0
lowest c = grind (arith, nat_tests, c.if-root-ne0.false)

pub insert-requires : goal.insert-requires
insert-requires c = record { facts = (dom_of c.args.lattice.now, c.requires) }

pub returns : goal.returns
returns c =
    let dom = dom_of c.args.lattice.now in
    let fresh = c.empty_file.result in
    c.in_ok-node.ensures.keeps dom c.law_preorder.ensures c.requires
    (told_label c.args.tree.now.entries c.args.tree.now.nodes root c.in-Some.root 0 c.in-Some.ensures (lowest c) ∙ ap Some (sym c.empty_file.ensures.home))
    (ap (λ (l : ℕ). dom l fresh.home.0) (c.empty_file.ensures.label ∙ sym c.empty_file.ensures.home) ∙ c.law_preorder.ensures.reflexive fresh.home.0)
