-- The node of a name in a directory, by what the code finds of it.
use Rattle.std.proofs.Common.{◌≡◌, sym, ◌∙◌, ℕ, true, List, Option, Some, None, Ok, subst, option_map, arith}
use Rattle.lnfs_world.specs.World.{Id, Node, Entry, node_at, is_directory}
use Rattle.lnfs_world.specs.Names.{entry_at}
use Rattle.lnfs_tree.specs.declared.node.NodeId.{NodeId}
use Rattle.lnfs_tree.specs.declared.node.Facts.{Facts}
use Rattle.lnfs_tree.specs.Rows.{Rows, id_of, IsTold, or_absent, looked_up}
use Rattle.lnfs_nodes.specs.Trees.{Holds, IsHeld}
use Rattle.lnfs_nodes.proofs.Found.{told_node}
use Rattle.lnfs_nodes.specs.Told.{found_at, entered_at, named}
use Rattle.lnfs_nodes.specs.declared.held.Held.{Held}

-- what a tree tells of the node of an entry
found_held : (t : Rows) (i : NodeId) (f : Facts) → IsTold t.entries (node_at t.nodes (id_of i)) (Some f) → IsHeld t (found_at (node_at t.nodes (id_of i))) (Ok (record { id = i; facts = f }))
found_held t i f told = let x = told_node t i f told in subst (λ (o : Option Node). IsHeld t (found_at o) (Ok (record { id = i; facts = f }))) (sym x.1) x.2

module _ (t : Rows) (d : Node) (h : Held) (holds : Holds t d h) (dir : is_directory d.kind ≡ true) (name : List ℕ) where
  -- a look-up in a directory that is held
  pub looks_up : looked_up t (id_of h.id) name ≡ or_absent (option_map (λ e. e.node) (entry_at t.entries d.id name))
  looks_up = grind (arith, holds.id, holds.node_is, dir)

  pub named_held : (i : NodeId) (f : Facts) → Ok (id_of i) ≡ looked_up t (id_of h.id) name → IsTold t.entries (node_at t.nodes (id_of i)) (Some f) → IsHeld t (named t d.id name) (Ok (record { id = i; facts = f }))
  named_held i f found told = at (entry_at t.entries d.id name) (found ∙ looks_up)
    where
      at : (x : Option Entry) → Ok (id_of i) ≡ or_absent (option_map (λ e. e.node) x) → IsHeld t (entered_at t.nodes x) (Ok (record { id = i; facts = f }))
      at (Some e) is =
          let same : id_of i ≡ e.node = cc in
          subst (λ (j : Id). IsHeld t (found_at (node_at t.nodes j)) (Ok (record { id = i; facts = f }))) same (found_held t i f told)
      at None is = cc
