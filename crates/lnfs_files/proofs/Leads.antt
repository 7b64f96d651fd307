-- The node of the current file handle, and what a name of a directory leads to.
use Rattle.std.proofs.Common.{◌≡◌, refl, ap, sym, ◌∙◌, ℕ, true, List, Option, Some, None, Result, Ok, Err, option_map}
use Rattle.lnfs_arguments.specs.declared.statuses.TheConstants.{NFS4ERR_STALE, NFS4ERR_NOENT}
use Rattle.lnfs_world.specs.World.{Id, Node, Entry, World, node_at, is_directory}
use Rattle.lnfs_world.specs.Names.{entry_at}
use Rattle.lnfs_world.specs.Outcome.{Place, Outcome}
use Rattle.lnfs_world.proofs.Seen.{node_at-id}
use Rattle.lnfs_operations.specs.declared.Gate.TheVariants.{Namespace}
use Rattle.lnfs_operations.specs.Chain.{Answer, refuse, where_there}
use Rattle.lnfs_operations.specs.Chain as chain
use Rattle.lnfs_operations.specs.Handles.{with_node, with_current}
use Rattle.lnfs_operations.specs.Open.{Opened}
use Rattle.lnfs_tree.specs.Rows.{Rows, id_of, IsTold, or_absent, looked_up}
use Rattle.lnfs_tree.specs.declared.node.NodeId.{NodeId}
use Rattle.lnfs_tree.specs.declared.node.Facts.{Facts}
use Rattle.lnfs_open.specs.Lists.{Lists}
use Rattle.lnfs_nodes.specs.Trees.{there, held_in, Holds, IsHeld}
use Rattle.lnfs_nodes.specs.declared.held.Held.{Held}
use Rattle.lnfs_nodes.specs.GivenValues.{followed}
use Rattle.lnfs_nodes.proofs.NamedHeld.{looks_up}
use Rattle.lnfs_files.specs.Worlds.{with_files}
use Rattle.lnfs_files.specs.Openings.{where_named_in, Finds}

-- ---- the node of the current file handle

module _ (p : Place) (rest : World) (t : Rows) (s : Lists) where
  current_by : (found : Node → Outcome (Answer Opened)) → with_current p (with_files rest t s) found ≡ followed p (held_in t.nodes p.current) found
  current_by found = at p.current
    where
      at_node : (x : Option Node) → where_there x found (refuse p Namespace NFS4ERR_STALE) ≡ followed p (there x) found
      at_node (Some n) = refl
      at_node None = refl

      at : (i : Option Id) → with_node p (with_files rest t s) i found ≡ followed p (held_in t.nodes i) found
      at (Some i) = at_node (node_at t.nodes i)
      at None = refl

  abbrev pub Current : Held → Type 0
  Current h = (n : Node) × (Holds t n h × ((found : Node → Outcome (Answer Opened)) → with_current p (with_files rest t s) found ≡ found n))

  pub current : (h : Held) → IsHeld t (held_in t.nodes p.current) (Ok h) → Current h
  current h held = at (held_in t.nodes p.current) refl held
    where
      at : (r : Result Node chain.Refusal) → held_in t.nodes p.current ≡ r → IsHeld t r (Ok h) → Current h
      at (Ok n) e holds = (n, (holds, λ found. current_by found ∙ ap (λ (r : Result Node chain.Refusal). followed p r found) e))
      at (Err why) e holds = absurd holds

-- ---- what a name of a directory leads to

module _ (p : Place) (t : Rows) (d : Node) (h : Held) (holds : Holds t d h) (dir : is_directory d.kind ≡ true) (name : List ℕ) where
  abbrev entered : (Node → Outcome (Answer Opened)) → Entry → Outcome (Answer Opened)
  entered found e = where_there (node_at t.nodes e.node) found (refuse p Namespace NFS4ERR_NOENT)

  by_entry : (x : Option Entry) → entry_at t.entries d.id name ≡ x → (found : Node → Outcome (Answer Opened)) (absent : Outcome (Answer Opened)) → where_named_in p t d name found absent ≡ where_there x (entered found) absent
  by_entry x e found absent = ap (λ (x : Option Entry). where_there x (entered found) absent) e

  pub named : (i : NodeId) (f : Facts) → Ok (id_of i) ≡ looked_up t (id_of h.id) name → IsTold t.entries (node_at t.nodes (id_of i)) (Some f) → Finds p t d name (Ok (Some (record { id = i; facts = f })))
  named i f found told = at (entry_at t.entries d.id name) refl (found ∙ looks_up t d h holds dir name)
    where
      held : Held
      held = record { id = i; facts = f }

      node : (x : Option Node) → node_at t.nodes (id_of i) ≡ x → IsTold t.entries x (Some f) → (n : Node) × (Holds t n held × (node_at t.nodes (id_of i) ≡ Some n))
      node (Some n) e told =
          let same : n.id ≡ id_of i = node_at-id (id_of i) t.nodes n e in
          (n, (record { id = sym same; node_is = ap (node_at t.nodes) same ∙ e; tells = told }, e))
      node None e told = absurd told

      at : (x : Option Entry) → entry_at t.entries d.id name ≡ x → Ok (id_of i) ≡ or_absent (option_map (λ e. e.node) x) → Finds p t d name (Ok (Some held))
      at (Some e) is found =
          let same : id_of i ≡ e.node = cc in
          let x = node (node_at t.nodes (id_of i)) refl told in (
            x.0,
            (
              x.1.0,
              λ found absent.
                  by_entry (Some e) is found absent ∙ ap (λ (y : Option Node). where_there y found (refuse p Namespace NFS4ERR_NOENT)) (ap (node_at t.nodes) (sym same) ∙ x.1.1),
            ),
          )
      at None is found = cc
