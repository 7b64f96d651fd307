-- The node of a file handle, by what the code holds of it.
use Rattle.std.proofs.Common.{◌≡◌, refl, ap, sym, ◌∙◌, ℕ, Bool, true, false, cond, List, [], Option, Some, None, Ok, subst}
use Rattle.lnfs_world.specs.World.{Id, Node, World, node_at}
use Rattle.lnfs_world.specs.Outcome.{Site, Place, Outcome}
use Rattle.lnfs_world.proofs.Seen.{node_at-id}
use Rattle.lnfs_arguments.specs.declared.statuses.TheConstants.{NFS4ERR_STALE, NFS4ERR_BADHANDLE}
use Rattle.lnfs_operations.specs.declared.Gate.TheVariants.{Argument, Namespace}
use Rattle.lnfs_operations.specs.Chain.{Answer, refuse, done, demand, where_there}
use Rattle.lnfs_operations.specs.Judged.{where_home}
use Rattle.lnfs_operations.specs.FileHandles.{put_fh}
use Rattle.lnfs_operations.specs.Handles.{handle_named, is_handle, with_node, with_current}
use Rattle.lnfs_tree.specs.Rows.{Rows, id_of, IsTold}
use Rattle.lnfs_tree.specs.declared.node.NodeId.{NodeId}
use Rattle.lnfs_tree.specs.declared.node.Facts.{Facts}
use Rattle.lnfs_nodes.specs.Trees.{with_tree, there, held_in, Holds, IsHeld}
use Rattle.lnfs_nodes.specs.declared.held.Held.{Held}

-- the node that a tree tells of
pub told_node : (t : Rows) (i : NodeId) (f : Facts) → IsTold t.entries (node_at t.nodes (id_of i)) (Some f) → (n : Node) × (node_at t.nodes (id_of i) ≡ Some n) × Holds t n (record { id = i; facts = f })
told_node t i f told = at (node_at t.nodes (id_of i)) refl told
  where
    at : (x : Option Node) → node_at t.nodes (id_of i) ≡ x → IsTold t.entries x (Some f) → (n : Node) × (x ≡ Some n) × Holds t n (record { id = i; facts = f })
    at (Some n) e told =
        let same : n.id ≡ id_of i = node_at-id (id_of i) t.nodes n e in
        (n, refl, record { id = sym same; node_is = ap (node_at t.nodes) same ∙ e; tells = told })
    at None e told = absurd told

-- what is told of it is held
pub told_held : (t : Rows) (i : NodeId) (f : Facts) → IsTold t.entries (node_at t.nodes (id_of i)) (Some f) → IsHeld t (there (node_at t.nodes (id_of i))) (Ok (record { id = i; facts = f }))
told_held t i f told = let x = told_node t i f told in subst (λ (o : Option Node). IsHeld t (there o) (Ok (record { id = i; facts = f }))) (sym x.1) x.2

-- a node that is told of becomes the current one
pub told_there : (p : Place) (absent : Outcome (Answer (Unit {0}))) (t : Rows) (i : Id) (f : Facts) → IsTold t.entries (node_at t.nodes i) (Some f) → where_there (node_at t.nodes i) (λ n. done (record p { current = Some n.id }) tt []) absent ≡ done (record p { current = Some i }) tt []
told_there p absent t i f told = at (node_at t.nodes i) refl told
  where
    at : (x : Option Node) → node_at t.nodes i ≡ x → IsTold t.entries x (Some f) → where_there x (λ n. done (record p { current = Some n.id }) tt []) absent ≡ done (record p { current = Some i }) tt []
    at (Some n) e told = ap (λ (i : Id). done (record p { current = Some i }) tt []) (node_at-id i t.nodes n e)
    at None e told = absurd told

-- an operation on the node that is held
pub about_held : {R : Type 0} (P : Outcome (Answer R) → Type 0) (p : Place) (rest : World) (t : Rows) (found : Node → Outcome (Answer R)) (h : Held) → IsHeld t (held_in t.nodes p.current) (Ok h) → ((n : Node) → Holds t n h → P (found n)) → P (with_current p (with_tree rest t) found)
about_held {R} P p rest t found h held next = at p.current held
  where
    at_node : (x : Option Node) → IsHeld t (there x) (Ok h) → P (where_there x found (refuse p Namespace NFS4ERR_STALE))
    at_node (Some n) held = next n held
    at_node None held = absurd held

    at : (i : Option Id) → IsHeld t (held_in t.nodes i) (Ok h) → P (with_node p (with_tree rest t) i found)
    at (Some i) held = at_node (node_at t.nodes i) held
    at None held = absurd held

-- ---- PUTFH

-- behind the test of the handle's bytes
pub put_named : (site : Site) (p : Place) (w : World) (handle : List ℕ) (i : Id) → Some i ≡ cond (is_handle site handle) (Some (handle_named handle)) None → put_fh site handle p w ≡ where_home site p i.level (where_there (node_at w.nodes i) (λ n. done (record p { current = Some n.id }) tt []) (refuse p Namespace NFS4ERR_STALE))
put_named site p w handle i e = at (is_handle site handle) e
  where
    next : Id → Outcome (Answer (Unit {0}))
    next i = where_home site p i.level (where_there (node_at w.nodes i) (λ n. done (record p { current = Some n.id }) tt []) (refuse p Namespace NFS4ERR_STALE))

    at : (b : Bool) → Some i ≡ cond b (Some (handle_named handle)) None → demand b (refuse p Argument NFS4ERR_BADHANDLE) (next (handle_named handle)) ≡ next i
    at true e = ap next cc
    at false e = cc
