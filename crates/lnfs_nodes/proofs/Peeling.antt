-- Tests of an operation's definition that the code has passed.
use Rattle.std.proofs.Common.{◌≡◌, ap, ℕ, true, List, Option, Some, None, Result, Ok, Err, arith}
use Rattle.std.specs.Prelude.{IsErrAnd}
use Rattle.lnfs_world.specs.World.{Id, Node, World, node_at, is_directory}
use Rattle.lnfs_world.specs.Outcome.{Place, Outcome}
use Rattle.lnfs_arguments.specs.declared.statuses.TheConstants.{NFS4ERR_STALE}
use Rattle.lnfs_operations.specs.declared.Gate.TheVariants.{Namespace}
use Rattle.lnfs_operations.specs.declared.Refusal.{Refusal}
use Rattle.lnfs_operations.specs.Chain.{Answer, refuse, where_there}
use Rattle.lnfs_operations.specs.Handles.{with_node}
use Rattle.lnfs_operations.specs.Names.{where_named}
use Rattle.lnfs_operations.specs.NewNames.{where_directory}
use Rattle.lnfs_tree.specs.Rows.{Rows}
use Rattle.lnfs_nodes.specs.Trees.{with_tree, there, held_in, Holds, IsHeld, refusal_of}
use Rattle.lnfs_nodes.specs.Acts.{checked}
use Rattle.lnfs_nodes.specs.Told.{naming, no_directory}
use Rattle.lnfs_nodes.specs.declared.held.Held.{Held}

-- a name that is well formed
pub named_on : {R : Type 0} (p : Place) (name : List ℕ) (next : Outcome (Answer R)) → None ≡ naming name → where_named p name next ≡ next
named_on p name next e = grind arith

pub named_off : {R : Type 0} (p : Place) (name : List ℕ) (next : Outcome (Answer R)) (why : Refusal) → Some (refusal_of why) ≡ naming name → where_named p name next ≡ refuse p why.gate why.status
named_off p name next why e = grind arith

-- an operation on the node of a handle that is held
pub about_node : {R : Type 0} (o : Outcome (Answer R)) (p : Place) (rest : World) (t : Rows) (handle : Option Id) (found : Node → Outcome (Answer R)) (h : Held) → IsHeld t (held_in t.nodes handle) (Ok h) → ((n : Node) → Holds t n h → found n ≡ o) → with_node p (with_tree rest t) handle found ≡ o
about_node {R} o p rest t handle found h held next = at handle held
  where
    at_node : (x : Option Node) → IsHeld t (there x) (Ok h) → where_there x found (refuse p Namespace NFS4ERR_STALE) ≡ o
    at_node (Some n) held = next n held
    at_node None held = absurd held

    at : (i : Option Id) → IsHeld t (held_in t.nodes i) (Ok h) → with_node p (with_tree rest t) i found ≡ o
    at (Some i) held = at_node (node_at t.nodes i) held
    at None held = absurd held

-- a node that is a directory, and one that is none
pub is_one : (t : Rows) (d : Node) (h : Held) → Holds t d h → None ≡ no_directory h.facts.kind → is_directory d.kind ≡ true
is_one t d h holds e = grind (arith, holds.tells.kind)

pub directory_on : {R : Type 0} (p : Place) (d : Node) (next : Outcome (Answer R)) → is_directory d.kind ≡ true → where_directory p d next ≡ next
directory_on p d next e = grind arith

pub directory_off : {R : Type 0} (p : Place) (t : Rows) (d : Node) (h : Held) (next : Outcome (Answer R)) (why : Refusal) → Holds t d h → Some (refusal_of why) ≡ no_directory h.facts.kind → where_directory p d next ≡ refuse p why.gate why.status
directory_off p t d h next why holds e = grind (arith, holds.tells.kind)

-- a refusal that `?` hands on
pub err_checked : {A R : Type 0} (p : Place) (r : Result A Refusal) (next : A → Outcome (Answer R)) (why : Refusal) → IsErrAnd r (λ e. e ≡ why) → checked p r next ≡ refuse p why.gate why.status
err_checked p (Ok a) next why is = absurd is
err_checked {R = R} p (Err e) next why is = ap (λ (x : Refusal). refuse {R = R} p x.gate x.status) is
