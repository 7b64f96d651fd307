-- What refuses an operation on the node of a file handle, by what the code finds.
use Rattle.std.proofs.Common.{◌≡◌, refl, ap, sym, Bool, true, false, cond, Option, Some, None, Ok, Err}
use Rattle.lnfs_world.specs.World.{Id, Node, World, node_at}
use Rattle.lnfs_world.specs.Outcome.{Site, Place, Outcome}
use Rattle.lnfs_arguments.specs.declared.statuses.TheConstants.{NFS4ERR_STALE}
use Rattle.lnfs_monitor.specs.Rules.{Asks, allows, rule_of}
use Rattle.lnfs_operations.specs.declared.Gate.TheVariants.{Monitor, Namespace}
use Rattle.lnfs_operations.specs.declared.Refusal.{Refusal}
use Rattle.lnfs_operations.specs.Chain.{Answer, refuse, demand, where_there}
use Rattle.lnfs_operations.specs.Chain as chain
use Rattle.lnfs_operations.specs.Judged.{denied_with, where_allowed, where_asked}
use Rattle.lnfs_operations.specs.Handles.{with_node, with_current}
use Rattle.lnfs_tree.specs.Rows.{Rows}
use Rattle.lnfs_nodes.specs.Trees.{with_tree, there, held_in, Holds, IsHeld, refusal_of, denial}
use Rattle.lnfs_nodes.specs.declared.held.Held.{Held}
use Rattle.lnfs_nodes.proofs.Tests.{allowed}
use Rattle.lnfs_nodes.proofs.Found.{about_held}

-- a refusal of the definition that the code's stands for
pub refused_as : {R : Type 0} (p : Place) (why : Refusal) (r : chain.Refusal) → refusal_of why ≡ r → refuse {R = R} p r.gate r.status ≡ refuse p why.gate why.status
refused_as {R} p why r e = ap (λ (r : chain.Refusal). refuse {R = R} p r.gate r.status) (sym e)

-- ---- the node

-- an operation on the node that is held
pub on_held : {R : Type 0} (p : Place) (rest : World) (t : Rows) (found : Node → Outcome (Answer R)) (h : Held) (o : Outcome (Answer R)) → IsHeld t (held_in t.nodes p.current) (Ok h) → ((n : Node) → Holds t n h → found n ≡ o) → with_current p (with_tree rest t) found ≡ o
on_held {R} p rest t found h o held next = about_held (λ (x : Outcome (Answer R)). x ≡ o) p rest t found h held next

-- an operation without the node of a handle
pub handle_off : {R : Type 0} (p : Place) (rest : World) (t : Rows) (handle : Option Id) (found : Node → Outcome (Answer R)) (why : Refusal) → IsHeld t (held_in t.nodes handle) (Err why) → with_node p (with_tree rest t) handle found ≡ refuse p why.gate why.status
handle_off {R} p rest t handle found why held = at handle held
  where
    at_node : (x : Option Node) → IsHeld t (there x) (Err why) → where_there x found (refuse p Namespace NFS4ERR_STALE) ≡ refuse p why.gate why.status
    at_node (Some n) held = absurd held
    at_node None held = refused_as p why _ held

    at : (i : Option Id) → IsHeld t (held_in t.nodes i) (Err why) → with_node p (with_tree rest t) i found ≡ refuse p why.gate why.status
    at (Some i) held = at_node (node_at t.nodes i) held
    at None held = refused_as p why _ held

pub not_held : {R : Type 0} (p : Place) (rest : World) (t : Rows) (found : Node → Outcome (Answer R)) (why : Refusal) → IsHeld t (held_in t.nodes p.current) (Err why) → with_current p (with_tree rest t) found ≡ refuse p why.gate why.status
not_held p rest t found why held = handle_off p rest t p.current found why held

-- ---- the rules of labels

pub denied : {R : Type 0} (site : Site) (p : Place) (asks : Asks) (next : Outcome (Answer R)) (why : Refusal) → Some (refusal_of why) ≡ denial site p.subject asks → where_allowed site p asks next ≡ refuse p why.gate why.status
denied {R} site p asks next why e = at (allows site.dom p.subject asks) e
  where
    refusal : chain.Refusal
    refusal = record { gate = Monitor (rule_of asks); status = denied_with (rule_of asks) }

    at : (b : Bool) → Some (refusal_of why) ≡ cond b None (Some refusal) → demand b (refuse p refusal.gate refusal.status) next ≡ refuse p why.gate why.status
    at true e = cc
    at false e = refused_as p why refusal cc

-- a question that comes up in some cases
pub asked : {R : Type 0} (comes_up : Bool) (site : Site) (p : Place) (asks : Asks) (next : Outcome (Answer R)) → None ≡ cond comes_up (denial site p.subject asks) None → where_asked comes_up site p asks next ≡ next
asked true site p asks next e = allowed site p asks next e
asked false site p asks next e = refl

pub asked_denied : {R : Type 0} (comes_up : Bool) (site : Site) (p : Place) (asks : Asks) (next : Outcome (Answer R)) (why : Refusal) → Some (refusal_of why) ≡ cond comes_up (denial site p.subject asks) None → where_asked comes_up site p asks next ≡ refuse p why.gate why.status
asked_denied true site p asks next why e = denied site p asks next why e
asked_denied false site p asks next why e = cc
