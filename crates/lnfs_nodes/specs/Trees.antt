-- What the code's answers stand for, in a world with the rows of a tree.
use Rattle.std.specs.Prelude.{◌≡◌, ℕ, cond, if◌then◌else◌, List, [], Option, Some, None, Result, Ok, Err}
use Rattle.lnfs_world.specs.World.{Id, Node, World, node_at}
use Rattle.lnfs_world.specs.Outcome.{Site, Place, Outcome}
use Rattle.lnfs_monitor.specs.Rules.{Asks, Home, allows, rule_of}
use Rattle.lnfs_monitor.specs.declared.rule.Rule.TheVariants.{M8}
use Rattle.lnfs_operations.specs.Judged.{denied_with}
use Rattle.lnfs_arguments.specs.declared.statuses.TheConstants.{NFS4ERR_STALE, NFS4ERR_NOFILEHANDLE}
use Rattle.lnfs_operations.specs.declared.Gate.TheVariants.{Namespace, Monitor}
use Rattle.lnfs_operations.specs.Chain.{Answer, Done, Refused, refuse, done}
use Rattle.lnfs_operations.specs.Chain as chain
use Rattle.lnfs_tree.specs.Rows.{Rows, id_of, Tells}
use Rattle.lnfs_tree.specs.declared.node.NodeId.{NodeId}
use Rattle.lnfs_operations.specs.declared.Refusal.{Refusal}
use Rattle.lnfs_nodes.specs.declared.held.Held.{Held}

-- a world with the rows of a tree
abbrev pub with_tree : World → Rows → World
with_tree rest t = record rest { nodes = t.nodes; entries = t.entries; lasts = record rest.lasts { nodes = t.lasts } }

abbrev pub refusal_of : Refusal → chain.Refusal
refusal_of why = record { gate = why.gate; status = why.status }

-- an answer by what is told of it
abbrev pub answered : {A R : Type 0} → (A → R) → Result A Refusal → Answer R
answered told (Ok a) = Done (told a)
answered told (Err why) = Refused (refusal_of why)

-- nothing changes, and the place stays
abbrev pub stays : {R : Type 0} → Place → Answer R → Outcome (Answer R)
stays p answer = record { answer = answer; place = p; changes = [] }

-- what was found becomes the current file handle, or the saved one
abbrev pub goes : Place → Result NodeId Refusal → Outcome (Answer (Unit {0}))
goes p (Ok i) = done (record p { current = Some (id_of i) }) tt []
goes p (Err why) = refuse p why.gate why.status

abbrev pub saves : Place → Result NodeId Refusal → Outcome (Answer (Unit {0}))
saves p (Ok i) = done (record p { saved = Some (id_of i) }) tt []
saves p (Err why) = refuse p why.gate why.status

-- ---- the node of a file handle

abbrev pub there : Option Node → Result Node chain.Refusal
there (Some n) = Ok n
there None = Err (record { gate = Namespace; status = NFS4ERR_STALE })

-- the node of a handle, or what refuses an operation on it
abbrev pub held_in : List Node → Option Id → Result Node chain.Refusal
held_in nodes (Some i) = there (node_at nodes i)
held_in nodes None = Err (record { gate = Namespace; status = NFS4ERR_NOFILEHANDLE })

-- what the code holds of it
pub record Holds (t : Rows) (n : Node) (h : Held) : Type 0 where
  pub id : id_of h.id ≡ n.id
  pub node_is : node_at t.nodes n.id ≡ Some n
  pub tells : Tells t.entries n h.facts

abbrev pub IsHeld : Rows → Result Node chain.Refusal → Result Held Refusal → Type 0
IsHeld t (Ok n) (Ok h) = Holds t n h
IsHeld t (Err why) (Err told) = refusal_of told ≡ why
IsHeld t _ _ = ⊥

-- ---- the rules of labels

-- what the rules refuse of a question
abbrev pub denial : Site → (subject : ℕ) → Asks → Option chain.Refusal
denial site s asks = if allows site.dom s asks then None else Some (record { gate = Monitor (rule_of asks); status = denied_with (rule_of asks) })

-- and what refuses that a subject names a node of a home
abbrev pub home_denial : Site → (subject home : ℕ) → Option chain.Refusal
home_denial site s home = if allows site.dom s (Home home) then None else Some (record { gate = cond site.limited Namespace (Monitor M8); status = NFS4ERR_STALE })
