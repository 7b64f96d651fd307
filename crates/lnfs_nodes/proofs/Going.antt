-- The node that goes with its last name.
use Rattle.std.proofs.Common.{◌≡◌, refl, ap, sym, ◌∙◌, ℕ, List, Option, Some, None, Result, Ok, Err, arith}
use Rattle.std.specs.Prelude.{IfOk}
use Rattle.lnfs_types.specs.declared.event.Moment.{Moment}
use Rattle.lnfs_world.specs.World.{Id, Kind, File, Directory, SymbolicLink, Node, Entry, node_at}
use Rattle.lnfs_world.specs.Names.{size_of}
use Rattle.lnfs_world.specs.Usage.{bytes_of}
use Rattle.lnfs_world.proofs.Seen.{node_at-id}
use Rattle.lnfs_tree.specs.declared.node.TreeError.{TreeError}
use Rattle.lnfs_tree.specs.Rows.{Rows, id_of}
use Rattle.lnfs_tree.specs.Changed.{Doing, Does, Gone, remove_of}
use Rattle.lnfs_nodes.specs.Trees.{there, held_in, IsHeld}
use Rattle.lnfs_nodes.specs.Told.{gone_from, bytes_in}
use Rattle.lnfs_nodes.specs.declared.held.Held.{Held}

-- a node that is held is that of the handle
pub held_is : (t : Rows) (handle : Option Id) (h : Held) → IsHeld t (held_in t.nodes handle) (Ok h) → handle ≡ Some (id_of h.id)
held_is t None h held = absurd held
held_is t (Some i) h held = at (node_at t.nodes i) refl held
  where
    at : (x : Option Node) → node_at t.nodes i ≡ x → IsHeld t (there x) (Ok h) → Some i ≡ Some (id_of h.id)
    at (Some n) e held = ap Some (sym (held.id ∙ node_at-id i t.nodes n e))
    at None e held = absurd held

-- what goes is told
pub told_gone : {A B : Type 0} (seen : A → B) (going : B → Option Gone) (old new : Rows) (doing : Result (Doing B) TreeError) (goes : Option Gone) → IfOk doing (λ d. going d.answer ≡ goes) → (a : A) → Does seen doing old new (Ok a) → going (seen a) ≡ goes
told_gone seen going old new (Ok d) goes is a does = ap going does.0 ∙ is
told_gone seen going old new (Err why) goes is a does = absurd does

pub remove_gone : (t : Rows) (i : Id) (name : List ℕ) (at : Moment) → IfOk (remove_of t i name at) (λ d. d.answer.1 ≡ gone_from t (Some i) name)
remove_gone t i name at = grind (arith, node_at-id i t.nodes)

-- they are the bytes of the node
pub bytes_gone : (entries : List Entry) (n : Node) (k : Kind) → bytes_in k (size_of entries n k) ≡ bytes_of n k
bytes_gone entries n File = refl
bytes_gone entries n Directory = refl
bytes_gone entries n SymbolicLink = refl
