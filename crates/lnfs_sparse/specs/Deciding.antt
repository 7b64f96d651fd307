-- What the tests of an operation on a file decide: which file it is and that the operation does so much, or what refuses it.
use Rattle.std.specs.Prelude.{◌≡◌, List, Result, Ok, Err}
use Rattle.lnfs_world.specs.World.{File, Node, World}
use Rattle.lnfs_world.specs.Change.{Change}
use Rattle.lnfs_world.specs.Outcome.{Place, Outcome}
use Rattle.lnfs_operations.specs.declared.Refusal.{Refusal}
use Rattle.lnfs_operations.specs.Chain.{Answer, refuse, done}
use Rattle.lnfs_tree.specs.Rows.{rows_of}
use Rattle.lnfs_nodes.specs.Trees.{Holds}
use Rattle.lnfs_nodes.specs.declared.held.Held.{Held}

-- a file that an operation is led to, which answers so and makes such changes
pub record IsLed {R : Type 0} (o : Outcome (Answer R)) (p : Place) (w : World) (told : Node → R) (changes : Node → List Change) (h : Held) : Type 0 where
  pub node : Node
  pub holds : Holds (rows_of w) node h
  pub file : node.kind ≡ File
  pub leads : o ≡ done p (told node) (changes node)

abbrev pub Leads : {R : Type 0} → Outcome (Answer R) → Place → World → (Node → R) → (Node → List Change) → Result Held Refusal → Type 0
Leads o p w told changes (Ok h) = IsLed o p w told changes h
Leads o p w told changes (Err why) = o ≡ refuse p why.gate why.status

-- where nothing is told
abbrev pub Decides : Outcome (Answer (Unit {0})) → Place → World → (Node → List Change) → Result Held Refusal → Type 0
Decides o p w changes result = Leads o p w (λ n. tt) changes result

-- a file that is there
pub record IsFileHeld (w : World) (h : Held) : Type 0 where
  pub node : Node
  pub holds : Holds (rows_of w) node h
  pub file : node.kind ≡ File
