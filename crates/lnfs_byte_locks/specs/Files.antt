-- The tests of a range and of the current file, which LOCK, LOCKT and LOCKU share.
use Rattle.std.specs.Prelude.{◌≡◌, true, Result, Ok, Err}
use Rattle.lnfs_world.specs.World.{Node, World}
use Rattle.lnfs_world.specs.Outcome.{Place, Outcome}
use Rattle.lnfs_operations.specs.declared.Refusal.{Refusal}
use Rattle.lnfs_operations.specs.Chain.{Answer, refuse}
use Rattle.lnfs_operations.specs.Handles.{with_current}
use Rattle.lnfs_operations.specs.Files.{where_file}
use Rattle.lnfs_tree.specs.Rows.{rows_of}
use Rattle.lnfs_nodes.specs.Trees.{Holds}
use Rattle.lnfs_nodes.specs.declared.held.Held.{Held}
use Rattle.lnfs_locks.specs.Arguments.{Asked}
use Rattle.lnfs_locks.specs.Ranges.{is_range, where_range}
use Rattle.lnfs_locks.specs.Effects.{Came}

abbrev pub where_asked_file : Place → World → Asked → (Node → Outcome (Answer Came)) → Outcome (Answer Came)
where_asked_file p w a next = where_range p a (with_current p w (λ n. where_file p n (next n)))

-- a file behind these tests
pub record IsFileOf (p : Place) (w : World) (a : Asked) (h : Held) : Type 0 where
  pub node : Node
  pub holds : Holds (rows_of w) node h
  pub range : is_range a ≡ true
  pub leads : (next : Node → Outcome (Answer Came)) → where_asked_file p w a next ≡ next node

-- it is led to, or an operation on it is refused
abbrev pub LeadsToFile : Place → World → Asked → Result Held Refusal → Type 0
LeadsToFile p w a (Ok h) = IsFileOf p w a h
LeadsToFile p w a (Err why) = (next : Node → Outcome (Answer Came)) → where_asked_file p w a next ≡ refuse p why.gate why.status
