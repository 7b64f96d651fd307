-- Rows whose totals are what the nodes of a world use.
use Rattle.std.specs.Prelude.{◌≡◌, ◌==◌, ℕ, ◌<◌, ◌≤◌, Bool, true, false, cond, List, length}
use Rattle.std.specs.List.{AllByRecursion}
use Rattle.lnfs_calipso.specs.declared.lattice.TheConstants.{MAX_LEVELS}
use Rattle.lnfs_world.specs.declared.numbers.TheConstants.{LAST_NUMBER, MOST_FILE}
use Rattle.lnfs_world.specs.World.{Node}
use Rattle.lnfs_world.specs.Usage.{nodes_used, bytes_used, bytes_of}
use Rattle.lnfs_world.specs.Change.{Change, Make, Touch, Relabel, Drop}
use Rattle.lnfs_quota.specs.declared.quota.Row.{Row}
use Rattle.lnfs_quota.specs.Quota.{row_at, node_charged, resized}

-- A node that is counted: its home and its label are levels that a policy may list, and it has as many bytes as a file may
-- have. Where it has bytes, its number is one that a level may give.
pub record IsInBounds (n : Node) : Type 0 where
  pub home : n.id.level < MAX_LEVELS
  pub label : n.label < MAX_LEVELS
  pub bytes : bytes_of n n.kind ≤ MOST_FILE
  pub number : 0 < bytes_of n n.kind → n.id.number ≤ LAST_NUMBER

-- A level that no policy may list uses nothing.
pub record AreTotals (rows : List Row) (nodes : List Node) : Type 0 where
  pub levels : length rows ≡ MAX_LEVELS
  pub homes : (level : ℕ) → (row_at rows level).nodes ≡ nodes_used nodes level
  pub labels : (level : ℕ) → (row_at rows level).bytes ≡ bytes_used nodes level
  pub bounds : AllByRecursion IsInBounds nodes

-- whether a change leaves all nodes as they are: whatever is done to clients, sessions, contexts, names and opens
abbrev pub leaves_nodes : Change → Bool
leaves_nodes (Make node entry) = false
leaves_nodes (Touch node inner) = false
leaves_nodes (Relabel node label inner) = false
leaves_nodes (Drop entry) = false
leaves_nodes _ = true

-- what a node counts for in a level: 1 in its home, and its bytes in its label
abbrev pub home_share : Node → (level : ℕ) → ℕ
home_share n level = cond (n.id.level == level) 1 0

abbrev pub label_share : Node → (level : ℕ) → ℕ
label_share n level = cond (n.label == level) (bytes_of n n.kind) 0

-- one more node, with its bytes
abbrev pub node_counted : List Row → Node → List Row
node_counted rows n = node_charged (resized rows n.label 0 (bytes_of n n.kind)) n.id.level
