-- What operations do to how many nodes and bytes the levels have, and to their totals.
use Rattle.std.specs.Prelude.{◌≡◌, ◌+◌, ◌==◌, ℕ, cond, List, Option, Some, None, Result, Ok, Err}
use Rattle.std.specs.List.{AllByRecursion}
use Rattle.lnfs_world.specs.World.{Node}
use Rattle.lnfs_world.specs.Usage.{nodes_used, bytes_used}
use Rattle.lnfs_operations.specs.declared.Refusal.{Refusal}
use Rattle.lnfs_quota.specs.declared.quota.Row.{Row}
use Rattle.lnfs_quota.specs.Quota.{node_charged}
use Rattle.lnfs_quota.specs.Totals.{IsInBounds}
use Rattle.lnfs_tree.specs.Changed.{Gone}
use Rattle.lnfs_nodes.specs.Told.{gone_bytes}
use Rattle.lnfs_files.specs.Charges.{IsLess, IsNodeHeld, AreBytesHeld, IsListed}

-- a node that is counted in its home, and its bytes in its label
abbrev pub IsHeld : List Row → Option Gone → Type 0
IsHeld rows None = Unit {0}
IsHeld rows (Some g) = IsNodeHeld rows g.node.level × AreBytesHeld rows g.label (gone_bytes g)

-- ---- what becomes of the nodes

-- as many in each home, and as many bytes in each label; all stay in bounds
pub record AreAsMany (before after : List Node) : Type 0 where
  pub nodes : (level : ℕ) → nodes_used after level ≡ nodes_used before level
  pub bytes : (level : ℕ) → bytes_used after level ≡ bytes_used before level
  pub bounds : AllByRecursion IsInBounds before → AllByRecursion IsInBounds after

-- one more in a home, without bytes; all stay in bounds
pub record IsMore (home : ℕ) (before after : List Node) : Type 0 where
  pub nodes : (level : ℕ) → nodes_used after level ≡ nodes_used before level + cond (home == level) 1 0
  pub bytes : (level : ℕ) → bytes_used after level ≡ bytes_used before level
  pub bounds : AllByRecursion IsInBounds before → AllByRecursion IsInBounds after
  pub listed : AllByRecursion IsInBounds before → IsListed home

-- less the node that went, if one did
abbrev pub WentFrom : Option Gone → (before after : List Node) → Type 0
WentFrom None before after = AreAsMany before after
WentFrom (Some g) before after = IsLess g.node.level g.label (gone_bytes g) before after

abbrev pub TakenFrom : {A : Type 0} → (A → Option Gone) → Result A Refusal → (before after : List Node) → Type 0
TakenFrom gone (Ok a) before after = WentFrom (gone a) before after
TakenFrom gone (Err why) before after = AreAsMany before after

-- ---- what becomes of the totals

-- one more node in a home where it was made
abbrev pub charged : {A : Type 0} → List Row → (home : ℕ) → Result A Refusal → List Row
charged rows home (Ok made) = node_charged rows home
charged rows home (Err why) = rows
