-- What the totals of levels allow to be counted, and what is taken from them where a node goes.
use Rattle.std.specs.Prelude.{◌≡◌, ◌+◌, ◌-◌, ◌<◌, ◌≤◌, ◌^◌, ◌==◌, ℕ, cond, List, length}
use Rattle.std.specs.List.{AllByRecursion}
use Rattle.lnfs_calipso.specs.declared.lattice.TheConstants.{MAX_LEVELS}
use Rattle.lnfs_world.specs.World.{Node}
use Rattle.lnfs_world.specs.Usage.{nodes_used, bytes_used}
use Rattle.lnfs_quota.specs.declared.quota.Row.{Row}
use Rattle.lnfs_quota.specs.Quota.{row_at, node_credited, resized}
use Rattle.lnfs_quota.specs.Totals.{IsInBounds}

-- ---- what is counted of nodes that are there

-- in a home
abbrev pub IsNodeHeld : List Row → (home : ℕ) → Type 0
IsNodeHeld rows home = (home < length rows) × (0 < (row_at rows home).nodes)

-- the bytes of a file in its label
abbrev pub AreBytesHeld : List Row → (label bytes : ℕ) → Type 0
AreBytesHeld rows label bytes = (label < length rows) × (bytes ≤ (row_at rows label).bytes)

-- ---- what may be counted

-- one more node of a level
abbrev pub MayRise : List Row → (level : ℕ) → Type 0
MayRise rows level = (row_at rows level).nodes + 1 < 2 ^ 64

-- another size of a file
pub record MayResize (rows : List Row) (level old new : ℕ) : Type 0 where
  pub held : AreBytesHeld rows level old
  pub fits : old < new → (row_at rows level).bytes - old + new < 2 ^ 64

-- a label that a new node may have, or a node that is there
abbrev pub IsListed : (label : ℕ) → Type 0
IsListed label = label < MAX_LEVELS

-- ---- a node that goes

-- one less in its home, and its bytes less in its label; the others stay in bounds
pub record IsLess (home label bytes : ℕ) (before after : List Node) : Type 0 where
  pub less_nodes : (level : ℕ) → nodes_used after level + cond (home == level) 1 0 ≡ nodes_used before level
  pub less_bytes : (level : ℕ) → bytes_used after level + cond (label == level) bytes 0 ≡ bytes_used before level
  pub bounds : AllByRecursion IsInBounds before → AllByRecursion IsInBounds after
  pub home_listed : AllByRecursion IsInBounds before → IsListed home
  pub label_listed : AllByRecursion IsInBounds before → IsListed label

-- the totals afterwards
abbrev pub released : List Row → (home label bytes : ℕ) → List Row
released rows home label bytes = resized (node_credited rows home) label bytes 0
