-- What a level uses of a file, and what it used before the file was set.
use Rattle.std.specs.Prelude.{◌≡◌, ℕ, ◌⊎◌, List, length, Option, Some, None}
use Rattle.lnfs_types.specs.declared.event.Moment.{Moment}
use Rattle.lnfs_world.specs.World.{Id, Kind, File, Directory, SymbolicLink, Inner, Node, node_order, node_at}
use Rattle.lnfs_world.specs.Change.{touched}
use Rattle.lnfs_world.specs.Rows.{Rising}
use Rattle.lnfs_quota.specs.declared.quota.Row.{Row}
use Rattle.lnfs_quota.specs.Totals.{AreTotals}
use Rattle.lnfs_tree.specs.Rows.{Rows}

-- the label of a file, and how many bytes it has
abbrev pub charge_by : Node → Kind → Option (ℕ × ℕ)
charge_by n File = Some (n.label, length n.inner.content)
charge_by n Directory = None
charge_by n SymbolicLink = None

abbrev pub charge_in : Option Node → Option (ℕ × ℕ)
charge_in None = None
charge_in (Some n) = charge_by n n.kind

abbrev pub charge_at : Rows → Id → Option (ℕ × ℕ)
charge_at t i = charge_in (node_at t.nodes i)

-- one file holds something else, and no other node
pub record SetsFile (i : Id) (t u : Rows) : Type 0 where
  pub node : Node
  pub inner : Inner
  pub found : node_at t.nodes i ≡ Some node
  pub file : node.kind ≡ File
  pub set : u.nodes ≡ touched i inner t.nodes

abbrev pub SetsAtMost : Id → Rows → Rows → Type 0
SetsAtMost i t u = (u.nodes ≡ t.nodes) ⊎ SetsFile i t u

-- Totals that were those of rows before a file was set, if it was, of which it is told what a level used.
pub record WereTotals (rows : List Row) (u : Rows) (i : Id) (told : Option (ℕ × ℕ)) : Type 0 where
  pub before : Rows
  pub totals : AreTotals rows before.nodes
  pub rising : Rising node_order before.nodes
  pub charged : told ≡ charge_at before i
  pub sets : SetsAtMost i before u

-- the time of access of a node is set, if there is one, and nothing else
abbrev pub accessed_in : Id → Moment → Rows → Option Node → Rows
accessed_in i at t None = t
accessed_in i at t (Some n) = record t { nodes = touched i (record n.inner { accessed = at }) t.nodes }

abbrev pub IsAccessed : Id → Moment → Rows → Rows → Type 0
IsAccessed i at t u = u ≡ accessed_in i at t (node_at t.nodes i)
