-- The rows of which a tree can be made, and how it is made of them: node by node without names, then name by name.
use Rattle.std.specs.Prelude.{◌≡◌, ◌≤◌, ◌<◌, ◌+◌, ◌^◌, ℕ, true, List, [], length, map, Option, Some, None}
use Rattle.std.specs.List.{AllByRecursion}
use Rattle.lnfs_rows.specs.declared.nodes.NodeRow.{NodeRow}
use Rattle.lnfs_rows.specs.declared.nodes.EntryRow.{EntryRow}
use Rattle.lnfs_rows.specs.Told.{node_of, entry_of}
use Rattle.lnfs_rows.specs.Lasts.{given_of}
use Rattle.lnfs_world.specs.Rows.{inserted, Rising, Apart}
use Rattle.lnfs_world.specs.World.{Id, Kind, File, Directory, SymbolicLink, Node as RowOfNode, Entry as RowOfEntry, node_order, entry_order, directory_at}
use Rattle.lnfs_world.specs.Names.{names_of}
use Rattle.lnfs_world.specs.Tree.{joins}
use Rattle.lnfs_world.specs.Facts.{same_name}
use Rattle.lnfs_world.specs.declared.numbers.TheConstants.{LAST_NUMBER, MOST_NAMES, MOST_FILE}
use Rattle.lnfs_tree.specs.declared.node.NodeId.{NodeId}
use Rattle.lnfs_tree.specs.declared.store.Node.{Node}
use Rattle.lnfs_tree.specs.Rows.{Rows}
use Rattle.lnfs_tree.specs.Listed.{name_order}

-- the rows that values stand for
abbrev pub rows_told : List NodeRow → List EntryRow → (lasts : List ℕ) → Rows
rows_told nodes entries lasts = record { nodes = map node_of nodes; entries = map entry_of entries; lasts = given_of lasts }

-- ---- what is asked of rows

-- an identifier as the code has it
pub record IsNumbered (i : Id) : Type 0 where
  pub level : i.level < 2 ^ 32
  pub number : i.number ≤ LAST_NUMBER

-- the data of a file are limited, and a directory has none
abbrev pub HoldsBy : Kind → (content : List ℕ) → Type 0
HoldsBy File content = length content ≤ MOST_FILE
HoldsBy Directory content = content ≡ []
HoldsBy SymbolicLink content = Unit {0}

pub record IsStorable (n : RowOfNode) : Type 0 where
  pub number : n.id.number ≤ LAST_NUMBER
  pub content : HoldsBy n.kind n.inner.content

pub record MakesNodes (nodes : List RowOfNode) : Type 0 where
  pub rise : Rising node_order nodes
  pub storable : AllByRecursion IsStorable nodes

pub record MakesNames (nodes : List RowOfNode) (entries : List RowOfEntry) : Type 0 where
  -- cookies in one directory differ
  pub rise : Rising entry_order entries
  -- names in one directory differ
  pub apart : Apart same_name entries
  -- an entry stands in a directory, and its node is there
  pub joined : AllByRecursion (λ e. joins (directory_at nodes) e ≡ true) entries
  -- how many names a node may have
  pub few : (i : Id) → names_of entries i ≤ MOST_NAMES

-- a tree can be made of the rows
pub record MakesTree (t : Rows) : Type 0 where
  pub nodes : MakesNodes t.nodes
  pub names : MakesNames t.nodes t.entries
  pub lasts : AllByRecursion IsNumbered t.lasts

-- ---- the steps

-- a node that has no name, and holds none
pub record IsBare (n : Node) : Type 0 where
  pub names : n.names ≡ []
  pub parent : n.parent ≡ None
  pub links : n.links ≡ 0

-- a name in a directory, whose counter of cookies stays
abbrev pub with_entry : (cookie : ℕ) → (name : List ℕ) → NodeId → Node → Node
with_entry cookie name child n = record n { names = inserted name_order (record { cookie = cookie; name = name; node = child }) n.names }

-- the directory of the first name
abbrev pub first_parent : Option NodeId → NodeId → Option NodeId
first_parent None directory = Some directory
first_parent (Some parent) directory = Some parent

-- one more name of a node
abbrev pub with_more_links : (directory : NodeId) → Node → Node
with_more_links directory n = record n { links = n.links + 1; parent = first_parent n.parent directory }
