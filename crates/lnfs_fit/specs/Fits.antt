-- What each row of nodes and of entries has to be, and all of them.
use Rattle.std.specs.Prelude.{◌≡◌, ◌≤◌, ◌==◌, ◌&&◌, ℕ, Bool, true, cond, List, length, slice_index, IfSome}
use Rattle.std.specs.List.{AllByRecursion}
use Rattle.lnfs_world.specs.World.{Id, Kind, Inner, Node, Entry, label_at}
use Rattle.lnfs_world.specs.Names.{names_of}
use Rattle.lnfs_world.specs.Facts.{NodeFacts, is_below, cookies_at, is_good_entry}
use Rattle.lnfs_world.specs.Outcome.{Site}
use Rattle.lnfs_world.specs.declared.numbers.TheConstants.{LAST_CHANGE, MOST_NAMES}
use Rattle.lnfs_operations.specs.declared.numbers.TheConstants.{MOST_MODE, MOST_TEXT}
use Rattle.lnfs_types.specs.declared.limits.TheConstants.{LABEL_LIMIT}
use Rattle.lnfs_operations.specs.Lookup.{is_link}
use Rattle.lnfs_operations.specs.Sizes.{is_level, NodeFits}
use Rattle.lnfs_operations.specs.Bounds.{IsGivenBy, HoldsBy, NodeBounds, EntryBounds}
use Rattle.lnfs_rows.specs.Lasts.{given_of}
use Rattle.lnfs_fit.specs.Places.{nth_node}

-- what a kind of node holds, and the text of a link
pub record IsFitContent (kind : Kind) (inner : Inner) : Type 0 where
  pub holds : HoldsBy kind inner
  pub text : is_link kind ≡ true → length inner.content ≤ MOST_TEXT

-- all of a node's bounds but those of its identifier, with what its label has to dominate
pub record IsFitNode (site : Site) (n : Node) : Type 0 where
  pub dominates : site.dom n.label n.id.level ≡ true
  pub label : is_level site n.label ≡ true
  pub verifier : IfSome n.verifier (λ bytes. length bytes ≡ 8)
  pub mode : n.inner.mode ≤ MOST_MODE
  pub change : n.inner.change ≤ LAST_CHANGE
  pub stored : IfSome n.inner.stored (λ stored. length stored.bytes ≤ LABEL_LIMIT)
  pub content : IsFitContent n.kind n.inner

-- its cookie is below the directory's next, and its labels fit
abbrev pub fits_in : (ℕ → ℕ → Bool) → List Node → Entry → Bool
fits_in dom nodes e = is_below e.cookie (cookies_at nodes e.directory) && is_good_entry dom (label_at nodes) e

-- a name whose directory's label is the node's home
abbrev pub holds : List Node → (names dirs : List ℕ) → ℕ → Bool
holds nodes names dirs t = (nth_node nodes (slice_index dirs t)).label == (nth_node nodes (slice_index names t)).id.level

-- the node's place where a name holds it, else a place behind the last
abbrev pub holder : List Node → (names dirs : List ℕ) → ℕ → ℕ
holder nodes names dirs t = cond (holds nodes names dirs t) (slice_index names t) (length nodes)

-- at home, or held there by a name
abbrev pub is_home : List Node → ℕ → Bool
is_home nodes k = (nth_node nodes k).label == (nth_node nodes k).id.level

-- all that has to hold of rows of nodes and entries
pub record AreFit (site : Site) (last : List ℕ) (nodes : List Node) (entries : List Entry) : Type 0 where
  pub facts : NodeFacts site.dom nodes entries (given_of last)
  pub sizes : AllByRecursion NodeFits nodes
  pub bounds : AllByRecursion (NodeBounds site) nodes
  pub entry_bounds : AllByRecursion EntryBounds entries
  pub names : (node : Id) → names_of entries node ≤ MOST_NAMES
  pub lasts : AllByRecursion (IsGivenBy site) (given_of last)
