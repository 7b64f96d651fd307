-- Directories as a tree: the way up from each of them ends at the root.
use Rattle.std.specs.Prelude.{ℕ, zero, suc, Bool, true, false, not, ◌&&◌, ◌||◌, ◌==◌, List, ◌≡◌, Option, Some, None, is_some, count_by}
use Rattle.std.specs.Option.{option_map}
use Rattle.std.specs.List.{find, list_any, AllByRecursion}
use Rattle.lnfs_world.specs.World.{Id, Entry, World, same_id}

-- P, as a fact that tactics do not look into where it only stands by
unfoldable pub Sealed : Type 0 → Type 0
Sealed P = P

-- the directory that is there from the start
abbrev pub root : Id
root = record { level = 0; number = 1 }

abbrev pub is_some_directory : Option Bool → Bool
is_some_directory None = false
is_some_directory (Some directory) = directory

abbrev pub is_other_node : Option Bool → Bool
is_other_node None = false
is_other_node (Some directory) = not directory

abbrev pub same_entry : Entry → Entry → Bool
same_entry a b = same_id a.directory b.directory && (a.cookie == b.cookie && same_id a.node b.node)

-- whether a node has a name, and one beside an entry
abbrev pub has_name : List Entry → Id → Bool
has_name entries i = list_any (λ e. same_id i e.node) entries

abbrev pub has_other_name : List Entry → Entry → Bool
has_other_name entries entry = list_any (λ e. same_id entry.node e.node && not (same_entry entry e)) entries

-- whether there are names in a directory
abbrev pub holds_names : List Entry → Id → Bool
holds_names entries i = list_any (λ e. same_id i e.directory) entries

-- the first name of a node; that of a directory, which has one
abbrev pub name_of : List Entry → Id → Option Entry
name_of entries i = find (λ e. same_id i e.node) entries

-- the directory in which a node has its first name
abbrev pub parent_of : List Entry → Id → Option Id
parent_of entries i = option_map (λ e. e.directory) (name_of entries i)

abbrev pub from_parent : Option Id → (Id → Option Id) → Option Id
from_parent None next = None
from_parent (Some d) next = next d

-- what is so many steps up, each of them to the parent
abbrev pub way_up : (Id → Option Id) → ℕ → Id → Option Id
way_up parent zero i = Some i
way_up parent (suc steps) i = from_parent (parent i) (λ d. way_up parent steps d)

-- the way up from a node comes to another: it is that one, or some number of steps up
abbrev pub LeadsTo : (Id → Option Id) → Id → Id → Type 0
LeadsTo parent i top = (steps : ℕ) × (way_up parent steps i ≡ Some top)

-- an entry's directory is one, and its node is there
abbrev pub joins : (Id → Option Bool) → Entry → Bool
joins kind e = is_some_directory (kind e.directory) && is_some (kind e.node)

-- over what says of an identifier whether a directory is there, or another node; and the entries
pub record Tree (kind : Id → Option Bool) (entries : List Entry) : Type 0 where
  -- the root is a directory, and nothing names it
  pub begins : kind root ≡ Some true
  pub free : has_name entries root ≡ false
  -- an entry stands in a directory, and its node is there
  pub joined : AllByRecursion (λ e. joins kind e ≡ true) entries
  -- each node but the root has a name, and no directory has a second
  pub named : (i : Id) (directory : Bool) → kind i ≡ Some directory → (same_id root i || has_name entries i) ≡ true
  pub once : AllByRecursion (λ e. (is_some_directory (kind e.node) && has_other_name entries e) ≡ false) entries
  -- the way up from each directory ends at the root
  pub ends : (i : Id) → kind i ≡ Some true → LeadsTo (parent_of entries) i root

abbrev pub is_above_parent : Option Id → (Id → Bool) → Bool
is_above_parent None next = false
is_above_parent (Some d) next = next d

-- a walk up, of so many steps at most, that looks for a directory
abbrev pub is_above : ℕ → (Id → Option Id) → Id → Id → Bool
is_above zero parent top i = same_id top i
is_above (suc steps) parent top i = same_id top i || is_above_parent (parent i) (λ d. is_above steps parent top d)

-- Whether a directory would go under itself. As many steps serve as there are nodes whose home the
-- subject dominates: a walk of more steps would tell it how many others there are.
abbrev pub goes_under : (ℕ → ℕ → Bool) → ℕ → World → Id → Id → Bool
goes_under dom s w moved target = is_above (count_by (λ n. dom s n.id.level) w.nodes) (parent_of w.entries) moved target
