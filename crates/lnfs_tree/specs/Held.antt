-- The nodes that the slots hold, in the order of the index.
use Rattle.std.specs.Prelude.{◌≡◌, ◌<◌, ◌+◌, ◌-◌, not, cond, nat_lt, ℕ, Bool, List, [], ◌∷◌, Option, Some, None, Result, Ok, Err, IsSomeAnd, if◌then◌else◌}
use Rattle.std.specs.List.{AllByRecursion, find, filter}
use Rattle.std.specs.declared.cmp.Ordering.{Ordering}
use Rattle.slab.specs.Slab.{Slab, get}
use Rattle.lnfs_types.specs.declared.event.Moment.{Moment}
use Rattle.lnfs_world.specs.Rows.{inserted, updated}
use Rattle.lnfs_world.specs.World.{Id, id_order, same_id, is_directory}
use Rattle.lnfs_world.specs.Effects.{stepped, sized, written, read_at}
use Rattle.lnfs_content.specs.Sparse.{zeroed}
use Rattle.lnfs_tree.specs.declared.node.NodeId.{NodeId}
use Rattle.lnfs_tree.specs.declared.node.TreeError.{TreeError}
use Rattle.lnfs_tree.specs.declared.node.TreeError.TheVariants.{Stale, NotDir}
use Rattle.lnfs_tree.specs.declared.setting.Setting.{Setting}
use Rattle.lnfs_tree.specs.declared.setting.Setting.TheVariants as settings
use Rattle.lnfs_tree.specs.declared.store.Node.{Node}
use Rattle.lnfs_tree.specs.Rows.{id_of, kind_of, of_file}
use Rattle.lnfs_tree.specs.Listed.{name_at, name_order, without_name}

abbrev pub id_cmp : NodeId → NodeId → Ordering
id_cmp a b = id_order (id_of a) (id_of b)

abbrev pub cons_some : {X : Type 0} → Option X → List X → List X
cons_some None xs = xs
cons_some (Some x) xs = x ∷ xs

abbrev pub held : Slab Node → List (NodeId × ℕ) → List Node
held slots [] = []
held slots (e ∷ es) = cons_some (get slots e.1) (held slots es)

-- each identifier of the index leads to the node of that identifier
abbrev pub AreHeld : Slab Node → List (NodeId × ℕ) → Type 0
AreHeld slots es = AllByRecursion (λ e. IsSomeAnd (get slots e.1) (λ n. n.id ≡ e.0)) es

abbrev pub is_node : Id → Node → Bool
is_node i n = same_id i (id_of n.id)

abbrev pub node_at : List Node → Id → Option Node
node_at nodes i = find (is_node i) nodes

abbrev pub node_order : Node → Node → Ordering
node_order a b = id_cmp a.id b.id

-- what is there has to be a directory
abbrev pub directory_in : Option Node → Result Node TreeError
directory_in None = Err Stale
directory_in (Some n) = if is_directory (kind_of n.kind) then Ok n else Err NotDir

-- what is there has to be a file
abbrev pub file_in : Option Node → Result Node TreeError
file_in None = Err Stale
file_in (Some n) = of_file (kind_of n.kind) (Ok n)

-- a directory can take a name at a cookie
pub record IsOpenTo (nodes : List Node) (i : Id) (cookie : ℕ) (name : List ℕ) : Type 0 where
  pub node : Node
  pub found : node_at nodes i ≡ Some node
  pub above : AllByRecursion (λ x. x.cookie < cookie) node.names
  pub absent : name_at node.names name ≡ None

abbrev pub with_name : ℕ → List ℕ → NodeId → Node → Node
with_name cookie name child n = record n { cookies = cookie + 1; names = inserted name_order (record { cookie = cookie; name = name; node = child }) n.names }

abbrev pub without : List ℕ → Node → Node
without name n = record n { names = without_name name n.names }

-- a directory has given no cookie from one on
pub record HasCookie (nodes : List Node) (i : Id) (cookie : ℕ) : Type 0 where
  pub node : Node
  pub found : node_at nodes i ≡ Some node
  pub above : AllByRecursion (λ x. x.cookie < cookie) node.names

-- a name in place of one that is the same
abbrev pub with_put : ℕ → List ℕ → NodeId → Node → Node
with_put cookie name child n = with_name cookie name child (without name n)

abbrev pub with_links : ℕ → Node → Node
with_links links n = record n { links = links }

abbrev pub with_parent : NodeId → Node → Node
with_parent parent n = record n { parent = Some parent }

abbrev pub with_access : Moment → Node → Node
with_access at n = record n { access = at }

-- a node whose attributes changed, and one whose names or data did
abbrev pub with_step : Moment → Node → Node
with_step at n = record n { change = stepped n.change; metadata = at }

abbrev pub with_names_step : Moment → Node → Node
with_names_step at n = record n { change = stepped n.change; metadata = at; modify = at }

abbrev pub with_size : (size : ℕ) → Moment → Node → Node
with_size size at n = with_names_step at (record n { bytes = sized size n.bytes })

abbrev pub with_written : (offset : ℕ) → List ℕ → Moment → Node → Node
with_written offset bytes at n = with_names_step at (record n { bytes = written offset bytes n.bytes })

abbrev pub with_bytes : List ℕ → Node → Node
with_bytes bytes n = record n { bytes = bytes }

-- the bytes of a node, or none
abbrev pub bytes_in : Option Node → List ℕ
bytes_in None = []
bytes_in (Some n) = n.bytes

abbrev pub with_moved : (from to count : ℕ) → Moment → Node → Node
with_moved from to count at n = with_names_step at (record n { bytes = written to (read_at from count n.bytes) n.bytes })

abbrev pub with_zeroed : (first end : ℕ) → Moment → Node → Node
with_zeroed first end at n = with_names_step at (record n { bytes = zeroed first end n.bytes })

abbrev pub with_set : Setting → Node → Node
with_set (settings.Mode mode) n = record n { mode = mode }
with_set (settings.Stored stored) n = record n { stored = Some stored }
with_set (settings.Label label) n = record n { label = label }

abbrev pub with_setting : Setting → Moment → Node → Node
with_setting s at n = with_step at (with_set s n)

abbrev pub stepped_from : (from to : Id) → Moment → List Node → List Node
stepped_from from to at nodes = cond (same_id from to) nodes (updated (is_node from) (with_names_step at) nodes)

-- the nodes after a name moved from one directory to another, which are touched once each
abbrev pub moved_nodes : (from to : Id) → (old new : List ℕ) → (cookie : ℕ) (at : Moment) → (target child : NodeId) → List Node → List Node
moved_nodes from to old new cookie at target child nodes =
    updated (is_node to) (with_names_step at) (
    stepped_from from to at (
    updated (is_node (id_of child)) (with_parent target) (
    updated (is_node from) (without old) (
    updated (is_node to) (with_put cookie new child) nodes))))

-- the nodes after one lost a name of so many
abbrev pub less_nodes : Id → (links : ℕ) → Moment → List Node → List Node
less_nodes i links at nodes =
    cond (nat_lt 1 links)
    (updated (is_node i) (with_step at) (updated (is_node i) (with_links (links - 1)) nodes))
    (filter (λ n. not (is_node i n)) nodes)
