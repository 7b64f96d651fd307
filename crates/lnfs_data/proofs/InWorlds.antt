-- What a call does to the rows of a tree, it does to every world that has them.
use Rattle.std.proofs.Common.{◌≡◌, ◌+◌, ℕ, Bool, true, false, cond, List, [], length, Option, Some, None, Result, Ok, Err, refl, ap, ◌∙◌}
use Rattle.std.specs.Prelude.{nat_le}
use Rattle.lnfs_words.specs.Words.{is_empty}
use Rattle.lnfs_types.specs.declared.event.Moment.{Moment}
use Rattle.lnfs_content.specs.Sparse.{zeroed, has_region, lie_apart}
use Rattle.lnfs_world.specs.declared.numbers.TheConstants.{MOST_FILE}
use Rattle.lnfs_world.specs.World.{Id, Kind, File, Directory, SymbolicLink, Node, World, node_at}
use Rattle.lnfs_world.specs.Change.{apply_all}
use Rattle.lnfs_world.specs.Effects.{sized, written, size_written, read_at, data_changed}
use Rattle.lnfs_tree.specs.declared.node.TreeError.{TreeError}
use Rattle.lnfs_tree.specs.declared.node.TreeError.TheVariants.{Inval, FBig, Memory}
use Rattle.lnfs_tree.specs.Rows.{Rows, of_file, on_file}
use Rattle.lnfs_tree.specs.Changed.{Doing, Does, ran, test, sets_data, set_size_of, write_of, zero_of, copy_of, move_of}
use Rattle.lnfs_data.specs.Charges.{accessed_in, IsAccessed}
use Rattle.lnfs_data.specs.Worlds.{Touches, Answer, DoesIn, with_access}

-- Worlds by the rows of a tree, of which a touch touches the rows alone.
module _ (in_world : Rows → World) (touches : Touches in_world) (t u : Rows) where
  -- it does the same there
  abbrev pub Same : Result (Doing (Unit {0})) TreeError → Type 0
  Same told = (r : Answer) → Does {A = Unit {0}} {B = Unit {0}} (λ x. x) told t u r → DoesIn told (in_world t) (in_world u) r

  refused : (why : TreeError) → Same (Err why)
  refused why (Ok a) does = absurd does
  refused why (Err Memory) does = ap in_world does
  refused why (Err e) does = (does.0, ap in_world does.1)

  done : (doing : Doing (Unit {0})) → in_world (ran doing.changes t) ≡ apply_all doing.changes (in_world t) → Same (Ok doing)
  done doing law (Ok a) does = ap in_world does.1 ∙ law
  done doing law (Err Memory) does = ap in_world does
  done doing law (Err e) does = absurd does

  by_kind : (k : Kind) (next : Result (Doing (Unit {0})) TreeError) → Same next → Same (of_file k next)
  by_kind File next is = is
  by_kind Directory next is = refused _
  by_kind SymbolicLink next is = refused _

  on_node : (o : Option Node) (next : Node → Result (Doing (Unit {0})) TreeError) → ((n : Node) → Same (next n)) → Same (on_file o next)
  on_node None next is = refused _
  on_node (Some n) next is = by_kind n.kind (next n) (is n)

  tested : (b : Bool) (why : TreeError) (next : Result (Doing (Unit {0})) TreeError) → Same next → Same (test b why next)
  tested true why next is = is
  tested false why next is = refused why

  nothing : Same (Ok (record { answer = tt; changes = [] }))
  nothing = done (record { answer = tt; changes = [] }) refl

  data_set : (n : Node) (content : List ℕ) (at : Moment) → Same (Ok (sets_data at n content))
  data_set n content at = done (sets_data at n content) (touches n.id (data_changed at content n.inner) t)

  either : (b : Bool) (x y : Doing (Unit {0})) → Same (Ok x) → Same (Ok y) → Same (Ok (cond b x y))
  either true x y a b = a
  either false x y a b = b

  module _ (i : Id) where
    pub size_in : (size : ℕ) (at : Moment) → Same (set_size_of t i size at)
    size_in size at = on_node (node_at t.nodes i) _ (λ n. tested (nat_le size MOST_FILE) FBig _ (data_set n (sized size n.inner.content) at))

    pub write_in : (offset : ℕ) (bytes : List ℕ) (at : Moment) → Same (write_of t i offset bytes at)
    write_in offset bytes at = on_node (node_at t.nodes i) _ (λ n.
        tested (nat_le (size_written offset bytes n.inner.content) MOST_FILE) FBig _ (
        either (is_empty bytes) _ _ nothing (data_set n (written offset bytes n.inner.content) at)))

    pub zero_in : (first end : ℕ) (at : Moment) → Same (zero_of t i first end at)
    zero_in first end at = on_node (node_at t.nodes i) _ (λ n.
        either (has_region first end n.inner.content) _ _ (data_set n (zeroed first end n.inner.content) at) nothing)

    pub copy_in : (from : Id) (source target count : ℕ) (at : Moment) → Same (copy_of t from i source target count at)
    copy_in from source target count at =
        on_node (node_at t.nodes from) _ (λ s.
        on_node (node_at t.nodes i) _ (λ n.
        tested (nat_le (source + count) (length s.inner.content)) Inval _ (
        tested (nat_le (size_written target (read_at source count s.inner.content) n.inner.content) MOST_FILE) FBig _ (
        either (is_empty (read_at source count s.inner.content)) _ _ nothing (data_set n (written target (read_at source count s.inner.content) n.inner.content) at)))))

    pub move_in : (from to count : ℕ) (at : Moment) → Same (move_of t i from to count at)
    move_in from to count at =
        on_node (node_at t.nodes i) _ (λ n.
        tested (nat_le (from + count) (length n.inner.content)) Inval _ (
        tested (lie_apart from to count) Inval _ (
        tested (nat_le (size_written to (read_at from count n.inner.content) n.inner.content) MOST_FILE) FBig _ (
        either (is_empty (read_at from count n.inner.content)) _ _ nothing (data_set n (written to (read_at from count n.inner.content) n.inner.content) at)))))

    -- a time of access too
    pub access_in : (at : Moment) → IsAccessed i at t u → in_world u ≡ with_access i at (in_world t) (node_at t.nodes i)
    access_in at is = ap in_world is ∙ by (node_at t.nodes i)
      where
        by : (o : Option Node) → in_world (accessed_in i at t o) ≡ with_access i at (in_world t) o
        by None = refl
        by (Some n) = touches i (record n.inner { accessed = at }) t
