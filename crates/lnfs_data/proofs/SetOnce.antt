-- What a call of a tree did sets one file at most.
use Rattle.std.proofs.Common.{◌≡◌, ◌+◌, ℕ, Bool, true, false, cond, List, [], length, Option, Some, None, Result, Ok, Err, refl, ap, ◌∙◌, inl, inr}
use Rattle.std.specs.Prelude.{nat_le}
use Rattle.lnfs_words.specs.Words.{is_empty}
use Rattle.lnfs_types.specs.declared.event.Moment.{Moment}
use Rattle.lnfs_content.specs.Sparse.{zeroed, has_region, lie_apart}
use Rattle.lnfs_world.specs.declared.numbers.TheConstants.{MOST_FILE}
use Rattle.lnfs_world.specs.World.{Id, Kind, File, Directory, SymbolicLink, Node, node_at}
use Rattle.lnfs_world.specs.Change.{touched}
use Rattle.lnfs_world.specs.Effects.{sized, written, size_written, read_at, data_changed}
use Rattle.lnfs_world.proofs.Seen.{node_at-id}
use Rattle.lnfs_tree.specs.declared.node.TreeError.{TreeError}
use Rattle.lnfs_tree.specs.declared.node.TreeError.TheVariants.{Inval, FBig, Memory}
use Rattle.lnfs_tree.specs.Rows.{Rows, of_file, on_file}
use Rattle.lnfs_tree.specs.Changed.{Doing, Does, test, sets_data, set_size_of, write_of, zero_of, copy_of, move_of}
use Rattle.lnfs_data.specs.Charges.{SetsAtMost}

module _ (t u : Rows) where
  -- an error leaves the rows
  pub kept : (told : Result (Doing (Unit {0})) TreeError) (e : TreeError) → Does {A = Unit {0}} {B = Unit {0}} (λ x. x) told t u (Err e) → u ≡ t
  kept (Ok d) Memory does = does
  kept (Ok d) e does = absurd does
  kept (Err why) Memory does = does
  kept (Err why) e does = does.1

  module _ (i : Id) where
    -- a success sets the file of an identifier, if any
    abbrev pub Sets : Result (Doing (Unit {0})) TreeError → Type 0
    Sets told = (a : Unit {0}) → Does {A = Unit {0}} {B = Unit {0}} (λ x. x) told t u (Ok a) → SetsAtMost i t u

    by_kind : (k : Kind) (next : Result (Doing (Unit {0})) TreeError) → (k ≡ File → Sets next) → Sets (of_file k next)
    by_kind File next is = is refl
    by_kind Directory next is = λ a does. absurd does
    by_kind SymbolicLink next is = λ a does. absurd does

    on_node : (o : Option Node) (next : Node → Result (Doing (Unit {0})) TreeError) → ((n : Node) → o ≡ Some n → n.kind ≡ File → Sets (next n)) → Sets (on_file o next)
    on_node None next is = λ a does. absurd does
    on_node (Some n) next is = by_kind n.kind (next n) (λ file. is n refl file)

    tested : (b : Bool) (why : TreeError) (next : Result (Doing (Unit {0})) TreeError) → Sets next → Sets (test b why next)
    tested true why next is = is
    tested false why next is = λ a does. absurd does

    nothing : Sets (Ok (record { answer = tt; changes = [] }))
    nothing = λ a does. inl (ap (λ (r : Rows). r.nodes) does.1)

    data_set : (n : Node) (content : List ℕ) (at : Moment) → node_at t.nodes i ≡ Some n → n.kind ≡ File → Sets (Ok (sets_data at n content))
    data_set n content at found file = λ a does. inr (record {
      node = n;
      inner = data_changed at content n.inner;
      found = found;
      file = file;
      set = ap (λ (r : Rows). r.nodes) does.1 ∙ ap (λ (j : Id). touched j (data_changed at content n.inner) t.nodes) (node_at-id i t.nodes n found);
    })

    either : (b : Bool) (x y : Doing (Unit {0})) → Sets (Ok x) → Sets (Ok y) → Sets (Ok (cond b x y))
    either true x y a b = a
    either false x y a b = b

    pub size_sets : (size : ℕ) (at : Moment) → Sets (set_size_of t i size at)
    size_sets size at = on_node (node_at t.nodes i) _ (λ n found file. tested (nat_le size MOST_FILE) FBig _ (data_set n (sized size n.inner.content) at found file))

    pub write_sets : (offset : ℕ) (bytes : List ℕ) (at : Moment) → Sets (write_of t i offset bytes at)
    write_sets offset bytes at = on_node (node_at t.nodes i) _ (λ n found file.
        tested (nat_le (size_written offset bytes n.inner.content) MOST_FILE) FBig _ (
        either (is_empty bytes) _ _ nothing (data_set n (written offset bytes n.inner.content) at found file)))

    pub zero_sets : (first end : ℕ) (at : Moment) → Sets (zero_of t i first end at)
    zero_sets first end at = on_node (node_at t.nodes i) _ (λ n found file.
        either (has_region first end n.inner.content) _ _ (data_set n (zeroed first end n.inner.content) at found file) nothing)

    pub copy_sets : (from : Id) (source target count : ℕ) (at : Moment) → Sets (copy_of t from i source target count at)
    copy_sets from source target count at =
        on_node (node_at t.nodes from) _ (λ s found_s file_s.
        on_node (node_at t.nodes i) _ (λ n found file.
        tested (nat_le (source + count) (length s.inner.content)) Inval _ (
        tested (nat_le (size_written target (read_at source count s.inner.content) n.inner.content) MOST_FILE) FBig _ (
        either (is_empty (read_at source count s.inner.content)) _ _ nothing (data_set n (written target (read_at source count s.inner.content) n.inner.content) at found file)))))

    pub move_sets : (from to count : ℕ) (at : Moment) → Sets (move_of t i from to count at)
    move_sets from to count at =
        on_node (node_at t.nodes i) _ (λ n found file.
        tested (nat_le (from + count) (length n.inner.content)) Inval _ (
        tested (lie_apart from to count) Inval _ (
        tested (nat_le (size_written to (read_at from count n.inner.content) n.inner.content) MOST_FILE) FBig _ (
        either (is_empty (read_at from count n.inner.content)) _ _ nothing (data_set n (written to (read_at from count n.inner.content) n.inner.content) at found file)))))
