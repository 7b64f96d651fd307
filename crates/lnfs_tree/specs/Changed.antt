-- What each change of a tree does to its rows, what it answers, and when it is refused. A refusal leaves the rows.
use Rattle.std.specs.Prelude.{◌≡◌, ℕ, ◌&&◌, ◌+◌, nat_le, Bool, not, cond, List, [], ◌∷◌, ◌++◌, length, Option, Some, None, option_map, Result, Ok, Err, is_some, nat_lt, if◌then◌else◌}
use Rattle.lnfs_words.specs.Words.{is_empty}
use Rattle.lnfs_types.specs.declared.event.Moment.{Moment}
use Rattle.lnfs_world.specs.declared.numbers.TheConstants.{FIRST_COOKIE, MOST_NAMES}
use Rattle.lnfs_world.specs.World.{Id, Kind, Stored as StoredLabel, Inner, Node, Entry as NameRow, same_id, node_at, label_at, is_directory}
use Rattle.lnfs_world.specs.Names.{entry_at, names_of, size_of}
use Rattle.lnfs_world.specs.Tree.{parent_of, holds_names, has_other_name, is_above}
use Rattle.lnfs_world.specs.Change.{Change, Make, Touch, Relabel, Link, Move, apply_all}
use Rattle.lnfs_world.specs.Effects.{stepped, attributes_changed, names_changed, name_added, sized, written, size_written, read_at, data_changed, next_entry, has_cookie, has_number, next_id, taken_out, may_give_way, directories_changed}
use Rattle.lnfs_world.specs.Facts.{NodeFacts}
use Rattle.lnfs_content.specs.Sparse.{zeroed, has_region, lie_apart}
use Rattle.lnfs_world.specs.declared.numbers.TheConstants.{MOST_FILE}
use Rattle.lnfs_tree.specs.declared.store.Node.{Node as StoredNode}
use Rattle.lnfs_tree.specs.declared.node.Fresh.{Fresh}
use Rattle.lnfs_tree.specs.declared.node.Info.{Info}
use Rattle.lnfs_tree.specs.declared.node.Dropped.{Dropped}
use Rattle.lnfs_tree.specs.declared.node.TreeError.{TreeError}
use Rattle.lnfs_tree.specs.declared.node.TreeError.TheVariants.{Stale, NotDir, NoEnt, IsDir, Exist, NotEmpty, Inval, MLink, FBig, Spent, Memory}
use Rattle.lnfs_tree.specs.Rows.{Rows, rows_of, id_of, kind_of, in_directory, on_file}
use Rattle.lnfs_world.specs.Given.{stored_of}
use Rattle.lnfs_tree.specs.Flat.{content_of}
use Rattle.lnfs_tree.specs.Places.{world_of}

-- The facts of a world hold of the rows: directories are a tree, names in one of them differ, and a node's label dominates
-- its home and the label of each directory that names it, which is its home or its own label.
abbrev pub FactsFor : (ℕ → ℕ → Bool) → Rows → Type 0
FactsFor dom t = NodeFacts dom t.nodes t.entries t.lasts

-- whatever dominance is
abbrev pub HasFacts : Rows → Type 0
HasFacts t = (dom : ℕ → ℕ → Bool) × FactsFor dom t

-- ---- labels that are as they have to be for the facts to hold again

-- what a name names, where it names anything, has the label of a directory
abbrev pub HasLabelOf : Rows → Id → Option NameRow → Type 0
HasLabelOf t dir None = Unit {0}
HasLabelOf t dir (Some e) = label_at t.nodes e.node ≡ label_at t.nodes dir

-- what is answered, and the changes that are made
pub record Doing (A : Type 0) : Type 0 where
  pub answer : A
  pub changes : List Change

abbrev pub ran : List Change → Rows → Rows
ran changes t = rows_of (apply_all changes (world_of t))

-- A call does and answers what is told, or is refused as is told and leaves the rows; without memory it leaves them too.
abbrev pub Does : {A B : Type 0} → (A → B) → Result (Doing B) TreeError → (before after : Rows) → Result A TreeError → Type 0
Does seen told before after (Err Memory) = after ≡ before
Does seen (Ok doing) before after (Ok answer) = (seen answer ≡ doing.answer) × (after ≡ ran doing.changes before)
Does seen (Err why) before after (Err error) = (error ≡ why) × (after ≡ before)
Does seen told before after result = ⊥

-- ---- what is told of directories and of what goes

abbrev pub changed : Node → Info
changed d = record { before = d.inner.change; after = stepped d.inner.change }

abbrev pub unchanged : Node → Info
unchanged d = record { before = d.inner.change; after = d.inner.change }

abbrev pub info_of : StoredNode → Info
info_of n = record { before = n.change; after = stepped n.change }

-- a node that goes with its last name
pub record Gone : Type 0 where
  pub node : Id
  pub kind : Kind
  pub label : ℕ
  pub size : ℕ

abbrev pub gone_of : Dropped → Gone
gone_of d = record { node = id_of d.node; kind = kind_of d.kind; label = d.label.0; size = d.size }

abbrev pub gone : List NameRow → NameRow → Node → Option Gone
gone entries e n = cond (has_other_name entries e) None (Some (record { node = n.id; kind = n.kind; label = n.label; size = size_of entries n n.kind }))

-- ---- look-ups

abbrev pub on_node : {A : Type 0} → Option Node → (Node → Result A TreeError) → Result A TreeError
on_node None next = Err Stale
on_node (Some n) next = next n

abbrev pub at_name : {A : Type 0} → Rows → Option NameRow → (NameRow → Node → Result A TreeError) → Result A TreeError
at_name t None next = Err NoEnt
at_name t (Some e) next = on_node (node_at t.nodes e.node) (next e)

-- the next test, or a refusal
abbrev pub test : {A : Type 0} → Bool → TreeError → Result A TreeError → Result A TreeError
test passes why next = if passes then next else Err why

-- ---- a new node

abbrev pub new_inner : Moment → Fresh → Option StoredLabel → Inner
new_inner at fresh stored = record {
  stored = stored;
  mode = fresh.mode;
  content = content_of (kind_of fresh.kind) [] fresh.text;
  change = 1;
  accessed = at;
  metadata = at;
  modified = at;
  cookies = FIRST_COOKIE;
}

abbrev pub stored_in : Fresh → Option StoredLabel
stored_in fresh = option_map stored_of fresh.stored

abbrev pub new_node : Moment → Fresh → Id → Node
new_node at fresh i = record { id = i; kind = kind_of fresh.kind; label = fresh.label.0; verifier = fresh.verifier; inner = new_inner at fresh (stored_in fresh) }

abbrev pub made : Moment → (name : List ℕ) → Fresh → (directory : Node) → Id → Doing (Id × Info)
made at name fresh d i = record {
  answer = (i, changed d);
  changes = Touch d.id (name_added at d.inner) ∷ Make (new_node at fresh i) (next_entry d name i) ∷ [];
}

abbrev pub insert_of : Rows → (dir : Id) → (name : List ℕ) → Fresh → Moment → Result (Doing (Id × Info)) TreeError
insert_of t dir name fresh at =
    in_directory (node_at t.nodes dir) (λ d.
    test (not (is_some (entry_at t.entries d.id name))) Exist (
    test (has_number t.lasts fresh.home.0 && has_cookie d) Spent (
    Ok (made at name fresh d (next_id t.lasts fresh.home.0)))))

-- ---- names

abbrev pub link_of : Rows → (node dir : Id) → (name : List ℕ) → Moment → Result (Doing Info) TreeError
link_of t node dir name at =
    on_node (node_at t.nodes node) (λ n.
    on_node (node_at t.nodes dir) (λ d.
    test (not (is_directory n.kind)) IsDir (
    test (is_directory d.kind) NotDir (
    test (not (is_some (entry_at t.entries d.id name))) Exist (
    test (nat_lt (names_of t.entries n.id) MOST_NAMES) MLink (
    test (has_cookie d) Spent (
    Ok (record {
      answer = changed d;
      changes = Touch d.id (name_added at d.inner) ∷ Touch n.id (attributes_changed at n.inner) ∷ Link (next_entry d name n.id) ∷ [];
    }))))))))

abbrev pub remove_of : Rows → (dir : Id) → (name : List ℕ) → Moment → Result (Doing (Info × Option Gone)) TreeError
remove_of t dir name at =
    in_directory (node_at t.nodes dir) (λ d.
    at_name t (entry_at t.entries d.id name) (λ e n.
    test (not (holds_names t.entries n.id)) NotEmpty (
    Ok (record {
      answer = (changed d, gone t.entries e n);
      changes = Touch d.id (names_changed at d.inner) ∷ taken_out at t.entries e n;
    }))))

-- ---- a name that moves

-- whether a node is another, or lies above it
abbrev pub lies_above : Rows → (top i : Id) → Bool
lies_above t top i = is_above (length t.nodes) (parent_of t.entries) top i

-- the changes that make room for a name, and the node that goes by them
pub record Room : Type 0 where
  pub changes : List Change
  pub gone : Option Gone

abbrev pub moved : Rows → Moment → (new : List ℕ) → (from to : Node) → NameRow → Node → Room → Result (Doing (Info × Info × Option Gone)) TreeError
moved t at new from to e n room =
    test (not (lies_above t n.id to.id)) Inval (
    test (has_cookie to) Spent (
    Ok (record {
      answer = (changed from, changed to, room.gone);
      changes = directories_changed at from to ++ room.changes ++ Move e (next_entry to new n.id) ∷ [];
    })))

abbrev pub moved_onto : Rows → Moment → (new : List ℕ) → (from to : Node) → NameRow → Node → Option NameRow → Result (Doing (Info × Info × Option Gone)) TreeError
moved_onto t at new from to e n None = moved t at new from to e n (record { changes = []; gone = None })
moved_onto t at new from to e n (Some other) =
    if same_id n.id other.node
    then Ok (record { answer = (unchanged from, unchanged to, None); changes = [] })
    else on_node (node_at t.nodes other.node) (λ m.
    test (may_give_way t.entries n m) Exist (
    moved t at new from to e n (record { changes = taken_out at t.entries other m; gone = gone t.entries other m })))

abbrev pub rename_of : Rows → (from : Id) → (old : List ℕ) → (to : Id) → (new : List ℕ) → Moment → Result (Doing (Info × Info × Option Gone)) TreeError
rename_of t from old to new at =
    on_node (node_at t.nodes from) (λ a.
    on_node (node_at t.nodes to) (λ b.
    test (is_directory a.kind) NotDir (
    test (is_directory b.kind) NotDir (
    at_name t (entry_at t.entries a.id old) (λ e n.
    moved_onto t at new a b e n (entry_at t.entries b.id new))))))

-- ---- attributes

abbrev pub set_mode_of : Rows → Id → (mode : ℕ) → Moment → Result (Doing (Unit {0})) TreeError
set_mode_of t i mode at =
    on_node (node_at t.nodes i) (λ n.
    Ok (record { answer = tt; changes = Touch n.id (attributes_changed at (record n.inner { mode = mode })) ∷ [] }))

-- the label as it is kept where labels are carried alone
abbrev pub respell_of : Rows → Id → StoredLabel → Moment → Result (Doing (Unit {0})) TreeError
respell_of t i stored at =
    on_node (node_at t.nodes i) (λ n.
    Ok (record { answer = tt; changes = Touch n.id (attributes_changed at (record n.inner { stored = Some stored })) ∷ [] }))

-- a directory keeps its label as long as it holds names
abbrev pub raise_of : Rows → Id → (label : ℕ) → Moment → Result (Doing (Unit {0})) TreeError
raise_of t i label at =
    on_node (node_at t.nodes i) (λ n.
    test (not (holds_names t.entries n.id)) NotEmpty (
    Ok (record { answer = tt; changes = Relabel n.id label (attributes_changed at n.inner) ∷ [] })))

-- ---- data of files

-- one change, which sets the data
abbrev pub sets_data : Moment → Node → (content : List ℕ) → Doing (Unit {0})
sets_data at n content = record { answer = tt; changes = Touch n.id (data_changed at content n.inner) ∷ [] }

abbrev pub set_size_of : Rows → Id → (size : ℕ) → Moment → Result (Doing (Unit {0})) TreeError
set_size_of t i size at =
    on_file (node_at t.nodes i) (λ n.
    test (nat_le size MOST_FILE) FBig (
    Ok (sets_data at n (sized size n.inner.content))))

-- no bytes change nothing
abbrev pub writes : Moment → Node → (offset : ℕ) → (bytes : List ℕ) → Doing (Unit {0})
writes at n offset bytes = cond (is_empty bytes) (record { answer = tt; changes = [] }) (sets_data at n (written offset bytes n.inner.content))

abbrev pub write_of : Rows → Id → (offset : ℕ) → (bytes : List ℕ) → Moment → Result (Doing (Unit {0})) TreeError
write_of t i offset bytes at =
    on_file (node_at t.nodes i) (λ n.
    test (nat_le (size_written offset bytes n.inner.content) MOST_FILE) FBig (
    Ok (writes at n offset bytes)))

-- a region without a byte changes nothing
abbrev pub zeroes : Moment → Node → (first end : ℕ) → Doing (Unit {0})
zeroes at n first end = cond (has_region first end n.inner.content) (sets_data at n (zeroed first end n.inner.content)) (record { answer = tt; changes = [] })

abbrev pub zero_of : Rows → Id → (first end : ℕ) → Moment → Result (Doing (Unit {0})) TreeError
zero_of t i first end at = on_file (node_at t.nodes i) (λ n. Ok (zeroes at n first end))

-- bytes of a file that are written to another file
abbrev pub copy_of : Rows → (from to : Id) → (source target count : ℕ) → Moment → Result (Doing (Unit {0})) TreeError
copy_of t from to source target count at =
    on_file (node_at t.nodes from) (λ a.
    on_file (node_at t.nodes to) (λ b.
    test (nat_le (source + count) (length a.inner.content)) Inval (
    test (nat_le (size_written target (read_at source count a.inner.content) b.inner.content) MOST_FILE) FBig (
    Ok (writes at b target (read_at source count a.inner.content))))))

-- bytes of a file that are written to another place of it
abbrev pub move_of : Rows → Id → (from to count : ℕ) → Moment → Result (Doing (Unit {0})) TreeError
move_of t i from to count at =
    on_file (node_at t.nodes i) (λ n.
    test (nat_le (from + count) (length n.inner.content)) Inval (
    test (lie_apart from to count) Inval (
    test (nat_le (size_written to (read_at from count n.inner.content) n.inner.content) MOST_FILE) FBig (
    Ok (writes at n to (read_at from count n.inner.content))))))
