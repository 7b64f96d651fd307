-- What the making, naming, moving and removing of nodes does to them, and the writing of files (RFC 8881 sections 5.8.1.4,
-- 5.8.2.43, 5.8.2.45, 18.23.3, 18.30.3 and 18.32.3): change numbers and times step, cookies are given, gaps are zeros.
use Rattle.std.specs.Prelude.{ℕ, ◌+◌, ◌-◌, Bool, not, ◌&&◌, ◌||◌, cond, List, [], ◌∷◌, ◌++◌, length, take, drop, replicate, filter, filter_map, min, max, nat_lt}
use Rattle.lnfs_types.specs.declared.event.Moment.{Moment}
use Rattle.lnfs_world.specs.declared.numbers.TheConstants.{LAST_NUMBER, LAST_CHANGE, LAST_COOKIE}
use Rattle.lnfs_world.specs.World.{Id, Inner, Node, Entry, same_id, label_at, is_directory, last_of}
use Rattle.lnfs_world.specs.Tree.{has_other_name, holds_names}
use Rattle.lnfs_world.specs.Change.{Change, Touch, Unlink, Drop}

-- ---- numbers and times

-- the next change number; the last one stays
abbrev pub stepped : ℕ → ℕ
stepped change = min (change + 1) LAST_CHANGE

-- of a node whose attributes or names changed
abbrev pub attributes_changed : Moment → Inner → Inner
attributes_changed moment inner = record inner { change = stepped inner.change; metadata = moment }

-- of a directory in which a name was taken out
abbrev pub names_changed : Moment → Inner → Inner
names_changed moment inner = record inner { change = stepped inner.change; metadata = moment; modified = moment }

-- of a directory in which a name was put, which takes the next cookie
abbrev pub name_added : Moment → Inner → Inner
name_added moment inner = record (names_changed moment inner) { cookies = inner.cookies + 1 }

-- ---- data of files

-- bytes cut to a size, or filled up to it with zeros
abbrev pub sized : (size : ℕ) → List ℕ → List ℕ
sized size content = take size (content ++ replicate (size - length content) 0)

-- bytes with others in place from an offset on; what is between the end and the offset is zeros
abbrev pub written : (offset : ℕ) → (bytes content : List ℕ) → List ℕ
written offset bytes content = sized offset content ++ (bytes ++ drop (offset + length bytes) content)

-- the bytes from an offset on, so many or all up to the end
abbrev pub read_at : (offset count : ℕ) → List ℕ → List ℕ
read_at offset count content = take count (drop offset content)

-- how many bytes there are after others were written at an offset; no bytes leave it
abbrev pub size_written : (offset : ℕ) → (bytes content : List ℕ) → ℕ
size_written offset [] content = length content
size_written offset (b ∷ bytes) content = max (length content) (offset + length (b ∷ bytes))

-- of a file whose data or size was set
abbrev pub data_changed : Moment → (content : List ℕ) → Inner → Inner
data_changed moment content inner = record inner { content = content; change = stepped inner.change; metadata = moment; modified = moment }

-- ---- names

-- the entry of a new name of a node in a directory
abbrev pub next_entry : (directory : Node) → (name : List ℕ) → (node : Id) → Entry
next_entry d name i = record { directory = d.id; cookie = d.inner.cookies; name = name; node = i }

-- whether a directory has a cookie left, and a level the number of a node
abbrev pub has_cookie : (directory : Node) → Bool
has_cookie d = nat_lt d.inner.cookies LAST_COOKIE

abbrev pub has_number : (lasts : List Id) → (level : ℕ) → Bool
has_number lasts level = nat_lt (last_of level lasts) LAST_NUMBER

-- the next identifier of a node whose home is a level
abbrev pub next_id : (lasts : List Id) → (level : ℕ) → Id
next_id lasts level = record { level = level; number = last_of level lasts + 1 }

-- A name is taken out. The node that it named is touched where it keeps other names, and dropped otherwise.
abbrev pub taken_out : Moment → List Entry → Entry → Node → List Change
taken_out moment entries e n = cond (has_other_name entries e) (Touch n.id (attributes_changed moment n.inner) ∷ Unlink e ∷ []) (Drop e ∷ [])

-- Whether a node may take the name of another: both are directories, and the other holds no names, or neither is one.
abbrev pub may_give_way : List Entry → (mover other : Node) → Bool
may_give_way entries mover other =
    is_directory mover.kind && (is_directory other.kind && not (holds_names entries other.id))
    || not (is_directory mover.kind) && not (is_directory other.kind)

-- The directories of a name that moves from one to the other: each is touched once.
abbrev pub directories_changed : Moment → (from to : Node) → List Change
directories_changed moment from to =
    cond (same_id from.id to.id)
    (Touch to.id (name_added moment to.inner) ∷ [])
    (Touch from.id (names_changed moment from.inner) ∷ Touch to.id (name_added moment to.inner) ∷ [])

-- the labels of the directories in which a node has names
abbrev pub parent_labels : List Node → List Entry → Id → List ℕ
parent_labels nodes entries i = filter_map (λ e. label_at nodes e.directory) (filter (λ e. same_id i e.node) entries)
