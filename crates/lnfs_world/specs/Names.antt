-- Look-ups of names, and what they tell of a node.
use Rattle.std.specs.Prelude.{ℕ, Bool, ◌&&◌, List, length, Option, filter, find, count_by, nat_lt}
use Rattle.std.specs.Str.{bytes_eq}
use Rattle.lnfs_world.specs.World.{Id, Kind, Directory, Node, Entry, same_id}

-- the entry of a name in a directory
abbrev pub entry_at : List Entry → (directory : Id) → (name : List ℕ) → Option Entry
entry_at entries directory name = find (λ e. same_id directory e.directory && bytes_eq e.name name) entries

abbrev pub is_above : (directory : Id) → (cookie : ℕ) → Entry → Bool
is_above directory cookie e = same_id directory e.directory && nat_lt cookie e.cookie

-- The entries of a directory whose cookies are above a number, and the first of them. Entries lie in the order of
-- their cookies.
abbrev pub entries_above : List Entry → (directory : Id) → (cookie : ℕ) → List Entry
entries_above entries directory cookie = filter (is_above directory cookie) entries

abbrev pub entry_above : List Entry → (directory : Id) → (cookie : ℕ) → Option Entry
entry_above entries directory cookie = find (is_above directory cookie) entries

-- how many names a directory holds, and how many names a node has
abbrev pub names_in : List Entry → (directory : Id) → ℕ
names_in entries directory = count_by (λ e. same_id directory e.directory) entries

abbrev pub names_of : List Entry → (node : Id) → ℕ
names_of entries node = count_by (λ e. same_id node e.node) entries

-- the bytes of a file or of a link's text, the names in a directory
abbrev pub size_of : List Entry → Node → Kind → ℕ
size_of entries n Directory = names_in entries n.id
size_of entries n kind = length n.inner.content

-- the names of a file or a link; 2 of a directory
abbrev pub links_of : List Entry → Node → Kind → ℕ
links_of entries n Directory = 2
links_of entries n kind = names_of entries n.id
