-- What a level uses of its limits.
use Rattle.std.specs.Prelude.{ℕ, ◌==◌, cond, List, length, count_by, sum_by}
use Rattle.lnfs_world.specs.World.{Kind, File, Directory, SymbolicLink, Node}

-- the nodes whose home is a level
abbrev pub nodes_used : List Node → (level : ℕ) → ℕ
nodes_used nodes level = count_by (λ n. n.id.level == level) nodes

-- the bytes of a file; other nodes are charged none
abbrev pub bytes_of : Node → Kind → ℕ
bytes_of n File = length n.inner.content
bytes_of n Directory = 0
bytes_of n SymbolicLink = 0

-- the bytes of the files whose label is a level
abbrev pub bytes_used : List Node → (level : ℕ) → ℕ
bytes_used nodes level = sum_by (λ n. cond (n.label == level) (bytes_of n n.kind) 0) nodes
