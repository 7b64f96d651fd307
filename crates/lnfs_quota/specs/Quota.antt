-- What a level uses, and what is done to it.
use Rattle.std.specs.Prelude.{ℕ, ◌+◌, ◌-◌, List, slice_index_or, slice_set}
use Rattle.lnfs_quota.specs.declared.quota.Row.{Row}

-- where nothing is used
abbrev pub unused : Row
unused = record { nodes = 0; bytes = 0 }

-- the row of a level; a number past the end uses nothing
abbrev pub row_at : List Row → (level : ℕ) → Row
row_at rows level = slice_index_or rows level unused

-- ---- each call changes the row of its level alone

abbrev pub with_nodes : List Row → (level nodes : ℕ) → List Row
with_nodes rows level nodes = slice_set rows level (record (row_at rows level) { nodes = nodes })

abbrev pub with_bytes : List Row → (level bytes : ℕ) → List Row
with_bytes rows level bytes = slice_set rows level (record (row_at rows level) { bytes = bytes })

abbrev pub node_charged : List Row → (level : ℕ) → List Row
node_charged rows level = with_nodes rows level ((row_at rows level).nodes + 1)

abbrev pub node_credited : List Row → (level : ℕ) → List Row
node_credited rows level = with_nodes rows level ((row_at rows level).nodes - 1)

abbrev pub resized : List Row → (level old new : ℕ) → List Row
resized rows level old new = with_bytes rows level ((row_at rows level).bytes - old + new)

-- one level after the other, which may be the same
abbrev pub moved : List Row → (from to bytes : ℕ) → List Row
moved rows from to bytes = resized (resized rows from bytes 0) to 0 bytes
