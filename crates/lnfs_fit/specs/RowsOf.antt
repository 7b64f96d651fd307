-- The rows that lists stand for.
use Rattle.std.specs.Prelude.{◌≡◌, List, map}
use Rattle.lnfs_world.specs.World as world
use Rattle.lnfs_rows.specs.declared.numbers.Id.{Id}
use Rattle.lnfs_rows.specs.declared.nodes.NodeRow.{NodeRow}
use Rattle.lnfs_rows.specs.declared.nodes.EntryRow.{EntryRow}
use Rattle.lnfs_rows.specs.Told.{id_of, node_of, entry_of}

abbrev pub ids_of : List Id → List world.Id
ids_of ids = map id_of ids

abbrev pub nodes_of : List NodeRow → List world.Node
nodes_of rows = map node_of rows

abbrev pub entries_of : List EntryRow → List world.Entry
entries_of rows = map entry_of rows

-- the identifiers of rows, in their order
abbrev pub AreIdsOf : {X : Type 0} → (X → world.Id) → List X → List Id → Type 0
AreIdsOf id rows ids = ids_of ids ≡ map id rows
