-- The numbers of opens, by client, node and the name of the owner.
use Rattle.std.specs.Prelude.{ℕ, List, Option, Some, None}
use Rattle.std.specs.Ordering.{nat_cmp, ordering_then}
use Rattle.std.specs.Cmp.Lexicographic.{slice_cmp}
use Rattle.std.specs.declared.cmp.Ordering.{Ordering}
use Rattle.std.specs.BTreeMap.{BTreeMap, get, get_by}
use Rattle.lnfs_world.specs.World.{Id, id_order}
use Rattle.lnfs_open.specs.declared.owners.Owners.{Owners}
use Rattle.lnfs_open.specs.declared.owners.Matter.{Matter}
use Rattle.lnfs_open.specs.Listed.{id_of, key_of}

abbrev pub matter_cmp : Matter → Matter → Ordering
matter_cmp a b = ordering_then (id_order (id_of a.client) (id_of b.client)) (id_order (id_of a.node) (id_of b.node))

abbrev pub matter_of : (client node : Id) → Matter
matter_of client node = record { client = key_of client; node = key_of node }

abbrev pub number_in : Option (BTreeMap Matter ℕ) → Matter → Option ℕ
number_in None m = None
number_in (Some numbers) m = get matter_cmp numbers m

abbrev pub numbers_of : Owners → List ℕ → Option (BTreeMap Matter ℕ)
numbers_of owners name = get_by (λ k. slice_cmp nat_cmp name k.items) owners.numbers

abbrev pub number_at : Owners → (client node : Id) → List ℕ → Option ℕ
number_at owners client node name = number_in (numbers_of owners name) (matter_of client node)
