-- File handles: their bytes, and the two of a COMPOUND (RFC 8881 section 2.10.6 and 16.2.3.1.1).
use Rattle.std.specs.Prelude.{ℕ, ◌+◌, ◌*◌, ◌^◌, ◌==◌, ◌&&◌, Bool, List, take, drop, ◌++◌, length, Option, nat_le, nat_lt}
use Rattle.std.specs.Int.{w32, w64, from_be_bytes}
use Rattle.lnfs_xdr.specs.Canon.{word, long}
use Rattle.lnfs_world.specs.World.{Id, Node, World, node_at}
use Rattle.lnfs_world.specs.Outcome.{Site, Place, Outcome}
use Rattle.lnfs_arguments.specs.declared.statuses.TheConstants.{NFS4ERR_STALE, NFS4ERR_NOFILEHANDLE}
use Rattle.lnfs_operations.specs.declared.Gate.TheVariants.{Namespace}
use Rattle.lnfs_world.specs.declared.numbers.TheConstants.{LAST_NUMBER}
use Rattle.lnfs_operations.specs.Chain.{Answer, refuse, where_there}

-- the home of a node and its number there
abbrev pub handle_of : Id → List ℕ
handle_of i = word i.level ++ long i.number

abbrev pub handle_named : List ℕ → Id
handle_named bytes = record { level = from_be_bytes w32 (take 4 bytes); number = from_be_bytes w64 (drop 4 bytes) }

-- twelve bytes, a level of the policy, and a number that it could give
abbrev pub is_handle : Site → List ℕ → Bool
is_handle site bytes = length bytes == 12 && (nat_lt (handle_named bytes).level site.levels && nat_le (handle_named bytes).number LAST_NUMBER)

-- fileid: the home and the number are its upper and its lower half
abbrev pub file_id : Id → ℕ
file_id i = i.level * 2 ^ 32 + i.number

-- the node of a file handle, which has to be set, and the node there
abbrev pub with_node : {R : Type 0} → Place → World → Option Id → (Node → Outcome (Answer R)) → Outcome (Answer R)
with_node p w handle found =
    where_there handle
    (λ i. where_there (node_at w.nodes i) found (refuse p Namespace NFS4ERR_STALE))
    (refuse p Namespace NFS4ERR_NOFILEHANDLE)

abbrev pub with_current : {R : Type 0} → Place → World → (Node → Outcome (Answer R)) → Outcome (Answer R)
with_current p w found = with_node p w p.current found
