-- CREATE behind its arguments: a new name in a directory, and what is made there.
use Rattle.std.specs.Prelude.{ℕ, if◌then◌else◌, List, Option, Some, None, is_some}
use Rattle.lnfs_arguments.specs.declared.statuses.TheConstants.{NFS4ERR_NOTDIR, NFS4ERR_EXIST, NFS4ERR_NOSPC}
use Rattle.lnfs_world.specs.World.{Node, Entry, is_directory}
use Rattle.lnfs_world.specs.Names.{entry_at}
use Rattle.lnfs_world.specs.Outcome.{Site}
use Rattle.lnfs_monitor.specs.Rules.{Change, Child}
use Rattle.lnfs_operations.specs.declared.Gate.TheVariants.{Namespace, Quota}
use Rattle.lnfs_operations.specs.Chain as chain
use Rattle.lnfs_operations.specs.Create.{Made}
use Rattle.lnfs_nodes.specs.Trees.{denial}
use Rattle.lnfs_nodes.specs.Told.{cinfo_of}
use Rattle.lnfs_nodes.specs.declared.creating.Created.{Created}

abbrev pub namespace : ℕ → chain.Refusal
namespace status = record { gate = Namespace; status = status }

-- the first of two refusals
abbrev pub first : Option chain.Refusal → Option chain.Refusal → Option chain.Refusal
first None second = second
first (Some why) second = Some why

-- what refuses a new name in a directory before its names are looked at, of a node with a label
abbrev pub child_refusal : Site → (subject : ℕ) → (directory : Node) → (child : ℕ) → Option chain.Refusal
child_refusal site s d child =
    if is_directory d.kind
    then first (denial site s (Change d.label)) (denial site s (Child d.label child))
    else Some (namespace NFS4ERR_NOTDIR)

-- what refuses a new name in a directory where its level has no room
abbrev pub full_refusal : List Entry → (directory : Node) → (name : List ℕ) → chain.Refusal
full_refusal entries d name =
    if is_some (entry_at entries d.id name) then namespace NFS4ERR_EXIST else record { gate = Quota; status = NFS4ERR_NOSPC }

-- what is told of a new node
abbrev pub created_of : Created → Made
created_of c = record { info = cinfo_of c.info; set = c.set }
