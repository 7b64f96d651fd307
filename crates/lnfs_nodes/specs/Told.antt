-- What a tree tells of a change, as what an operation answers.
use Rattle.std.specs.Prelude.{ℕ, if◌then◌else◌, List, Option, Some, None, Result, Ok, Err, option_map}
use Rattle.std.specs.Option.{option_and_then}
use Rattle.lnfs_arguments.specs.declared.stateid.Cinfo.{Cinfo}
use Rattle.lnfs_arguments.specs.declared.statuses.TheConstants.{NFS4ERR_STALE, NFS4ERR_NOTDIR, NFS4ERR_NOENT, NFS4ERR_ISDIR, NFS4ERR_EXIST, NFS4ERR_NOTEMPTY, NFS4ERR_INVAL, NFS4ERR_MLINK, NFS4ERR_FBIG, NFS4ERR_NOSPC}
use Rattle.lnfs_world.specs.World.{Id, Kind, File, Directory, SymbolicLink, Node, Entry, node_at, is_directory}
use Rattle.lnfs_world.specs.Names.{entry_at}
use Rattle.lnfs_world.specs.Outcome.{Place, Outcome}
use Rattle.lnfs_operations.specs.declared.Gate.{Gate}
use Rattle.lnfs_operations.specs.declared.Gate.TheVariants.{Argument, Namespace, Quota}
use Rattle.lnfs_operations.specs.Chain.{Answer, refuse, done}
use Rattle.lnfs_operations.specs.Chain as chain
use Rattle.lnfs_tree.specs.declared.node.Info.{Info}
use Rattle.lnfs_tree.specs.declared.node.NodeKind.{NodeKind}
use Rattle.lnfs_tree.specs.declared.node.TreeError.{TreeError}
use Rattle.lnfs_tree.specs.declared.node.TreeError.TheVariants.{Stale, NotDir, NoEnt, IsDir, Exist, NotEmpty, Inval, MLink, FBig, Spent, Memory}
use Rattle.lnfs_tree.specs.Rows.{Rows, kind_of}
use Rattle.lnfs_tree.specs.Changed.{Doing, Gone, gone}
use Rattle.lnfs_nodes.specs.Refusals.{name_refusal}

abbrev pub refusal : Gate → ℕ → chain.Refusal
refusal gate status = record { gate = gate; status = status }

-- What a tree's error refuses. Want of memory is told otherwise.
abbrev pub refusal_by : TreeError → chain.Refusal
refusal_by Stale = refusal Namespace NFS4ERR_STALE
refusal_by NotDir = refusal Namespace NFS4ERR_NOTDIR
refusal_by NoEnt = refusal Namespace NFS4ERR_NOENT
refusal_by IsDir = refusal Namespace NFS4ERR_ISDIR
refusal_by Exist = refusal Namespace NFS4ERR_EXIST
refusal_by NotEmpty = refusal Namespace NFS4ERR_NOTEMPTY
refusal_by Inval = refusal Namespace NFS4ERR_INVAL
refusal_by MLink = refusal Namespace NFS4ERR_MLINK
refusal_by FBig = refusal Namespace NFS4ERR_FBIG
refusal_by Spent = refusal Quota NFS4ERR_NOSPC
refusal_by Memory = refusal Quota NFS4ERR_NOSPC

-- an operation that does what a tree tells, behind its own tests
abbrev pub follows : {A R : Type 0} → (A → R) → Place → Result (Doing A) TreeError → Outcome (Answer R)
follows told p (Ok doing) = done p (told doing.answer) doing.changes
follows told p (Err why) = refuse p (refusal_by why).gate (refusal_by why).status

abbrev pub cinfo_of : Info → Cinfo
cinfo_of i = record { before = i.before; after = i.after }

-- ---- names

-- what a name is refused by, by its form
abbrev pub naming : List ℕ → Option chain.Refusal
naming name = option_map (refusal Argument) (name_refusal name)

-- that a node is no directory
abbrev pub no_directory : NodeKind → Option chain.Refusal
no_directory kind = if is_directory (kind_of kind) then None else Some (refusal Namespace NFS4ERR_NOTDIR)

abbrev pub found_at : Option Node → Result Node chain.Refusal
found_at None = Err (refusal Namespace NFS4ERR_NOENT)
found_at (Some n) = Ok n

-- the node of an entry
abbrev pub entered_at : List Node → Option Entry → Result Node chain.Refusal
entered_at nodes None = Err (refusal Namespace NFS4ERR_NOENT)
entered_at nodes (Some e) = found_at (node_at nodes e.node)

-- the node of a name in a directory
abbrev pub named : Rows → Id → (name : List ℕ) → Result Node chain.Refusal
named t directory name = entered_at t.nodes (entry_at t.entries directory name)

-- ---- what goes

abbrev pub gone_at : Rows → Option Entry → Option Gone
gone_at t None = None
gone_at t (Some e) = option_and_then (gone t.entries e) (node_at t.nodes e.node)

-- the node that goes when a name is taken out of the directory of a file handle
abbrev pub gone_from : Rows → Option Id → (name : List ℕ) → Option Gone
gone_from t None name = None
gone_from t (Some i) name = gone_at t (entry_at t.entries i name)

-- the bytes that a node which goes leaves free at the level of its label: those of a file
abbrev pub bytes_in : Kind → (size : ℕ) → ℕ
bytes_in File size = size
bytes_in Directory size = 0
bytes_in SymbolicLink size = 0

abbrev pub gone_bytes : Gone → ℕ
gone_bytes g = bytes_in g.kind g.size
