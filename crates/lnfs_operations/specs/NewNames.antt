-- Names in a directory that are put there or taken out: their tests, in the order of each operation, and what is told of the
-- directory.
use Rattle.std.specs.Prelude.{ℕ, List}
use Rattle.lnfs_arguments.specs.declared.stateid.Cinfo.{Cinfo}
use Rattle.lnfs_arguments.specs.declared.statuses.TheConstants.{NFS4ERR_NOENT, NFS4ERR_EXIST, NFS4ERR_NOTDIR}
use Rattle.lnfs_world.specs.World.{Node, Entry, World, node_at, is_directory}
use Rattle.lnfs_world.specs.Names.{entry_at}
use Rattle.lnfs_world.specs.Effects.{stepped}
use Rattle.lnfs_world.specs.Outcome.{Place, Outcome}
use Rattle.lnfs_operations.specs.declared.Gate.TheVariants.{Namespace}
use Rattle.lnfs_operations.specs.Chain.{Answer, refuse, demand, where_there}

abbrev pub where_directory : {R : Type 0} → Place → Node → Outcome (Answer R) → Outcome (Answer R)
where_directory p d next = demand (is_directory d.kind) (refuse p Namespace NFS4ERR_NOTDIR) next

-- a name that isn't in a directory
abbrev pub where_new : {R : Type 0} → Place → World → Node → (name : List ℕ) → Outcome (Answer R) → Outcome (Answer R)
where_new p w d name next = where_there (entry_at w.entries d.id name) (λ e. refuse p Namespace NFS4ERR_EXIST) next

-- a name that is in a directory, with the node that it names, which is there in every world
abbrev pub where_old : {R : Type 0} → Place → World → Node → (name : List ℕ) → (Entry → Node → Outcome (Answer R)) → Outcome (Answer R)
where_old p w d name next =
    where_there (entry_at w.entries d.id name)
    (λ e. where_there (node_at w.nodes e.node) (next e) (refuse p Namespace NFS4ERR_NOENT))
    (refuse p Namespace NFS4ERR_NOENT)

-- The change numbers of a directory before and after (change_info4, RFC 8881 section 3.3.8): it is changed once, or not.
abbrev pub changed : Node → Cinfo
changed d = record { before = d.inner.change; after = stepped d.inner.change }

abbrev pub unchanged : Node → Cinfo
unchanged d = record { before = d.inner.change; after = d.inner.change }
