-- SETATTR behind its arguments: what it does of a node.
use Rattle.std.specs.Prelude.{ℕ, Bool, ◌&&◌, if◌then◌else◌, Option, Some, None}
use Rattle.lnfs_attrs.specs.declared.bitmap.Bitmap.{Bitmap}
use Rattle.lnfs_attrs.specs.declared.settable.AttrSet.{AttrSet}
use Rattle.lnfs_arguments.specs.declared.stateid.StateId.{StateId}
use Rattle.lnfs_arguments.specs.declared.statuses.TheConstants.{NFS4ERR_ISDIR, NFS4ERR_INVAL}
use Rattle.lnfs_world.specs.World.{Kind, Node, World, is_directory}
use Rattle.lnfs_world.specs.Outcome.{Site, Place, Outcome}
use Rattle.lnfs_operations.specs.declared.Gate.TheVariants.{Namespace}
use Rattle.lnfs_operations.specs.Chain.{Answer}
use Rattle.lnfs_operations.specs.Chain as chain
use Rattle.lnfs_operations.specs.Lookup.{is_link}
use Rattle.lnfs_operations.specs.SetAttr.{set_on}
use Rattle.lnfs_nodes.specs.GivenValues.{Wanted}

-- a size is that of a file
abbrev pub size_refusal : (sized : Bool) → Kind → Option chain.Refusal
size_refusal sized kind =
    if sized && is_directory kind then Some (record { gate = Namespace; status = NFS4ERR_ISDIR }) else
    if sized && is_link kind then Some (record { gate = Namespace; status = NFS4ERR_INVAL }) else
    None

-- the attributes but the label
abbrev pub unlabelled : (size mode : Option ℕ) → AttrSet
unlabelled size mode = record { size = size; mode = mode; label = None }

abbrev pub wanted_done : Site → StateId → Place → World → Node → Wanted → (set : Bitmap) → Outcome (Answer Bitmap)
wanted_done site id p w n x set = set_on site id p w n (unlabelled x.size x.mode) x.label set
