-- What becomes of a comparison of attributes.
use Rattle.std.specs.Prelude.{Bool, cond, Option, Some, None, Result, Ok, Err}
use Rattle.lnfs_attrs.specs.declared.raw.RawAttrs.{RawAttrs}
use Rattle.lnfs_attrs.specs.declared.numbers.TheConstants.{RDATTR_ERROR}
use Rattle.lnfs_attrs.specs.Bitmaps.{has_attr}
use Rattle.lnfs_arguments.specs.declared.statuses.TheConstants.{NFS4ERR_INVAL, NFS4ERR_ATTRNOTSUPP}
use Rattle.lnfs_world.specs.Outcome.{Place, Outcome}
use Rattle.lnfs_operations.specs.declared.Gate.TheVariants.{Argument}
use Rattle.lnfs_operations.specs.declared.Refusal.{Refusal}
use Rattle.lnfs_operations.specs.Chain.{Answer, refuse}
use Rattle.lnfs_operations.specs.Chain as chain
use Rattle.lnfs_operations.specs.GetAttr.{is_supported}

-- what refuses the attributes that are given
abbrev pub given_refusal : RawAttrs → Option chain.Refusal
given_refusal given =
    cond (is_supported given.mask)
    (cond (has_attr given.mask RDATTR_ERROR) (Some (record { gate = Argument; status = NFS4ERR_INVAL })) None)
    (Some (record { gate = Argument; status = NFS4ERR_ATTRNOTSUPP }))

-- what follows a comparison, or what refuses it
abbrev pub where_compared : {R : Type 0} → Place → (Bool → Outcome (Answer R)) → Result Bool Refusal → Outcome (Answer R)
where_compared p same (Ok is) = same is
where_compared p same (Err why) = refuse p why.gate why.status
