-- How bytes go on: with a whole event, or with a part of one, or so that no event begins with them.
use Rattle.std.specs.Prelude.{Ok, Err}
use Rattle.lnfs_xdr.specs.declared.error.XdrError.{XdrError}
use Rattle.lnfs_xdr.specs.declared.error.XdrError.TheVariants.{Short, BadBool, TooLong}
use Rattle.lnfs_xdr.specs.Reading.{Read, Fault, Leaves}

pub data Stage : Type 0 where
  Whole : Stage
  Part : Stage
  Damage : Stage

-- an item that isn't there for want of bytes may still come
abbrev pub stage_at : XdrError → Stage
stage_at Short = Part
stage_at BadBool = Damage
stage_at TooLong = Damage

abbrev pub stage_of : {A : Type 0} → Read (Unit {0}) A → Stage
stage_of (Ok x) = Whole
stage_of (Err (Fault cause stuck)) = stage_at cause
stage_of (Err (Leaves e)) = Damage
