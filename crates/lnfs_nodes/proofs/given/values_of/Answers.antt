use Rattle.std.proofs.Common.{◌∙◌, ap, subst, Err, Result}
use Rattle.lnfs_xdr.proofs.Fields.{IsBytes}
use Rattle.lnfs_attrs.specs.declared.settable.AttrSet.{AttrSet}
use Rattle.lnfs_operations.specs.declared.Refusal.{Refusal}
use Rattle.lnfs_operations.specs.Chain as chain
use Rattle.lnfs_nodes.specs.Trees.{refusal_of}
use Rattle.lnfs_nodes.proofs.ValuesTold.{taken, misspelled, unlisted, unsettable}
use Rattle.lnfs_nodes.proofs.given.values_of.Goals as goal

abbrev refusal : Refusal → Result AttrSet chain.Refusal
refusal why = Err (refusal_of why)

pub returns-in-Ok : goal.returns-in-Ok
returns-in-Ok c = taken c.args.given.now c.law_whole.ensures.0 c.in-Ok.values (subst IsBytes c.as_slice.ensures c.law_bytes.ensures) c.in-Ok.ensures

pub returns-in-Err-AttrNotSupp : goal.returns-in-Err-AttrNotSupp
returns-in-Err-AttrNotSupp c =
    ap refusal c.argument.ensures ∙ unlisted c.args.given.now c.law_whole.ensures.0 (rw c.in-Err-AttrNotSupp.field-0-is at c.in-Err-AttrNotSupp.ensures)

pub returns-in-Err-Inval : goal.returns-in-Err-Inval
returns-in-Err-Inval c =
    ap refusal c.argument-in-Err-Inval.ensures ∙ unsettable c.args.given.now c.law_whole.ensures.0 (rw c.in-Err-Inval.field-0-is at c.in-Err-Inval.ensures)

pub returns-in-Err-BadXdr : goal.returns-in-Err-BadXdr
returns-in-Err-BadXdr c =
    ap refusal c.argument-in-Err-BadXdr.ensures
    ∙ misspelled c.args.given.now c.law_whole.ensures.0 (subst IsBytes c.as_slice.ensures c.law_bytes.ensures) (rw c.in-Err-BadXdr.field-0-is at c.in-Err-BadXdr.ensures)
