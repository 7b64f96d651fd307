use Rattle.std.proofs.Common.{subst, sym, arith}
use Rattle.lnfs_xdr.proofs.Fields.{IsBytes}
use Rattle.lnfs_audit.specs.Findings.{IsFinding}
use Rattle.lnfs_audit.specs.Found.{found_of}
use Rattle.lnfs_audit.proofs.Founds.{found_is}
use Rattle.lnfs_audit.proofs.OneFinding.{one_finding}
use Rattle.lnfs_audit.proofs.laws.some_finding.Goals as goal

pub returns : goal.returns
returns c = λ replies finding.
    let bytes = c.args.records.now in
    let fits : IsBytes bytes = λ i. omega (arith, c.type_inv.records i) in
    let found = found_is bytes fits replies in
    (λ is. one_finding replies bytes finding (found_of replies bytes) is found, λ same. subst (IsFinding replies bytes) (sym same) found)
