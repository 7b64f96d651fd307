use Rattle.std.proofs.Common.{◌∙◌, arith}
use Rattle.lnfs_xdr.proofs.Fields.{IsBytes}
use Rattle.lnfs_traffic.proofs.Steady.{part_err}
use Rattle.lnfs_traffic.proofs.Fed.{behind_some, gives, all_given, broken, stage_behind, not_zero}
use Rattle.lnfs_traffic.proofs.pieces.look_behind.Goals as goal

pub returns-in-Whole-clause-found : goal.returns-in-Whole-clause-found
returns-in-Whole-clause-found c =
    let s = rw c.in-Whole.is at c.in_ok-event.ensures.found in
    (stage_behind _ _ c.requires ∙ s.0, s.2, λ fed events r. gives fed events _ _ _ _ (behind_some fed events _ _ c.requires r) s.1 s.2 s.3)

pub returns-in-Part-clause-found : goal.returns-in-Part-clause-found
returns-in-Part-clause-found c =
    let s = rw c.in-Part.is at c.in_ok-event.ensures.found in
    (stage_behind _ _ c.requires ∙ s.0, rw (not_zero _ c.requires) s.1, λ fed events r. all_given fed events _ _ (behind_some fed events _ _ c.requires r) (part_err _ s.0))

pub returns-in-Damage-clause-found : goal.returns-in-Damage-clause-found
returns-in-Damage-clause-found c =
    let fits : IsBytes c.args.rest.now = λ i. omega (arith, c.type_inv.rest i) in
    let s = rw c.in-Damage.is at c.in_ok-event.ensures.found in
    (stage_behind _ _ c.requires ∙ s, λ fed events r. broken fed events _ _ (behind_some fed events _ _ c.requires r) fits s)
