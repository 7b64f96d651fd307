use Rattle.std.proofs.Common.{◌++◌, length, sym, ap, ◌∙◌, subst, arith}
use Rattle.std.specs.Prelude.{◌≤◌, List, ℕ}
use Rattle.lnfs_format.specs.declared.formats.TheConstants.{MAX_SPELLING}
use Rattle.lnfs_gss3.specs.Grammar.{Assertion}
use Rattle.lnfs_step.specs.Step.{granted}
use Rattle.lnfs_step.proofs.Lengths.{granted_length}
use Rattle.lnfs_vault.specs.Requests.{seen_call}
use Rattle.lnfs_vault.specs.Seals.{seen_sealing}
use Rattle.lnfs_vault.proofs.Bodies.{has_begun, fits}
use Rattle.lnfs_vault.proofs.step.make_context.Goals as goal

pub answered-unsealed-requires-clause-room : goal.answered-unsealed-requires-clause-room
answered-unsealed-requires-clause-room g c =
    let call = c.args.call.now in
    let asked = c.args.asked.now in
    let assertion : Assertion = record { lfs = asked.lfs; pi = asked.pi; label = c.as_slice-label.result.now } in
    let results = granted (seen_call call) asked.parent assertion c.in-Ok.number in
    has_begun (seen_sealing c.args.sealing) call.xid c.into_bytes.result.items results (c.into_bytes.ensures ∙ c.in_ok-put_create_results.ensures.ok ∙ ap (λ out. out ++ results) c.requires.begun)

pub answered-unsealed-requires-clause-short : goal.answered-unsealed-requires-clause-short
answered-unsealed-requires-clause-short g c =
    let call = c.args.call.now in
    let asked = c.args.asked.now in
    let assertion : Assertion = record { lfs = asked.lfs; pi = asked.pi; label = c.as_slice-label.result.now } in
    let results = granted (seen_call call) asked.parent assertion c.in-Ok.number in
    let short = subst (λ (label : List ℕ). length label ≤ MAX_SPELLING) (sym c.as_slice-label.ensures) c.requires.label in
    fits (seen_sealing c.args.sealing) call.xid c.into_bytes.result.items results (omega (arith, granted_length (seen_call call) asked.parent assertion c.in-Ok.number short))
    (c.into_bytes.ensures ∙ c.in_ok-put_create_results.ensures.ok ∙ ap (λ out. out ++ results) c.requires.begun)
