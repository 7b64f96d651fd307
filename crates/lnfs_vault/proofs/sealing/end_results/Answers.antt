use Rattle.std.proofs.Common.{◌≡◌, ℕ, List, sym, ap, ◌∙◌, subst}
use Rattle.lnfs_rpc.specs.Replies.{accepted, reply_text}
use Rattle.lnfs_rpc.proofs.Rooms.{behind_room, has_room, built_whole}
use Rattle.lnfs_gss3.specs.Grammar.{signed_text}
use Rattle.lnfs_gss3.specs.Replies.{signed_by}
use Rattle.lnfs_step.specs.declared.numbers.TheConstants.{SUCCESS}
use Rattle.lnfs_vault.specs.declared.request.Sealing as code
use Rattle.lnfs_vault.specs.Seals.{seen_sealing, verifier_by, answer_by}
use Rattle.lnfs_vault.proofs.sealing.end_results.Goals as goal

pub new-requires-in-Signed : goal.new-requires-in-Signed
new-requires-in-Signed g c =
    let xid = c.args.answer.xid in
    let h = accepted (verifier_by (seen_sealing c.args.answer.sealing)) SUCCESS in
    let signed = signed_text (signed_by g.M.Mechanism.signing c.in-Signed.parent.now c.deref.result.now) in
    has_room c.into_bytes.result.items (reply_text xid h signed)
    (built_whole xid h signed c.in_ok-out-in-Signed.out c.into_bytes.result.items c.in_ok-out-in-Signed.ensures (c.into_bytes.ensures ∙ c.in_ok-append_signed-in-Signed.ensures.ok))

pub returns-in_ok-append_signed-in-Signed : goal.returns-in_ok-append_signed-in-Signed
returns-in_ok-append_signed-in-Signed g c =
    let m = g.M.Mechanism.signing in
    let xid = c.args.answer.xid in
    let x = c.in-Signed in
    let text : List ℕ → List ℕ = λ bytes. signed_text (signed_by m x.parent.now bytes) in
    let h = accepted (verifier_by (seen_sealing c.args.answer.sealing)) SUCCESS in
    let signed = text c.deref.result.now in
    let whole = built_whole xid h signed c.in_ok-out-in-Signed.out c.into_bytes.result.items c.in_ok-out-in-Signed.ensures (c.into_bytes.ensures ∙ c.in_ok-append_signed-in-Signed.ensures.ok) in
    subst (λ (s : code.Sealing). c.new-in-Signed.result ≡ answer_by m (seen_sealing s) xid c.args.answer.built.items) (sym x.is)
    (c.new-in-Signed.ensures ∙ behind_room c.into_bytes.result.items (reply_text xid h signed) whole
    ∙ ap (λ (s : code.Sealing). reply_text xid (accepted (verifier_by (seen_sealing s)) SUCCESS) signed) x.is
    ∙ ap (λ bytes. reply_text xid (accepted (verifier_by (seen_sealing (code.TheVariants.Signed x.parent x.mic x.seq))) SUCCESS) (text bytes)) c.deref.ensures.value)
