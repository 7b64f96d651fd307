use Rattle.std.proofs.Common.{rules, ◌≡◌, ◌<◌, ◌^◌, length, IfOk, subst, sym, ap, ◌∙◌, arith}
use Rattle.lnfs_rpc.specs.Numbers.{last_procedure}
use Rattle.lnfs_requests.specs.Texts.{compound_text}
use Rattle.lnfs_calls.specs.CallTexts.{call_text}
use Rattle.lnfs_traffic.specs.Generated.{credential, no_verifier, ops_of, content, message}
use Rattle.lnfs_traffic.proofs.Called.{is_request, of_text}
use Rattle.lnfs_xdr.specs.Message.{Tells}
use Rattle.lnfs_arguments.specs.Whole.{compound}
use Rattle.lnfs_traffic.proofs.Lengths.{made}
use Rattle.lnfs_traffic.proofs.generator.message_of.Goals as goal

pub returns-clause-text : goal.returns-clause-text
unfolding message
returns-clause-text c =
    let row = c.args.row.now in
    let turn = c.args.turn.now in
    let n : c.len.result ≡ length c.new-3.result = omega (arith, c.len.ensures, c.in_ok-ops.ops.ok, ap length c.new-3.ensures) in
    let e = made c.new-2.result c.len.result c.new-3.result (ops_of row turn (content turn.event)) (c.new-2.ensures ∙ c.new.ensures.items) n (c.new-3.ensures ∙ c.in_ok-ops.ensures.ops) in
    let a = c.deref.ensures.value ∙ c.in_ok-arguments.ensures.text ∙ ap compound_text e in
    subst (λ bytes. IfOk c.write_request.result (λ v. v.items ≡ call_text turn.event last_procedure (credential row.uid) no_verifier bytes)) a c.write_request.ensures

pub returns-clause-request : goal.returns-clause-request
returns-clause-request c =
    let event : c.args.turn.now.event < 2 ^ 32 = search rules in
    let uid : c.args.row.now.uid < 2 ^ 32 = search rules in
    of_text c.write_request.result _ c.write_request.ensures
    (is_request c.args.turn.now.event c.args.row.now.uid _ c.deref.result.now event uid (λ x lawful. subst (Tells (compound x) _) (sym c.deref.ensures.value) (c.in_ok-arguments.ensures.again x lawful)))
