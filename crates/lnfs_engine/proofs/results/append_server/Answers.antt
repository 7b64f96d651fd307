use Rattle.std.proofs.Common.{◌≡◌, ◌++◌, ℕ, List, ap, ◌∙◌, append_assoc}
use Rattle.std.proofs.lemmas.Result.{IfOk-weaker}
use Rattle.lnfs_xdr.specs.Canon.{word, long, opaque}
use Rattle.lnfs_operations.specs.Results.{server_name}
use Rattle.lnfs_engine.proofs.results.append_server.Goals as goal

pub returns : goal.returns
returns c =
    let old = c.args.out.now in
    let name : List ℕ → List ℕ = λ l. l ++ opaque server_name in
    let same : old ++ long 0 ++ opaque server_name ++ opaque server_name ++ word 0 ≡ old ++ (long 0 ++ opaque server_name ++ opaque server_name ++ word 0) = simp append_assoc in
    IfOk-weaker c.u32.result _ _
    (λ it last. last ∙ ap (λ (l : List ℕ). l ++ word 0) (c.in_ok-opaque-2.ensures.ok ∙ ap name (c.in_ok-opaque.ensures.ok ∙ ap name c.in_ok-u64.ensures.ok)) ∙ same)
    c.u32.ensures.ok
