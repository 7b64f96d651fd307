use Rattle.std.proofs.Common.{◌≡◌, ◌++◌, ℕ, List, ap, ◌∙◌, append_assoc, append-nil}
use Rattle.std.proofs.lemmas.Result.{IfOk-weaker}
use Rattle.lnfs_xdr.specs.Canon.{word, long, opaque}
use Rattle.lnfs_arguments.specs.Identifiers.{client_id}
use Rattle.lnfs_results.specs.Texts.{result_text, fields_text}
use Rattle.lnfs_session.specs.Answers.{told_of}
use Rattle.lnfs_operations.specs.Results.{flags_of, server_name, told_result}
use Rattle.lnfs_engine.proofs.Items.{behind}
use Rattle.lnfs_engine.proofs.results.append_told.Goals as goal

server : List ℕ
server = long 0 ++ opaque server_name ++ opaque server_name ++ word 0

pub returns : goal.returns
unfolding result_text fields_text server
returns c =
    let old = c.args.out.now in
    let told = c.args.told.now in
    let whole = c.append_server.new.out in
    let fields : ℕ → ℕ → List ℕ = λ id flags. long id ++ (word told.sequence ++ (word flags ++ (word 0 ++ server))) in
    let all : List ℕ → List ℕ = λ l. old ++ (word 42 ++ (word 0 ++ l)) in
    let same : all (fields (client_id c.args.level told.client.number) (flags_of told.confirmed)) ≡ old ++ result_text (told_result c.args.level (told_of told)) = simp (append_assoc, append-nil) in
    IfOk-weaker c.append_server.result _ _
    (λ it last.
    behind old c.u32.new.self (word 42) _ whole c.in_ok-u32.ensures.ok (behind c.u32.new.self c.u32-2.new.self (word 0) _ whole c.in_ok-u32-2.ensures.ok
    (behind c.u32-2.new.self c.u64.new.self (long c.client_id.result) _ whole c.in_ok-u64.ensures.ok
    (behind c.u64.new.self c.u32-3.new.self (word told.sequence) _ whole c.in_ok-u32-3.ensures.ok
    (behind c.u32-3.new.self c.u32-4.new.self (word c.flags_of.result) _ whole c.in_ok-u32-4.ensures.ok
    (behind c.u32-4.new.self c.u32-5.new.self (word 0) server whole c.in_ok-u32-5.ensures.ok last)))))
    ∙ ap (λ (id : ℕ). all (fields id c.flags_of.result)) c.client_id.ensures
    ∙ ap (λ (flags : ℕ). all (fields (client_id c.args.level told.client.number) flags)) c.flags_of.ensures
    ∙ same)
    c.append_server.ensures
