use Rattle.std.proofs.Common.{◌≡◌, ◌≤◌, ◌+◌, ◌++◌, length, sym, ap, ◌∙◌, subst, length-append, arith}
use Rattle.std.specs.Prelude.{option_map}
use Rattle.lnfs_world.specs.World.{Kept, World}
use Rattle.lnfs_world.specs.Outcome.{done_to}
use Rattle.lnfs_world.specs.Both.{both}
use Rattle.lnfs_results.specs.Texts.{head_text}
use Rattle.lnfs_operations.specs.SlotRule.{keep_in}
use Rattle.lnfs_engine.specs.Places.{place_of, keeper_of, Stands}
use Rattle.lnfs_engine.specs.Performs.{site_in, sent_of}
use Rattle.lnfs_engine.specs.Runs.{denial_of, status_due, EndsBy}
use Rattle.lnfs_files.specs.Worlds.{with_opens}
use Rattle.lnfs_engine.specs.Stores.{beside}
use Rattle.lnfs_engine.proofs.Serving.{head_long, denied_is, behind_mark, ran, result, served_result, served_denial, served_state}
use Rattle.lnfs_engine.proofs.engine.serve.Goals as goal

pub finished-reply-requires-clause-head : goal.finished-reply-requires-clause-head
finished-reply-requires-clause-head g c =
    let r = c.args.request.now in
    let k = r.compound.now in
    let long : r.begin + 8 ≤ length (c.args.out ++ head_text 0 k.tag 0) = head_long c.args.out k.tag r.begin (sym c.requires.begin) in
    let end : c.mark-end.result ≡ length (c.args.out ++ head_text 0 k.tag 0) = c.mark-end.ensures ∙ ap length (c.in_ok-append_head.ensures.ok ∙ ap (λ t. c.args.out ++ head_text 0 t 0) c.as_slice.ensures) in
    omega (arith, long, end)

pub result_in-result-requires : goal.result_in-result-requires
result_in-result-requires g c =
    let X = g.X.ExtraRows.extra in
    let r = c.args.request.now in
    let k = r.compound.now in
    let p = place_of c.args.first in
    let b = both c.args.store.now (g.X.ExtraRows.rows c.args.extra.now) in
    let run = ran X (site_in r) (sent_of r) k p b in
    let headed = c.in_ok-append_head.ensures.ok ∙ ap (λ t. c.args.out ++ head_text 0 t 0) c.as_slice.ensures in
    let by = subst (λ old. EndsBy r.begin old c.run_all.new.out (status_due k run.results) run.results run.denial run.again c.in_ok-ended.ended) headed c.in_ok-ended.ensures.ends.ends in
    let text = c.finished-reply.ensures c.args.out k run.results run.denial run.again (sym c.requires.begin) (sym (c.mark-end.ensures ∙ ap length headed)) by in
    omega (arith, ap length text, length-append c.args.out (result X (site_in r) (sent_of r) k p b), c.requires.begin)

pub returns : goal.returns
returns g c =
    let X = g.X.ExtraRows.extra in
    let rows = g.X.ExtraRows.rows c.run_all.new.extra in
    let r = c.args.request.now in
    let k = r.compound.now in
    let p = place_of c.args.first in
    let b = both c.args.store.now (g.X.ExtraRows.rows c.args.extra.now) in
    let run = ran X (site_in r) (sent_of r) k p b in
    let e = c.in_ok-ended.ensures.ends in
    let headed = c.in_ok-append_head.ensures.ok ∙ ap (λ t. c.args.out ++ head_text 0 t 0) c.as_slice.ensures in
    let by = subst (λ old. EndsBy r.begin old c.run_all.new.out (status_due k run.results) run.results run.denial run.again c.in_ok-ended.ended) headed e.ends in
    let text = c.finished-reply.ensures c.args.out k run.results run.denial run.again (sym c.requires.begin) (sym (c.mark-end.ensures ∙ ap length headed)) by in
    let told = result X (site_in r) (sent_of r) k p b in
    let behind = c.result_in-result.ensures ∙ behind_mark c.args.out told c.finished-reply.result.items r.begin (sym c.requires.begin) text in
    let kept : Kept = record { arguments = r.bytes.now; reply = c.result_in-result.result.now } in
    let next = c.run_all.new.keeper in
    let q = place_of c.run_all.new.place in
    let w = c.run_all.new.store in
    let keeps = c.in_ok-keep.ensures q (with_opens (beside c.store.inside.tree c.store.inside.contexts) c.store.inside.opens) (subst (λ (v : World). Stands q v.sessions next) (sym c.store.view_is) c.in_ok-ended.ensures.stands) in
    record {
      result = text ∙ ap (λ x. c.args.out ++ x) (served_result X (site_in r) (sent_of r) k p b);
      denied = ap (λ d. option_map denial_of d) c.denied.ensures ∙ denied_is r.begin (c.args.out ++ head_text 0 k.tag 0) c.run_all.new.out (status_due k run.results) run.results run.denial run.again c.in_ok-ended.ended by ∙ served_denial X (site_in r) (sent_of r) k p b;
      stands = ap (λ v. both v rows) (keeps ∙ ap (λ v. done_to v (keep_in (keeper_of next) kept q v)) c.store.view_is)
          ∙ served_state X (site_in r) (sent_of r) k p b kept next q (both w rows) (λ i. record { arguments = r.bytes.now; reply = behind i }) e.place_is e.state e.keeper;
    }
