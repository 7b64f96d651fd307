use Rattle.std.proofs.Common.{◌≡◌, ◌++◌, List, ℕ, Option, None, length, take, drop, sym, ap, ◌∙◌, subst, append_assoc}
use Rattle.std.specs.List.{flat_map}
use Rattle.std.proofs.Math.Seq.{take-append_seam}
use Rattle.lnfs_arguments.specs.declared.types.Compound.{Compound}
use Rattle.lnfs_results.specs.declared.types.OpResult.{OpResult}
use Rattle.lnfs_results.specs.Texts.{head_text, result_text, results_text}
use Rattle.lnfs_operations.specs.SlotRule.{result_of}
use Rattle.lnfs_engine.specs.Runs.{status_due, EndsNew, EndsBy}
use Rattle.lnfs_engine.proofs.head.finished.Goals as goal

-- what was written is all
whole : (new items : List ℕ) (len : ℕ) → length new ≡ len → take len (new ++ drop (length new) items) ≡ new
whole new items len is = ap (λ n. take n (new ++ drop (length new) items)) (sym is) ∙ take-append_seam new (drop (length new) items)

-- the result with its head
told : (c : Compound) (results : List OpResult) (again : Option (List ℕ)) (status count : ℕ) → again ≡ None → status ≡ status_due c results → count ≡ length results → head_text status c.tag count ++ flat_map result_text results ≡ result_of c results again
unfolding results_text
told c results again status count none due many = (λ i. head_text (due i) c.tag (many i) ++ flat_map result_text results) ∙ ap (result_of c results) (sym none)

pub returns-in-New : goal.returns-in-New
returns-in-New c = λ before k results refused again starts ends by.
    let x = c.in-New in
    let old = before ++ head_text 0 k.tag 0 in
    let e : EndsNew old c.args.out (status_due k results) results refused again x.status x.count x.denial = subst (EndsBy c.args.begin old c.args.out (status_due k results) results refused again) x.is by in
    let items = c.as_mut_slice.ensures.value ∙ c.into_bytes-reply.ensures ∙ e.text in
    let new = c.complete_head.ensures before k.tag (flat_map result_text results) items starts ends in
    whole c.complete_head.new.bytes c.into_bytes-reply.result.items c.into_bytes-reply.result.len (c.complete_head.auto.bytes ∙ c.as_mut_slice.ensures.len)
    ∙ new ∙ append_assoc before (head_text x.status k.tag x.count) (flat_map result_text results)
    ∙ ap (λ r. before ++ r) (told k results again x.status x.count e.none e.last e.many)
