use Rattle.std.proofs.Common.{ℕ, List, sym, ap, ◌∙◌}
use Rattle.lnfs_arguments.specs.declared.types.Op.TheVariants as ops
use Rattle.lnfs_world.specs.World.{World}
use Rattle.lnfs_files.specs.Worlds.{with_opens, with_files}
use Rattle.lnfs_engine.specs.Places.{place_of}
use Rattle.lnfs_engine.specs.Performs.{site_in, sent_of}
use Rattle.lnfs_engine.proofs.Telling.{told_where}
use Rattle.lnfs_engine.proofs.files.serve_files.Goals as goal

pub returns-in_ok-answer-in-Open-clause-performs : goal.returns-in_ok-answer-in-Open-clause-performs
returns-in_ok-answer-in-Open-clause-performs g c =
    let r = c.args.request.now in
    let p = place_of c.args.place.now in
    let x = c.in-Open in
    let owner = c.as_slice in
    let op = ops.Open x.seqid x.access x.deny x.client owner.result.now x.making x.claim in
    let answer = c.in_ok-answer-in-Open in
    let said = c.say in
    told_where r.begin c.args.out.now said.new.out (site_in r) (sent_of r) c.args.op.now op p (place_of c.on_open.new.place) answer.answer (x.is ∙ ap (λ (n : List ℕ). ops.Open x.seqid x.access x.deny x.client n x.making x.claim) (sym owner.ensures)) said.result said.ensures _
    (λ (rest : World). with_files rest c.args.tree.now c.args.opens.now) (λ (rest : World). with_files rest c.on_open.new.tree c.on_open.new.opens) (λ rest tells. answer.ensures.serves rest tells op)

pub returns-in-Close-clause-performs : goal.returns-in-Close-clause-performs
returns-in-Close-clause-performs g c =
    let r = c.args.request.now in
    let p = place_of c.args.place.now in
    let x = c.in-Close in
    let op = ops.Close x.seqid x.id in
    let answer = c.on_close-answer in
    let said = c.say-in-Close in
    told_where r.begin c.args.out.now said.new.out (site_in r) (sent_of r) c.args.op.now op p p answer.result x.is said.result said.ensures _
    (λ (rest : World). with_files rest c.args.tree.now c.args.opens.now) (λ (rest : World). with_files rest c.args.tree.now answer.new.opens) (λ rest tells. answer.ensures.serves rest op)

pub returns-in_ok-answer-in-Write-clause-performs : goal.returns-in_ok-answer-in-Write-clause-performs
returns-in_ok-answer-in-Write-clause-performs g c =
    let r = c.args.request.now in
    let p = place_of c.args.place.now in
    let x = c.in-Write in
    let content = c.as_slice-in-Write in
    let op = ops.Write x.id x.offset x.stable content.result.now in
    let answer = c.in_ok-answer-in-Write in
    let said = c.say-in-Write in
    told_where r.begin c.args.out.now said.new.out (site_in r) (sent_of r) c.args.op.now op p p answer.answer (x.is ∙ ap (ops.Write x.id x.offset x.stable) (sym content.ensures)) said.result said.ensures _
    (λ (rest : World). with_files rest c.args.tree.now c.args.opens.now) (λ (rest : World). with_files rest c.on_write.new.tree c.args.opens.now) (λ rest tells. answer.ensures.serves rest tells op)

pub returns-in-Commit-clause-performs : goal.returns-in-Commit-clause-performs
returns-in-Commit-clause-performs g c =
    let r = c.args.request.now in
    let p = place_of c.args.place.now in
    let x = c.in-Commit in
    let op = ops.Commit x.offset x.count in
    let answer = c.on_commit-answer in
    let said = c.say-in-Commit in
    told_where r.begin c.args.out.now said.new.out (site_in r) (sent_of r) c.args.op.now op p p answer.result x.is said.result said.ensures _
    (λ (rest : World). with_files rest c.args.tree.now c.args.opens.now) (λ (rest : World). with_files rest c.args.tree.now c.args.opens.now) (λ rest tells. answer.ensures.serves (with_opens rest c.args.opens.now) op)

pub returns-in_ok-answer-in-SetAttr-clause-performs : goal.returns-in_ok-answer-in-SetAttr-clause-performs
returns-in_ok-answer-in-SetAttr-clause-performs g c =
    let r = c.args.request.now in
    let p = place_of c.args.place.now in
    let x = c.in-SetAttr in
    let op = ops.SetAttr x.id x.attrs in
    let answer = c.in_ok-answer-in-SetAttr in
    let said = c.say-in-SetAttr in
    told_where r.begin c.args.out.now said.new.out (site_in r) (sent_of r) c.args.op.now op p p answer.answer x.is said.result said.ensures _
    (λ (rest : World). with_files rest c.args.tree.now c.args.opens.now) (λ (rest : World). with_files rest c.on_set_attr.new.tree c.args.opens.now) (λ rest tells. answer.ensures.serves rest tells op)

pub returns-in-Read-clause-counts : goal.returns-in-Read-clause-counts
returns-in-Read-clause-counts g c = λ rest tells. c.on_read.ensures.counts c.args.quota.now rest tells c.requires.counts
