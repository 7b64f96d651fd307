use Rattle.std.proofs.Common.{ℕ, List, sym, ap, ◌∙◌}
use Rattle.lnfs_arguments.specs.declared.types.Op.TheVariants as ops
use Rattle.lnfs_world.specs.World.{World}
use Rattle.lnfs_files.specs.Worlds.{with_opens, with_files}
use Rattle.lnfs_engine.specs.Places.{place_of}
use Rattle.lnfs_engine.specs.Performs.{site_in, sent_of}
use Rattle.lnfs_engine.proofs.Telling.{told_from}
use Rattle.lnfs_engine.proofs.names.on_names.Goals as goal

pub returns-in_ok-answer-in-Create-clause-performs : goal.returns-in_ok-answer-in-Create-clause-performs
returns-in_ok-answer-in-Create-clause-performs c =
    let r = c.args.request.now in
    let p = place_of c.args.place.now in
    let x = c.in-Create in
    let name = c.as_slice-name in
    let op = ops.Create x.what name.result.now x.attrs in
    let answer = c.in_ok-answer-in-Create in
    let said = c.say in
    told_from r.begin c.args.out.now said.new.out (site_in r) (sent_of r) c.args.op.now op p (place_of c.on_create.new.place) answer.answer (x.is ∙ ap (λ (n : List ℕ). ops.Create x.what n x.attrs) (sym name.ensures)) said.result said.ensures
    (λ (rest : World). with_files rest c.args.tree.now c.args.opens.now) (λ (rest : World). with_files rest c.on_create.new.tree c.args.opens.now) (λ rest. answer.ensures.serves (with_opens rest c.args.opens.now) op)

pub returns-in_ok-answer-in-Link-clause-performs : goal.returns-in_ok-answer-in-Link-clause-performs
returns-in_ok-answer-in-Link-clause-performs c =
    let r = c.args.request.now in
    let p = place_of c.args.place.now in
    let name = c.as_slice in
    let op = ops.Link name.result.now in
    let answer = c.in_ok-answer-in-Link in
    let said = c.say-in-Link in
    told_from r.begin c.args.out.now said.new.out (site_in r) (sent_of r) c.args.op.now op p p answer.answer (c.in-Link.is ∙ ap ops.Link (sym name.ensures)) said.result said.ensures
    (λ (rest : World). with_files rest c.args.tree.now c.args.opens.now) (λ (rest : World). with_files rest c.on_link.new.tree c.args.opens.now) (λ rest. answer.ensures.serves (with_opens rest c.args.opens.now) op)

pub returns-in-Remove-clause-performs : goal.returns-in-Remove-clause-performs
returns-in-Remove-clause-performs c =
    let r = c.args.request.now in
    let p = place_of c.args.place.now in
    let name = c.as_slice-in-Remove in
    let op = ops.Remove name.result.now in
    let answer = c.on_remove-answer in
    let said = c.say-in-Remove in
    told_from r.begin c.args.out.now said.new.out (site_in r) (sent_of r) c.args.op.now op p p answer.result (c.in-Remove.is ∙ ap ops.Remove (sym name.ensures)) said.result said.ensures
    (λ (rest : World). with_files rest c.args.tree.now c.args.opens.now) (λ (rest : World). with_files rest answer.new.tree answer.new.opens) (λ rest. answer.ensures.serves rest op)

pub returns-in_ok-answer-in-Rename-clause-performs : goal.returns-in_ok-answer-in-Rename-clause-performs
returns-in_ok-answer-in-Rename-clause-performs c =
    let r = c.args.request.now in
    let p = place_of c.args.place.now in
    let x = c.in-Rename in
    let old = c.as_slice-old in
    let new = c.as_slice-new in
    let op = ops.Rename old.result.now new.result.now in
    let answer = c.in_ok-answer-in-Rename in
    let said = c.say-in-Rename in
    told_from r.begin c.args.out.now said.new.out (site_in r) (sent_of r) c.args.op.now op p p answer.answer (x.is ∙ ap (λ (n : List ℕ). ops.Rename n x.new) (sym old.ensures) ∙ ap (ops.Rename old.result.now) (sym new.ensures)) said.result said.ensures
    (λ (rest : World). with_files rest c.args.tree.now c.args.opens.now) (λ (rest : World). with_files rest c.on_rename.new.tree c.on_rename.new.opens) (λ rest. answer.ensures.serves rest op)
