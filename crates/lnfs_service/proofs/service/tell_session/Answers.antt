use Rattle.std.proofs.Common.{rules, map, ap, ◌∙◌}
use Rattle.std.specs.Prelude.{string_bytes}
use Rattle.lnfs_workers.specs.Served.{telling}
use Rattle.lnfs_service.specs.Session.{link_lines}
use Rattle.lnfs_service.proofs.Telling.{stopped_first, stopped_between, stopped_last, told_whole, told_short, lines_as}
use Rattle.lnfs_service.proofs.service.tell_session.Goals as goal

pub returns-in_err-journal-clause-does : goal.returns-in_err-journal-clause-does
returns-in_err-journal-clause-does g c =
    let does = rw c.journal.ensures at c.in_err-journal.ensures.does in
    stopped_first _ _ _ (telling g.N.L.Source.left g.N.L.Sink.taken g.N.L.Source.read_faults g.N.L.Sink.write_faults) _ c.args.ends.items _ c.requires.lines _ (search rules) does

pub returns-in_err-texts-clause-does : goal.returns-in_err-texts-clause-does
returns-in_err-texts-clause-does g c =
    let does = rw c.journal.ensures at c.in_ok-journal.ensures.does in
    stopped_between _ _ _ (telling g.N.L.Source.left g.N.L.Sink.taken g.N.L.Source.read_faults g.N.L.Sink.write_faults) _ c.args.ends.items _ c.requires.lines _ (search rules) does

pub returns-in_err-put_texts-clause-does : goal.returns-in_err-put_texts-clause-does
returns-in_err-put_texts-clause-does g c =
    let does = rw c.journal.ensures at c.in_ok-journal.ensures.does in
    let texts = c.in_ok-texts.ensures ∙ ap (link_lines 0) c.deref.ensures.value in
    stopped_last _ _ _ (telling g.N.L.Source.left g.N.L.Sink.taken g.N.L.Source.read_faults g.N.L.Sink.write_faults) _ c.args.ends.items _ c.requires.lines _ does _ (search rules) (lines_as (ap (map string_bytes) c.deref-3.ensures.value ∙ texts) c.in_err-put_texts.ensures.does)

pub returns-then-found-clause-does : goal.returns-then-found-clause-does
returns-then-found-clause-does g c =
    let does = rw c.journal.ensures at c.in_ok-journal.ensures.does in
    let texts = c.in_ok-texts.ensures ∙ ap (link_lines 0) c.deref.ensures.value in
    told_whole _ _ _ (telling g.N.L.Source.left g.N.L.Sink.taken g.N.L.Source.read_faults g.N.L.Sink.write_faults) _ c.args.ends.items _ c.requires.lines _ _ does (lines_as (ap (map string_bytes) c.deref-3.ensures.value ∙ texts) c.in_ok-put_texts.ensures.does)

pub returns-then-found-clause-memory : goal.returns-then-found-clause-memory
returns-then-found-clause-memory g c = rw c.deref-2.ensures.value at (c.all_found-found.ensures c.if-found.true)

pub returns-else-found-clause-does : goal.returns-else-found-clause-does
returns-else-found-clause-does g c =
    let does = rw c.journal.ensures at c.in_ok-journal.ensures.does in
    let texts = c.in_ok-texts.ensures ∙ ap (link_lines 0) c.deref.ensures.value in
    told_short _ _ _ (telling g.N.L.Source.left g.N.L.Sink.taken g.N.L.Source.read_faults g.N.L.Sink.write_faults) _ c.args.ends.items _ c.requires.lines _ _ does (lines_as (ap (map string_bytes) c.deref-3.ensures.value ∙ texts) c.in_ok-put_texts.ensures.does)
