use Rattle.std.proofs.Common.{◌∙◌, ap, option_map}
use Rattle.lnfs_tree.specs.Rows.{row_of_entry}
use Rattle.lnfs_nodes.specs.Shows.{view_of}
use Rattle.lnfs_nodes.specs.Walks.{entry_as}
use Rattle.lnfs_nodes.specs.declared.entries.Seen.{Seen}
use Rattle.lnfs_nodes.proofs.Entering.{fits_in, left_out}
use Rattle.lnfs_nodes.proofs.entries.put_entry.Goals as goal

pub returns-then-mark-room-clause-entered : goal.returns-then-mark-room-clause-entered
returns-then-mark-room-clause-entered c = λ p rest directory.
    let asked = c.args.lister.now.asking.asked.now in
    let e = row_of_entry directory c.args.entry.now in
    fits_in c.args.out.now c.put_seen.new.out c.args.room c.mark-mark.result c.mark.result _ (entry_as asked e.cookie e.name c.in-Some.seen.inner (view_of c.in-Some.seen.view))
    (c.in_ok-seen.ensures.shown p rest e ∙ ap (option_map (λ (s : Seen). entry_as asked e.cookie e.name s.inner (view_of s.view))) c.in-Some.is)
    c.in_ok-put_seen.ensures c.mark-mark.ensures c.mark.ensures c.if-mark-room.true

pub returns-clause-entered : goal.returns-clause-entered
returns-clause-entered c = λ p rest directory.
    let asked = c.args.lister.now.asking.asked.now in
    let e = row_of_entry directory c.args.entry.now in
    left_out c.args.out.now c.put_seen.new.out c.truncate.new.self c.args.room c.mark-mark.result c.mark.result _ (entry_as asked e.cookie e.name c.in-Some.seen.inner (view_of c.in-Some.seen.view))
    (c.in_ok-seen.ensures.shown p rest e ∙ ap (option_map (λ (s : Seen). entry_as asked e.cookie e.name s.inner (view_of s.view))) c.in-Some.is)
    c.in_ok-put_seen.ensures c.mark-mark.ensures c.mark.ensures c.if-mark-room.false c.truncate.ensures
