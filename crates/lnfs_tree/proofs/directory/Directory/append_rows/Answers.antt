use Rattle.std.proofs.Common.{◌++◌, List, map, ap, sym, ◌∙◌}
use Rattle.std.specs.Map.Iter.{deref}
use Rattle.std.proofs.lemmas.List.{append-nil}
use Rattle.std.proofs.lemmas.Map.Iter.{iter_end}
use Rattle.lnfs_world.specs.World.{Entry as NameRow}
use Rattle.lnfs_rows.specs.Told.{entry_of}
use Rattle.lnfs_tree.specs.Rows.{id_of}
use Rattle.lnfs_tree.proofs.ToldRows.{names_more, all_names}
use Rattle.lnfs_tree.proofs.directory.Directory.append_rows.Goals as goal

pub loop-entry-init : goal.loop-entry-init
loop-entry-init c = sym (append-nil (map entry_of c.args.rows.now.items))

pub loop-entry-preserved : goal.loop-entry-preserved
loop-entry-preserved c = ap (map entry_of) c.in_ok-push.ensures.items ∙ names_more (id_of c.args.directory) (map entry_of c.args.rows.now.items) c.loop-entry.rows.items c.loop-entry.yielded c.in-Some.entry c.entry_row.result c.loop-entry.invariant c.entry_row.ensures

pub returns : goal.returns
returns c =
    let all = iter_end deref _ _ _ _ _ _ (c.into_iter-entry-iterator.ensures.into_iter_gives ∙ c.values-entry-items.ensures.rest) c.loop-entry.yielded_by c.in-None.is c.next.ensures.steps in
    c.loop-entry.invariant
    ∙ ap (λ (es : List NameRow). map entry_of c.args.rows.now.items ++ es) (all_names (id_of c.args.directory) c.self.inside.by_cookie.entries c.loop-entry.yielded c.args.self.now c.self.invariant.1 all.0 c.self.view_is)
