use Rattle.std.proofs.Common.{refl, ap, sym, subst, ◌∙◌}
use Rattle.std.specs.Prelude.{[]}
use Rattle.lnfs_words.specs.Words.{is_empty}
use Rattle.lnfs_world.specs.World.{World, same_id, node_at}
use Rattle.lnfs_world.specs.Outcome.{Place}
use Rattle.lnfs_site.specs.Site.{site_of}
use Rattle.lnfs_operations.specs.Extra.{place_at}
use Rattle.lnfs_engine.specs.Further.{spot_of}
use Rattle.lnfs_sparse_ops.specs.Arguments.{CloneArgs}
use Rattle.lnfs_sparse_ops.specs.Clone.{clone, bytes_cloned, source_behind}
use Rattle.lnfs_sparse_ops.specs.Outcome.{plain}
use Rattle.lnfs_sparse_args.specs.Values.{clone_args_of}
use Rattle.lnfs_sparse.specs.Answers.{Ends}
use Rattle.lnfs_sparse.proofs.Led.{ends_refused}
use Rattle.lnfs_sparse.proofs.Cloned.{is_behind, both_done}
use Rattle.lnfs_sparse.proofs.clone.clone.Goals as goal

pub returns-in-Err : goal.returns-in-Err
returns-in-Err c =
    let w = c.args.store.now in
    let p : Place = place_at (spot_of c.args.at.now) in
    ends_refused (λ r. []) (clone (site_of c.args.at.now.site.now) (clone_args_of c.args.args.now) p w) p w c.in-Err.why c.refused.result c.in-Err.ensures c.refused.ensures

pub returns : goal.returns
returns c =
    let w = c.args.store.now in
    let v = c.copy_range.new.store in
    let x = c.set_read.new.store in
    let p : Place = place_at (spot_of c.args.at.now) in
    let args : CloneArgs = clone_args_of c.args.args.now in
    let m = c.in-Ok.ensures in
    let s = m.source in
    let t = m.target in
    let copied = c.in_ok-copy_range.ensures s t m.held in
    let b = is_behind args p w c.in-Ok.files s t m.held (is_empty (bytes_cloned args s)) (same_id s.id t.id) refl in
    let read = c.set_read.ensures (source_behind p args s t) b.id b.label (ap (λ (w : World). node_at w.nodes (source_behind p args s t).id) copied ∙ b.found) in
    subst (λ o. Ends (plain o) c.done.result w x) (sym m.leads) (record { said = c.done.ensures; world = both_done args p w c.in-Ok.files s t m.held v copied x read })
