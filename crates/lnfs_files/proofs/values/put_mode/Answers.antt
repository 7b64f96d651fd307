use Rattle.std.proofs.Common.{◌≡◌, refl, [], ◌∷◌}
use Rattle.lnfs_world.specs.World.{Inner, node_at}
use Rattle.lnfs_world.specs.Change.{Touch}
use Rattle.lnfs_world.specs.Effects.{attributes_changed}
use Rattle.lnfs_world.specs.Outcome.{Place}
use Rattle.lnfs_tree.specs.Rows.{id_of}
use Rattle.lnfs_tree.specs.Changed.{ran}
use Rattle.lnfs_tree.specs.Places.{world_of}
use Rattle.lnfs_nodes.specs.Acts.{placed}
use Rattle.lnfs_files.proofs.WriteOn.{some_place}
use Rattle.lnfs_files.proofs.Labels.{set_so, same_bytes}
use Rattle.lnfs_files.proofs.Sizes.{touched_totals, node_there, found_itself}
use Rattle.lnfs_files.proofs.values.put_mode.Goals as goal

pub returns-clause-done : goal.returns-clause-done
returns-clause-done c = λ n p found.
    let at : Place = placed p c.args.caller.now in
    set_so c.args.tree.now c.set_mode-done.new.self (id_of c.args.id) n at.moment found (λ (x : Inner). record x { mode = c.args.mode }) c.set_mode-done.result c.set_mode-done.ensures.calm c.set_mode-done.ensures.does

pub returns-clause-counts : goal.returns-clause-counts
returns-clause-counts c = λ rows totals.
    let at : Place = placed some_place c.args.caller.now in
    let t = c.args.tree.now in
    let u = c.set_mode-done.new.self in
    let x = node_there (node_at t.nodes (id_of c.args.id)) c.requires.there in
    let n = x.0 in
    let inner : Inner = attributes_changed at.moment (record n.inner { mode = c.args.mode }) in
    let done : u ≡ ran (Touch n.id inner ∷ []) t = set_so t u (id_of c.args.id) n at.moment x.1 (λ (x : Inner). record x { mode = c.args.mode }) c.set_mode-done.result c.set_mode-done.ensures.calm c.set_mode-done.ensures.does in
    touched_totals rows t u n.id inner done
    (c.law_totals.ensures.touched_alike rows n.id inner n (world_of t) totals (found_itself t (id_of c.args.id) n x.1) (same_bytes n inner refl))
