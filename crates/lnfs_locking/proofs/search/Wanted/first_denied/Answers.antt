use Rattle.std.proofs.Common.{◌≡◌, Option, map, ap, ◌∙◌}
use Rattle.std.specs.Prelude.{filter}
use Rattle.std.specs.Option.{option_and_then}
use Rattle.std.specs.declared.ops.Bound.TheVariants.{Included, Unbounded}
use Rattle.std.specs.BTreeMap.Range.{entries_between}
use Rattle.lnfs_world.specs.World.{Id}
use Rattle.lnfs_calipso.specs.Label.{dom_of}
use Rattle.lnfs_locking.specs.declared.groups.Place.{Place}
use Rattle.lnfs_locking.specs.Groups.{place_cmp}
use Rattle.lnfs_locking.specs.Keys.{id_of}
use Rattle.lnfs_locks.specs.Locks.{Lock}
use Rattle.lnfs_locking.specs.Rows.{entry_of, lock_at}
use Rattle.lnfs_locks.specs.Denial.{Denial, is_rival, denied_by, first_of}
use Rattle.lnfs_locking.specs.Asking.{asker_of}
use Rattle.lnfs_locking.proofs.Runs.{group_run, of_group}
use Rattle.lnfs_locking.proofs.Finding.{by_places, id_at, is_of_group}
use Rattle.lnfs_locking.proofs.search.Wanted.first_denied.Goals as goal

pub loop-place-init : goal.loop-place-init
loop-place-init g c =
    let self = c.args.self.now in
    let node = c.args.node in
    let entries = c.args.nodes.now.places.entries in
    let locks = map entry_of c.args.rows.now.entries in
    let told : Lock → Option Denial = denied_by (is_rival (dom_of c.args.rival.now.lattice.now) (g.T.LockTest.passes c.args.standing.now) (asker_of c.args.rival.now)) self.first self.last self.write in
    let run : group_run node c.into_iter-place-iterator.result ≡ filter (is_of_group (id_of node)) entries =
    ap (group_run node) (c.into_iter-place-iterator.ensures.into_iter_gives ∙ c.range-place-items.ensures.between tt ∙ ap (λ (f : Place). entries_between place_cmp (Included f) Unbounded entries) c.front.ensures)
    ∙ of_group node entries c.range-place-items.ensures.ordered in
    ap (first_of (λ e. option_and_then told (lock_at locks (id_at e)))) run
    ∙ by_places (id_of node) told locks entries c.requires.rise c.range-place-items.ensures.ordered (λ (i : Id). c.requires.nodes (id_of node) i)
