use Rattle.std.proofs.Common.{◌≡◌, ◌&&◌, not, cond, length, zero-add, sym, ap, subst, ◌∙◌}
use Rattle.std.specs.Prelude.{filter}
use Rattle.std.specs.declared.ops.Bound.TheVariants.{Included, Unbounded}
use Rattle.std.specs.BTreeMap.Range.{entries_between}
use Rattle.lnfs_world.specs.World.{same_id}
use Rattle.lnfs_locking.specs.declared.keys.Key.{Key}
use Rattle.lnfs_locking.specs.Keys.{id_of}
use Rattle.lnfs_locking.specs.Rows.{entry_of, AreOwn}
use Rattle.lnfs_locking.specs.Usage.{total}
use Rattle.lnfs_locking.proofs.Entries.{key_cmp}
use Rattle.lnfs_locking.proofs.LevelRuns.{level_run, is_from, of_level, own_between}
use Rattle.lnfs_locking.proofs.Totals.{total_of}
use Rattle.lnfs_locking.proofs.usage.usage_beside.Goals as goal

pub loop-id-init : goal.loop-id-init
loop-id-init g c =
    let entries = c.args.rows.now.entries in
    let own = c.args.own in
    let from : Key = record { level = own.level; number = 0 } in
    let counts = g.T.LockTest.passes c.args.standing.now in
    let gives : c.into_iter-id-iterator.result ≡ entries_between key_cmp (Included from) Unbounded entries =
    c.into_iter-id-iterator.ensures.into_iter_gives ∙ (c.range-id-items.ensures.between tt ∙ ap (λ (k : Key). entries_between key_cmp (Included k) Unbounded entries) c.level_front.ensures) in
    let run : level_run own.level c.into_iter-id-iterator.result ≡ filter (is_from from) entries =
    ap (level_run own.level) gives ∙ of_level from entries c.range-id-items.ensures.ordered in
    record {
      own = subst AreOwn (sym gives) (own_between from entries c.requires.own);
      locks = zero-add (total (λ e. cond (not (same_id (id_of own) (entry_of e).id) && counts (entry_of e)) 1 0) (level_run own.level c.into_iter-id-iterator.result))
          ∙ (ap (total (λ e. cond (not (same_id (id_of own) (entry_of e).id) && counts (entry_of e)) 1 0)) run ∙ total_of own counts (λ l. 1) entries);
      ranges = zero-add (total (λ e. cond (not (same_id (id_of own) (entry_of e).id) && counts (entry_of e)) (length (entry_of e).ranges) 0) (level_run own.level c.into_iter-id-iterator.result))
          ∙ (ap (total (λ e. cond (not (same_id (id_of own) (entry_of e).id) && counts (entry_of e)) (length (entry_of e).ranges) 0)) run ∙ total_of own counts (λ l. length l.ranges) entries);
    }
