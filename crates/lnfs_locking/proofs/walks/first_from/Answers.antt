use Rattle.std.proofs.Common.{◌≡◌, sym, ap, subst, ◌∙◌}
use Rattle.std.specs.Prelude.{filter, find}
use Rattle.std.specs.Option.{option_map}
use Rattle.std.specs.declared.ops.Bound.TheVariants.{Included, Unbounded}
use Rattle.std.specs.BTreeMap.Range.{entries_between}
use Rattle.lnfs_locking.specs.Rows.{entry_of, AreOwn}
use Rattle.lnfs_locking.proofs.Entries.{key_cmp}
use Rattle.lnfs_locking.proofs.LevelRuns.{Rows, level_run, is_from, of_level, first_of_run, own_between}
use Rattle.lnfs_locking.proofs.walks.first_from.Goals as goal

pub loop-id-init : goal.loop-id-init
loop-id-init g c =
    let entries = c.args.rows.now.entries in
    let from = c.args.from in
    let test = g.T.LockTest.passes c.args.test.now in
    let gives : c.into_iter-id-iterator.result ≡ entries_between key_cmp (Included from) Unbounded entries =
    c.into_iter-id-iterator.ensures.into_iter_gives ∙ c.range-id-items.ensures.between tt in
    let run : level_run from.level c.into_iter-id-iterator.result ≡ filter (is_from from) entries =
    ap (level_run from.level) gives ∙ of_level from entries c.range-id-items.ensures.ordered in
    record {
      own = subst AreOwn (sym gives) (own_between from entries c.requires);
      found = ap (λ (es : Rows). option_map entry_of (find (λ e. test (entry_of e)) es)) run ∙ first_of_run from test entries;
    }
