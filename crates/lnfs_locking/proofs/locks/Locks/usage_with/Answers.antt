use Rattle.std.proofs.Common.{◌+◌, ◌<◌, ◌^◌, length, map, sym, ap, subst, ◌∙◌}
use Rattle.std.specs.Prelude.{sum_by}
use Rattle.lnfs_locks.specs.Locks as kept
use Rattle.lnfs_locks.specs.Facts.{locks_at, ranges_at}
use Rattle.lnfs_locking.specs.Keys.{id_of}
use Rattle.lnfs_locking.specs.Rows.{entry_of}
use Rattle.lnfs_locking.specs.Usage.{locks_beside, ranges_beside, standing_with}
use Rattle.lnfs_locking.proofs.Totals.{locks_with, ranges_with, few_locks, few_ranges}
use Rattle.lnfs_locking.proofs.locks.Locks.usage_with.Goals as goal

pub returns-clause-locks : goal.returns-clause-locks
returns-clause-locks g c = λ l same.
    let counts = g.T.LockTest.passes c.args.standing.now in
    let xs = map entry_of c.self.inside.rows.entries in
    ap (λ n. n + 1) c.usage_beside-beside.ensures.locks
    ∙ (ap (λ i. locks_beside counts i xs + 1) (sym same)
    ∙ (sym (locks_with counts l xs c.self.invariant.indexed.rise)
    ∙ ap (λ (k : kept.Locks). length (standing_with counts l k.locks)) c.self.view_is))

pub returns-clause-ranges : goal.returns-clause-ranges
returns-clause-ranges g c = λ l same long.
    let counts = g.T.LockTest.passes c.args.standing.now in
    let xs = map entry_of c.self.inside.rows.entries in
    ap (λ n. n + c.args.ranges) c.usage_beside-beside.ensures.ranges
    ∙ (ap (λ i. ranges_beside counts i xs + c.args.ranges) (sym same)
    ∙ (ap (λ n. ranges_beside counts l.id xs + n) (sym long)
    ∙ (sym (ranges_with counts l xs c.self.invariant.indexed.rise)
    ∙ ap (λ (k : kept.Locks). sum_by (λ x. length x.ranges) (standing_with counts l k.locks)) c.self.view_is)))

pub usage_beside-beside-requires-clause-locks : goal.usage_beside-beside-requires-clause-locks
usage_beside-beside-requires-clause-locks g c =
    few_locks (g.T.LockTest.passes c.args.standing.now) (id_of c.args.id) (map entry_of c.self.inside.rows.entries) (2 ^ 62)
    (subst (λ (k : kept.Locks). locks_at c.args.id.level k.locks < 2 ^ 62) (sym c.self.view_is) c.requires.locks)

pub usage_beside-beside-requires-clause-ranges : goal.usage_beside-beside-requires-clause-ranges
usage_beside-beside-requires-clause-ranges g c =
    few_ranges (g.T.LockTest.passes c.args.standing.now) (id_of c.args.id) (map entry_of c.self.inside.rows.entries) (2 ^ 62)
    (subst (λ (k : kept.Locks). ranges_at c.args.id.level k.locks < 2 ^ 62) (sym c.self.view_is) c.requires.ranges)
