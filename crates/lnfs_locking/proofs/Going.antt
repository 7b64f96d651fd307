-- The locks that go by LOCK are those of the asker's level that pass one test.
use Rattle.std.proofs.Common.{◌≡◌, Bool, true, false, not, ◌&&◌, ◌||◌, List, refl}
use Rattle.std.specs.Prelude.{◌==◌, filter, find, is_some}
use Rattle.lnfs_types.specs.declared.event.Moment.{Moment}
use Rattle.lnfs_world.specs.World.{Id, World, same_id}
use Rattle.lnfs_world.proofs.Rows.{all_anyway}
use Rattle.lnfs_ranges.specs.Modes.{conflicts}
use Rattle.lnfs_locks.specs.Arguments.{Asked}
use Rattle.lnfs_locks.specs.Locks.{Lock, is_live}
use Rattle.lnfs_locks.specs.Denial.{Asker, is_own, is_leased}
use Rattle.lnfs_locks.specs.Ranges.{for_write, last_asked}
use Rattle.lnfs_locks.specs.Effects.{gone_by_locking}
use Rattle.lnfs_locking.proofs.Dropping.{filter_agree}

both_of : (a b c : Bool) → (a && b || a && c) ≡ (a && (b || c))
both_of true b c = refl
both_of false b c = refl

-- one whose open has ended, or one of another that would stand in the way but for its client's lease
abbrev pub goes : World → Moment → Asker → (node : Id) → Asked → Lock → Bool
goes w moment who node a l =
    not (is_live w l) || (same_id node l.node && (not (is_own who l) && (is_live w l && (not (is_leased w moment l)
    && is_some (find (conflicts a.offset (last_asked a) (for_write a)) l.ranges)))))

pub gone_locking : (w : World) (moment : Moment) (who : Asker) (node : Id) (a : Asked) (locks : List Lock) →
    gone_by_locking w moment who node a locks ≡ filter (λ l. l.id.level == who.subject && goes w moment who node a l) locks
gone_locking w moment who node a locks = filter_agree _ _ locks (all_anyway _ (λ l. both_of (l.id.level == who.subject) _ _) locks)
