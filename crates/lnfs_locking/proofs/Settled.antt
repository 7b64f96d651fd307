-- What is kept after a lock was set and others went.
use Rattle.std.proofs.Common.{◌≡◌, ℕ, Bool, true, false, cond, not, ◌&&◌, sym, arith}
use Rattle.std.specs.Prelude.{◌==◌, filter}
use Rattle.lnfs_world.specs.Rows.{Rising, inserted}
use Rattle.lnfs_world.specs.World.{level_order, is_given}
use Rattle.lnfs_locks.specs.Locks as kept
use Rattle.lnfs_locks.specs.Locks.{Lock, lock_order}
use Rattle.lnfs_locks.specs.Effects.{kept_with}
use Rattle.lnfs_locking.proofs.Dropping.{kept_locks}

and_false : (a b : Bool) → b ≡ false → (a && b) ≡ false
and_false a b e = grind (arith, e)

module _ (own : kept.Locks) (l : Lock) (level : ℕ) (p : Lock → Bool) (stays : p l ≡ false) (rise : Rising lock_order own.locks) where
  abbrev goes : Lock → Bool
  goes x = x.id.level == level && p x

  left : filter (λ x. not (goes x)) (inserted lock_order l own.locks) ≡ (kept_with l (filter goes own.locks) own).locks
  left = kept_locks goes l own.locks (and_false (l.id.level == level) (p l) stays) rise

  pub settled_new : is_given own.lasts l.id ≡ false →
      (let k : kept.Locks = record { lasts = inserted level_order l.id own.lasts; locks = inserted lock_order l own.locks } in record k { locks = filter (λ x. not (goes x)) k.locks }) ≡ kept_with l (filter goes own.locks) own
  settled_new fresh = λ t. record { lasts = cond (sym fresh t) own.lasts (inserted level_order l.id own.lasts); locks = left t }

  pub settled_old : is_given own.lasts l.id ≡ true →
      (let k : kept.Locks = record own { locks = inserted lock_order l own.locks } in record k { locks = filter (λ x. not (goes x)) k.locks }) ≡ kept_with l (filter goes own.locks) own
  settled_old there = λ t. record { lasts = cond (sym there t) own.lasts (inserted level_order l.id own.lasts); locks = left t }
