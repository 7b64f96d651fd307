-- How much of its limits a level uses.
use Rattle.std.specs.Prelude.{ℕ, ◌+◌, ◌==◌, ◌&&◌, Bool, not, cond, List, [], ◌∷◌, length, filter}
use Rattle.lnfs_world.specs.Rows.{inserted}
use Rattle.lnfs_world.specs.World.{Id, same_id}
use Rattle.lnfs_locks.specs.Locks.{Lock, lock_order}

abbrev pub total : {X : Type 0} → (X → ℕ) → List X → ℕ
total f [] = 0
total f (x ∷ xs) = f x + total f xs

-- whether a lock of the level counts, beside one
abbrev pub is_beside : (counts : Lock → Bool) → Id → Lock → Bool
is_beside counts i l = l.id.level == i.level && (not (same_id i l.id) && counts l)

abbrev pub locks_beside : (counts : Lock → Bool) → Id → List Lock → ℕ
locks_beside counts i locks = total (λ l. cond (is_beside counts i l) 1 0) locks

abbrev pub ranges_beside : (counts : Lock → Bool) → Id → List Lock → ℕ
ranges_beside counts i locks = total (λ l. cond (is_beside counts i l) (length l.ranges) 0) locks

-- the locks of its level that count, with a lock in its new state
abbrev pub standing_with : (counts : Lock → Bool) → Lock → List Lock → List Lock
standing_with counts l locks = inserted lock_order l (filter (λ x. x.id.level == l.id.level && counts x) locks)
