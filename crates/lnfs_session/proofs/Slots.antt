-- A slot among others that is set to hold another request.
use Rattle.std.proofs.Common.{◌≡◌, ℕ, zero, suc, ◌≤◌, List, [], ◌∷◌, length, map, refl, ap, arith}
use Rattle.std.specs.Prelude.{slice_set}
use Rattle.lnfs_world.specs.World as world
use Rattle.lnfs_operations.specs.Keeping.{with_slot}
use Rattle.lnfs_session.specs.declared.rows.Slot.{Slot}
use Rattle.lnfs_session.specs.Listed.{slot_of}

pub set-slots : (xs : List Slot) (n : ℕ) (filled : Slot) → map slot_of (slice_set xs n filled) ≡ with_slot n (slot_of filled) (map slot_of xs)
set-slots [] n filled = refl
set-slots (x ∷ xs) zero filled = refl
set-slots (x ∷ xs) (suc n) filled = ap (λ rest. slot_of x ∷ rest) (set-slots xs n filled)

pub past-slots : (xs : List Slot) (n : ℕ) (filled : world.Slot) → length xs ≤ n → map slot_of xs ≡ with_slot n filled (map slot_of xs)
past-slots [] n filled past = refl
past-slots (x ∷ xs) zero filled past = absurd (omega arith)
past-slots (x ∷ xs) (suc n) filled past = ap (λ rest. slot_of x ∷ rest) (past-slots xs n filled (omega arith))
