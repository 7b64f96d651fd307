-- What is locked at an offset, and the list of ranges that a change leaves (RFC 8881 sections 9.2, and 18.10 to 18.12).
use Rattle.std.specs.Prelude.{◌≡◌, ℕ, ◌+◌, ◌-◌, ◌≤◌, ◌&&◌, ◌||◌, Bool, false, cond, nat_lt, nat_le, nat_eq, List, [], ◌∷◌, ◌++◌, Option, Some, None}
use Rattle.std.specs.List.{flat_map}
use mathlib.Core.Bool.{beq}
use Rattle.lnfs_ranges.specs.declared.range.LockRange.{LockRange}

-- whether an offset is in a range
abbrev pub is_in : ℕ → LockRange → Bool
is_in x r = nat_le r.first x && nat_le x r.last

-- What is locked at an offset. None: no lock. Some w: a lock, for write where w.
abbrev pub mode : List LockRange → ℕ → Option Bool
mode [] x = None
mode (r ∷ rs) x = cond (is_in x r) (Some r.write) (mode rs x)

-- the mode asked for in a range, and elsewhere the one before
abbrev pub mode_with : (first last : ℕ) → (asked old : Option Bool) → ℕ → Option Bool
mode_with first last asked old x = cond (nat_le first x && nat_le x last) asked old

-- whether a range ends right before another of its kind
abbrev pub touches : LockRange → LockRange → Bool
touches r next = nat_eq (r.last + 1) next.first && beq r.write next.write

-- a range before others, as one with the first of them where they touch
abbrev pub joins : LockRange → List LockRange → List LockRange
joins r [] = r ∷ []
joins r (next ∷ rs) = cond (touches r next) (record next { first = r.first } ∷ rs) (r ∷ next ∷ rs)

abbrev pub joined : List LockRange → List LockRange
joined [] = []
joined (r ∷ rs) = joins r (joined rs)

-- what of a range lies below an offset, and what lies above one
abbrev pub part_below : ℕ → LockRange → List LockRange
part_below x r = cond (nat_lt r.last x) (r ∷ []) (cond (nat_lt r.first x) (record r { last = x - 1 } ∷ []) [])

abbrev pub part_above : ℕ → LockRange → List LockRange
part_above x r = cond (nat_lt x r.first) (r ∷ []) (cond (nat_lt x r.last) (record r { first = x + 1 } ∷ []) [])

abbrev pub below : ℕ → List LockRange → List LockRange
below x = flat_map (part_below x)

abbrev pub above : ℕ → List LockRange → List LockRange
above x = flat_map (part_above x)

-- what is asked for, as a list: nothing where no lock is
abbrev pub asked_range : (first last : ℕ) → Option Bool → List LockRange
asked_range first last None = []
asked_range first last (Some write) = record { first = first; last = last; write = write } ∷ []

-- What lies below, what is asked, and what lies above: each run of one kind as one range.
abbrev pub set : List LockRange → (first last : ℕ) → Option Bool → List LockRange
set rs first last asked = joined (below first rs ++ asked_range first last asked ++ above last rs)

-- Whether a range stands in the way of another's lock: they have an offset in common, and one of them is for write
-- (RFC 8881 section 18.10).
abbrev pub conflicts : (first last : ℕ) → (write : Bool) → LockRange → Bool
conflicts first last write r = nat_le r.first last && (nat_le first r.last && (r.write || write))

-- rising and disjoint, from an offset on: each has an offset, and begins after the one before
abbrev pub RiseFrom : ℕ → List LockRange → Type 0
RiseFrom x [] = Unit {0}
RiseFrom x (r ∷ rs) = (x ≤ r.first) × (r.first ≤ r.last) × RiseFrom (r.last + 1) rs

-- maximal: no two that touch are of one kind
abbrev pub IsApart : LockRange → List LockRange → Type 0
IsApart r [] = Unit {0}
IsApart r (next ∷ rs) = touches r next ≡ false

abbrev pub AreApart : List LockRange → Type 0
AreApart [] = Unit {0}
AreApart (r ∷ rs) = IsApart r rs × AreApart rs

-- the maximal runs of equal mode
pub record AreRuns (rs : List LockRange) : Type 0 where
  pub rising : RiseFrom 0 rs
  pub apart : AreApart rs
