-- Runs, one after the other.
use Rattle.std.proofs.Common.{◌≡◌, ℕ, ◌+◌, ◌<◌, List, [], ◌∷◌, Option, Some, None, length, drop, get_or, sym, subst, arith}
use Rattle.std.proofs.lemmas.List.{drop_more}
use Rattle.lnfs_ranges.specs.declared.range.LockRange.{LockRange}
use Rattle.lnfs_ranges.specs.Modes.{RiseFrom, AreApart, AreRuns}
use Rattle.lnfs_ranges.specs.Following.{IsNext}
use Rattle.lnfs_ranges.proofs.Parts.{no_range}

-- those that are left are the runs behind the last one so far
abbrev pub AreLeft : Option LockRange → List LockRange → Type 0
AreLeft None rs = RiseFrom 0 rs × AreApart rs
AreLeft (Some end) rs = RiseFrom (end.last + 1) rs × AreApart (end ∷ rs)

pub next_is : (end : Option LockRange) (r : LockRange) (rs : List LockRange) → AreLeft end (r ∷ rs) → IsNext end r
next_is None r rs left = left.0.1
next_is (Some end) r rs left = (left.0.1, omega (arith, left.0.0), left.1.0)

pub others_left : (end : Option LockRange) (r : LockRange) (rs : List LockRange) → AreLeft end (r ∷ rs) → AreLeft (Some r) rs
others_left None r rs left = (left.0.2, left.1)
others_left (Some end) r rs left = (left.0.2, left.1.1)

pub all_left : (end : Option LockRange) (r : LockRange) (rs : List LockRange) → IsNext end r → AreLeft (Some r) rs → AreLeft end (r ∷ rs)
all_left None r rs next left = ((omega arith, next, left.0), left.1)
all_left (Some end) r rs next left = ((omega (arith, next.1), next.0, left.0), (next.2, left.1))

pub none_left : (end : Option LockRange) → AreLeft end []
none_left None = (tt, tt)
none_left (Some end) = (tt, (tt, tt))

-- all are runs just where those that are left are
pub record AreTold (all : List LockRange) (end : Option LockRange) (left : List LockRange) : Type 0 where
  pub there : AreLeft end left → AreRuns all
  pub back : AreRuns all → AreLeft end left

pub first_told : (all : List LockRange) → AreTold all None all
first_told all = record { there = λ left. record { rising = left.0; apart = left.1 }; back = λ runs. (runs.rising, runs.apart) }

module _ (all : List LockRange) (end : Option LockRange) (i : ℕ) (less : i < length all) (told : AreTold all end (drop i all)) where
  more : drop i all ≡ get_or all i no_range ∷ drop (i + 1) all
  more = drop_more all i no_range less

  pub next_told : IsNext end (get_or all i no_range) → AreTold all (Some (get_or all i no_range)) (drop (i + 1) all)
  next_told next = record {
    there = λ left. told.there (subst (AreLeft end) (sym more) (all_left end (get_or all i no_range) (drop (i + 1) all) next left));
    back = λ runs. others_left end (get_or all i no_range) (drop (i + 1) all) (subst (AreLeft end) more (told.back runs));
  }

  pub next_of : AreRuns all → IsNext end (get_or all i no_range)
  next_of runs = next_is end (get_or all i no_range) (drop (i + 1) all) (subst (AreLeft end) more (told.back runs))

pub last_told : (all : List LockRange) (end : Option LockRange) (left : List LockRange) → left ≡ [] → AreTold all end left → AreRuns all
last_told all end left none told = told.there (subst (AreLeft end) (sym none) (none_left end))
