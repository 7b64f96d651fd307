-- Last numbers by level: the number at a place of a list is that of its level, and the numbers of all levels are the list again.
use Rattle.std.proofs.Common.{◌≡◌, ℕ, zero, suc, ◌+◌, ◌<◌, true, false, eqb, List, [], ◌∷◌, length, get_or, refl, sym, ap, ◌∙◌, arith}
use Rattle.std.proofs.lemmas.Bool.Decides.{nat_tests}
use Rattle.lnfs_world.specs.World.{last_of}
use Rattle.lnfs_rows.specs.Lasts.{given_from, given_of, each_from, each_of}

same_level : (n : ℕ) → eqb n n ≡ true
same_level n = grind (arith, nat_tests)

other_level : (n m : ℕ) → n < m → eqb n m ≡ false
other_level n m lt = grind (arith, nat_tests)

-- behind the first level of a list there is none before it
none_before : (ns : List ℕ) (first level : ℕ) → level < first → last_of level (given_from first ns) ≡ 0
none_before [] first level lt = refl
none_before (zero ∷ ns) first level lt = none_before ns (suc first) level (omega (arith, lt))
none_before (suc n ∷ ns) first level lt =
    let other : eqb first level ≡ false = grind (arith, nat_tests) in
    rw other (none_before ns (suc first) level (omega (arith, lt)))

here : (n : ℕ) (ns : List ℕ) (first : ℕ) → last_of first (given_from first (n ∷ ns)) ≡ n
here zero ns first = none_before ns (suc first) first (omega arith)
here (suc n) ns first = rw (same_level first) refl

-- a number before the level doesn't count
later : (n : ℕ) (ns : List ℕ) (first level : ℕ) → first < level → last_of level (given_from first (n ∷ ns)) ≡ last_of level (given_from (suc first) ns)
later zero ns first level lt = refl
later (suc n) ns first level lt = rw (other_level first level lt) refl

at_from : (ns : List ℕ) (first i : ℕ) → last_of (first + i) (given_from first ns) ≡ get_or ns i 0
at_from [] first i = refl
at_from (n ∷ ns) first zero = let e : first + 0 ≡ first = omega arith in rw e (here n ns first)
at_from (n ∷ ns) first (suc i) =
    let e : first + suc i ≡ suc first + i = omega arith in
    later n ns first (first + suc i) (omega arith) ∙ ap (λ (l : ℕ). last_of l (given_from (suc first) ns)) e ∙ at_from ns (suc first) i

pub last_at : (ns : List ℕ) (i : ℕ) → last_of i (given_of ns) ≡ get_or ns i 0
last_at ns i = let e : 0 + i ≡ i = omega arith in ap (λ (l : ℕ). last_of l (given_of ns)) (sym e) ∙ at_from ns 0 i

-- ---- all levels

each_later : (n : ℕ) (ns : List ℕ) (first level levels : ℕ) → first < level → each_from level levels (given_from first (n ∷ ns)) ≡ each_from level levels (given_from (suc first) ns)
each_later n ns first level zero lt = refl
each_later n ns first level (suc levels) lt = rw (later n ns first level lt, each_later n ns first (suc level) levels (omega (arith, lt))) refl

each_given_from : (ns : List ℕ) (first : ℕ) → each_from first (length ns) (given_from first ns) ≡ ns
each_given_from [] first = refl
each_given_from (n ∷ ns) first = rw (here n ns first, each_later n ns first (suc first) (length ns) (omega arith), each_given_from ns (suc first)) refl

-- the numbers of all levels are the list again
pub each_given : (ns : List ℕ) → each_of (length ns) (given_of ns) ≡ ns
each_given ns = each_given_from ns 0
