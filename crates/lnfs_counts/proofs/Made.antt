-- Last numbers as a list of one for each level, and counters made of them.
use Rattle.std.proofs.Common.{◌≡◌, ◌++◌, ◌+◌, ◌<◌, ℕ, zero, suc, Bool, true, false, cond, List, [], ◌∷◌, Option, refl, sym, ap, ◌∙◌, map, subst, arith}
use Rattle.std.specs.Prelude.{◌==◌}
use Rattle.std.specs.declared.cmp.Ordering.{Ordering}
use Rattle.std.specs.declared.cmp.Ordering.TheVariants.{Less, Equal, Greater}
use Rattle.std.specs.Ordering.{is_eq, nat_cmp}
use Rattle.std.specs.List.{AllByRecursion}
use Rattle.std.specs.List.Sorted.{IsStrictlySortedBy}
use Rattle.std.specs.Map.{lookup, keys_of}
use Rattle.std.specs.BTreeMap.{insert_entry}
use Rattle.std.proofs.lemmas.Map.Keys.{sorted_head, sorted_tail}
use Rattle.std.proofs.lemmas.Bool.Decides.{nat_tests}
use Rattle.std.proofs.lemmas.List.{append-nil, append_assoc}
use Rattle.lnfs_world.specs.World.{Id, last_of}
use Rattle.lnfs_rows.specs.Lasts.{given_from, each_from}
use Rattle.lnfs_counts.specs.declared.counters.Counter.{Counter}
use Rattle.lnfs_counts.specs.Levels.{told_in, lasts_by}
use Rattle.lnfs_counts.specs.Counters.{lasts_of, FitsCounter}
use Rattle.lnfs_counts.proofs.Levels.{at}

-- ---- the last number of a level

module _ {V : Type 0} (last : V → ℕ) where
  last_none : (level : ℕ) (es : List (ℕ × V)) → AllByRecursion (λ k. nat_cmp level k ≡ Less) (keys_of es) → last_of level (lasts_by last es) ≡ 0
  last_none level [] all = refl
  last_none level (e ∷ es) all = by (last e.1 == 0) refl (last_none level es all.1)
    where
      by : (b : Bool) → (last e.1 == 0) ≡ b → last_of level (lasts_by last es) ≡ 0 → last_of level (lasts_by last (e ∷ es)) ≡ 0
      by true is rest = grind (arith, is, rest)
      by false is rest = grind (arith, nat_tests, is, rest, all.0)

  pub lasting : (level : ℕ) (es : List (ℕ × V)) → IsStrictlySortedBy nat_cmp (keys_of es) → last_of level (lasts_by last es) ≡ told_in last (at last level es)
  lasting level [] sorted = refl
  lasting level (e ∷ es) sorted = by (nat_cmp level e.0) (last e.1 == 0) refl refl (lasting level es (sorted_tail nat_cmp e.0 (keys_of es) sorted))
    where
      later : AllByRecursion (λ k. nat_cmp e.0 k ≡ Less) (keys_of es)
      later = sorted_head nat_cmp e.0 (keys_of es) sorted

      own : e.0 ≡ level → last_of level (lasts_by last es) ≡ 0
      own same = last_none level es (subst (λ k. AllByRecursion (λ j. nat_cmp k j ≡ Less) (keys_of es)) same later)

      by : (o : Ordering) (b : Bool) → nat_cmp level e.0 ≡ o → (last e.1 == 0) ≡ b → last_of level (lasts_by last es) ≡ told_in last (at last level es) → last_of level (lasts_by last (e ∷ es)) ≡ told_in last (at last level (e ∷ es))
      by Less true is none rest = grind (arith, is, none, rest)
      by Less false is none rest = grind (arith, nat_tests, is, none, rest)
      by Equal true is none rest =
          let same : e.0 ≡ level = grind (arith, nat_tests, is) in
          grind (arith, nat_tests, is, none, own same)
      by Equal false is none rest = grind (arith, nat_tests, is, none)
      by Greater true is none rest = grind (arith, is, none, rest)
      by Greater false is none rest = grind (arith, nat_tests, is, none, rest)

-- one level more
pub each_more : (level levels : ℕ) (lasts : List Id) → each_from level (suc levels) lasts ≡ each_from level levels lasts ++ last_of (level + levels) lasts ∷ []
each_more level zero lasts = ap (λ (l : ℕ). last_of l lasts ∷ []) (omega arith)
each_more level (suc levels) lasts =
    ap (λ rest. last_of level lasts ∷ rest) (each_more (suc level) levels lasts
    ∙ ap (λ (l : ℕ). each_from (suc level) levels lasts ++ last_of l lasts ∷ []) (omega arith))

-- the last numbers of the levels before, and that of the next
pub one_told : (es : List (ℕ × Counter)) (level : ℕ) (numbers more : List ℕ) (own : ℕ) → IsStrictlySortedBy nat_cmp (keys_of es) → numbers ≡ each_from 0 level (lasts_of es) → own ≡ told_in (λ x. x.last) (at (λ x. x.last) level es) → more ≡ numbers ++ own ∷ [] → more ≡ each_from 0 (level + 1) (lasts_of es)
one_told es level numbers more own sorted before told is =
    let from : level ≡ 0 + level = omega arith in
    let next : suc level ≡ level + 1 = omega arith in
    let here : own ≡ last_of (0 + level) (lasts_of es) = told ∙ sym (lasting (λ x. x.last) level es sorted) ∙ ap (λ (l : ℕ). last_of l (lasts_of es)) from in
    is ∙ (λ t. before t ++ here t ∷ []) ∙ sym (each_more 0 level (lasts_of es)) ∙ ap (λ (n : ℕ). each_from 0 n (lasts_of es)) next

-- ---- counters of levels that have no row

abbrev pub made : Id → ℕ × Counter
made i = (i.level, record { last = i.number; count = 0 })

pub lasts_made : (level : ℕ) (ns : List ℕ) → lasts_of (map made (given_from level ns)) ≡ given_from level ns
lasts_made level [] = refl
lasts_made level (zero ∷ ns) = lasts_made (suc level) ns
lasts_made level (suc n ∷ ns) =
    let some : (suc n == 0) ≡ false = grind (arith, nat_tests) in
    (λ t. cond (some t) (lasts_made (suc level) ns t) (record { level = level; number = suc n } ∷ lasts_made (suc level) ns t))

abbrev counter_at : ℕ → List (ℕ × Counter) → Option Counter
counter_at level es = lookup (λ k. is_eq (nat_cmp level k)) es

pub last_made : (level : ℕ) (lasts : List Id) → told_in (λ x. x.last) (counter_at level (map made lasts)) ≡ last_of level lasts
last_made level [] = refl
last_made level (i ∷ lasts) = grind (arith, nat_tests, last_made level lasts)

pub none_made : (level : ℕ) (lasts : List Id) → told_in (λ x. x.count) (counter_at level (map made lasts)) ≡ 0
none_made level [] = refl
none_made level (i ∷ lasts) = by (is_eq (nat_cmp level i.level)) refl (none_made level lasts)
  where
    by : (b : Bool) → is_eq (nat_cmp level i.level) ≡ b → told_in (λ x. x.count) (counter_at level (map made lasts)) ≡ 0 → told_in (λ x. x.count) (counter_at level (map made (i ∷ lasts))) ≡ 0
    by true is rest = grind (arith, is)
    by false is rest = grind (arith, is, rest)

-- ---- made one by one

abbrev pub AreBelow : ℕ → List (ℕ × Counter) → Type 0
AreBelow level es = AllByRecursion (λ e. e.0 < level) es

-- the counters of the levels before, and the last numbers from there on
pub record IsMade (lasts : List Id) (es : List (ℕ × Counter)) (level : ℕ) (left : List ℕ) : Type 0 where
  pub rest : map made lasts ≡ es ++ map made (given_from level left)
  pub below : AreBelow level es
  pub fits : AllByRecursion FitsCounter (given_from level left)

insert_end : (es : List (ℕ × Counter)) (level : ℕ) (x : Counter) → AreBelow level es → insert_entry nat_cmp es level x ≡ es ++ (level, x) ∷ []
insert_end [] level x all = refl
insert_end (e ∷ es) level x all =
    let later : nat_cmp level e.0 ≡ Greater = grind (arith, nat_tests, all.0) in
    grind (arith, later, insert_end es level x all.1)

below_more : (es : List (ℕ × Counter)) (level : ℕ) → AreBelow level es → AreBelow (suc level) es
below_more [] level all = tt
below_more (e ∷ es) level all = (omega (arith, all.0), below_more es level all.1)

below_end : (es : List (ℕ × Counter)) (level : ℕ) (x : Counter) → AreBelow level es → AreBelow (suc level) (es ++ (level, x) ∷ [])
below_end [] level x all = (omega arith, tt)
below_end (e ∷ es) level x all = (omega (arith, all.0), below_end es level x all.1)

step : (n : ℕ) → suc n ≡ n + 1
step n = omega arith

pub passed : (lasts : List Id) (es : List (ℕ × Counter)) (level : ℕ) (left : List ℕ) → IsMade lasts es level (0 ∷ left) → IsMade lasts es (level + 1) left
passed lasts es level left so = subst (λ (l : ℕ). IsMade lasts es l left) (step level) (record { rest = so.rest; below = below_more es level so.below; fits = so.fits })

pub one_made : (lasts : List Id) (es : List (ℕ × Counter)) (level n : ℕ) (left : List ℕ) → IsMade lasts es level (n ∷ left) → 0 < n → IsMade lasts (insert_entry nat_cmp es level (record { last = n; count = 0 })) (level + 1) left
one_made lasts es level zero left so some = absurd (omega (arith, some))
one_made lasts es level (suc n) left so some =
    let x : Counter = record { last = suc n; count = 0 } in
    let all : IsMade lasts (es ++ (level, x) ∷ []) (suc level) left = record {
      rest = so.rest ∙ sym (append_assoc es ((level, x) ∷ []) (map made (given_from (suc level) left)));
      below = below_end es level x so.below;
      fits = so.fits.1;
    } in
    subst (λ (l : ℕ). IsMade lasts (insert_entry nat_cmp es level x) l left) (step level) (subst (λ (xs : List (ℕ × Counter)). IsMade lasts xs (suc level) left) (sym (insert_end es level x so.below)) all)

pub all_made : (lasts : List Id) (es : List (ℕ × Counter)) (level : ℕ) (left : List ℕ) → left ≡ [] → IsMade lasts es level left → es ≡ map made lasts
all_made lasts es level left none so = sym (so.rest ∙ ap (λ ns. es ++ map made (given_from level ns)) none ∙ append-nil es)
