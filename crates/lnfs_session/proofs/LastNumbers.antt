-- Last numbers that levels are given one after the other.
use Rattle.std.proofs.Common.{◌≡◌, ◌≢◌, ◌<◌, ◌+◌, ◌++◌, ℕ, zero, suc, Bool, true, false, cond, List, [], ◌∷◌, length, get_or, take, refl, sym, ap, ◌∙◌, subst, arith}
use Rattle.std.specs.Prelude.{◌==◌}
use Rattle.std.specs.List.{AllByRecursion}
use Rattle.std.specs.Ordering.{nat_cmp}
use Rattle.std.specs.declared.cmp.Ordering.TheVariants.{Greater}
use Rattle.std.proofs.lemmas.Bool.Decides.{nat_tests}
use Rattle.std.proofs.Math.Numerals.{add-one}
use Rattle.lnfs_world.specs.Rows.{inserted}
use Rattle.lnfs_world.specs.World.{Id, level_order, last_of}
use Rattle.lnfs_world.proofs.Keys.{last_of-inserted}
use Rattle.lnfs_counts.specs.Counters.{FitsCounter}
use Rattle.lnfs_counts.proofs.Made.{each_more}
use Rattle.lnfs_rows.specs.Lasts.{given_from, given_of, each_of}
use Rattle.lnfs_session.specs.Levels.{Levels, HaveNone, AllTellSame, or_none, last_at, records_at, place_at, lasts_of}

-- where a level gave a number
abbrev pub with_last : Id → List Id → List Id
with_last i lasts = cond (i.number == 0) lasts (inserted level_order i lasts)

later : (level : ℕ) (number n : ℕ) (i : ℕ) (lasts : List Id) → with_last (record { level = level + suc i; number = n }) (record { level = level; number = number } ∷ lasts) ≡ record { level = level; number = number } ∷ with_last (record { level = level + suc i; number = n }) lasts
later level number n i lasts = by (n == 0)
  where
    behind : nat_cmp (level + suc i) level ≡ Greater
    behind = grind (arith, nat_tests)

    by : (b : Bool) → cond b (record { level = level; number = number } ∷ lasts) (inserted level_order (record { level = level + suc i; number = n }) (record { level = level; number = number } ∷ lasts)) ≡ record { level = level; number = number } ∷ cond b lasts (inserted level_order (record { level = level + suc i; number = n }) lasts)
    by true = refl
    by false = grind (arith, behind)

pub given_more : (level : ℕ) (ns : List ℕ) (i d : ℕ) → i < length ns → given_from level (take (suc i) ns) ≡ with_last (record { level = level + i; number = get_or ns i d }) (given_from level (take i ns))
given_more level [] i d within = absurd (omega arith)
given_more level (zero ∷ ns) zero d within = refl
given_more level (suc n ∷ ns) zero d within =
    let own : level ≡ level + 0 = omega arith in
    let some : (suc n == 0) ≡ false = grind (arith, nat_tests) in
    let first : List Id = record { level = level + 0; number = suc n } ∷ [] in
    ap (λ (l : ℕ). record { level = l; number = suc n } ∷ []) own ∙ sym (ap (λ (b : Bool). cond b [] first) some)
given_more level (zero ∷ ns) (suc i) d within =
    let next : suc level + i ≡ level + suc i = omega arith in
    given_more (suc level) ns i d (omega arith) ∙ ap (λ (l : ℕ). with_last (record { level = l; number = get_or ns i d }) (given_from (suc level) (take i ns))) next
given_more level (suc n ∷ ns) (suc i) d within =
    let next : suc level + i ≡ level + suc i = omega arith in
    ap (λ rest. record { level = level; number = suc n } ∷ rest) (given_more (suc level) ns i d (omega arith) ∙ ap (λ (l : ℕ). with_last (record { level = l; number = get_or ns i d }) (given_from (suc level) (take i ns))) next)
    ∙ sym (later level (suc n) (get_or ns i d) i (given_from (suc level) (take i ns)))

pub fits_at : (level : ℕ) (ns : List ℕ) (i d : ℕ) → i < length ns → AllByRecursion FitsCounter (given_from level ns) → get_or ns i d ≢ 0 → FitsCounter (record { level = level + i; number = get_or ns i d })
fits_at level [] i d within fits some = absurd (omega arith)
fits_at level (zero ∷ ns) zero d within fits some = absurd (some refl)
fits_at level (suc n ∷ ns) zero d within fits some = subst (λ (l : ℕ). FitsCounter (record { level = l; number = suc n })) (omega arith) fits.0
fits_at level (zero ∷ ns) (suc i) d within fits some = subst (λ (l : ℕ). FitsCounter (record { level = l; number = get_or ns i d })) (omega arith) (fits_at (suc level) ns i d (omega arith) fits some)
fits_at level (suc n ∷ ns) (suc i) d within fits some = subst (λ (l : ℕ). FitsCounter (record { level = l; number = get_or ns i d })) (omega arith) (fits_at (suc level) ns i d (omega arith) fits.1 some)

-- from level 0 on
pub given_next : (ns : List ℕ) (i d : ℕ) → i < length ns → given_of (take (i + 1) ns) ≡ with_last (record { level = i; number = get_or ns i d }) (given_of (take i ns))
given_next ns i d within =
    let from : 0 + i ≡ i = omega arith in
    ap (λ (n : ℕ). given_of (take n ns)) (add-one i) ∙ given_more 0 ns i d within ∙ ap (λ (l : ℕ). with_last (record { level = l; number = get_or ns i d }) (given_of (take i ns))) from

pub fits_next : (ns : List ℕ) (i d : ℕ) → i < length ns → AllByRecursion FitsCounter (given_of ns) → get_or ns i d ≢ 0 → FitsCounter (record { level = i; number = get_or ns i d })
fits_next ns i d within fits some =
    let from : 0 + i ≡ i = omega arith in
    subst (λ (l : ℕ). FitsCounter (record { level = l; number = get_or ns i d })) from (fits_at 0 ns i d within fits some)

-- the last numbers of the levels before, and that of the next
pub told_next : (lasts : List Id) (level : ℕ) (numbers more : List ℕ) (own : ℕ) → numbers ≡ each_of level lasts → own ≡ last_of level lasts → more ≡ numbers ++ own ∷ [] → more ≡ each_of (level + 1) lasts
told_next lasts level numbers more own before told is =
    let from : level ≡ 0 + level = omega arith in
    let next : suc level ≡ level + 1 = omega arith in
    let here : own ≡ last_of (0 + level) lasts = told ∙ ap (λ (l : ℕ). last_of l lasts) from in
    is ∙ (λ t. before t ++ here t ∷ []) ∙ sym (each_more 0 level lasts) ∙ ap (λ (n : ℕ). each_of n lasts) next

-- ---- levels that have no record

pub none_still : (a b c : Levels) (i : Id) → HaveNone a → AllTellSame a b → ((l : ℕ) → last_at c l ≡ cond (i.level == l) i.number (last_at b l)) → ((l : ℕ) → records_at c l ≡ records_at b l) → ((l : ℕ) (o : List ℕ) → place_at c l o ≡ place_at b l o) → lasts_of c.entries ≡ inserted level_order i (lasts_of b.entries) → HaveNone c
none_still a b c i none same last records places lasts = record {
  lasting = λ l. (λ t. last_of l (lasts t)) ∙ last_of-inserted i (lasts_of b.entries) l ∙ ap (λ (n : ℕ). cond (i.level == l) i.number n) (ap (last_of l) same.lasts ∙ none.lasting l ∙ sym (same.last l)) ∙ sym (last l);
  records = λ l. records l ∙ same.records l ∙ none.records l;
  numbers = λ l o. ap or_none (places l o) ∙ same.numbers l o ∙ none.numbers l o;
}
