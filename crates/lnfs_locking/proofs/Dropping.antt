-- Those of a level that go, one after the other, and what is left of all.
use Rattle.std.proofs.Common.{◌≡◌, ℕ, Bool, true, false, not, ◌&&◌, ◌||◌, List, [], ◌∷◌, Some, None, refl, sym, ap, ◌∙◌, arith}
use Rattle.std.specs.Prelude.{◌==◌, map, filter, find, option_map}
use Rattle.std.specs.List.{AllByRecursion, list_any}
use Rattle.std.specs.Ordering.{is_le}
use Rattle.std.specs.declared.cmp.Ordering.TheVariants.{Less}
use Rattle.std.proofs.lemmas.Bool.Decides.{nat_tests}
use Rattle.lnfs_world.specs.Rows.{Rising, inserted}
use Rattle.lnfs_world.specs.World.{Id, id_order, same_id}
use Rattle.lnfs_world.proofs.Keys.{id_turned, id_itself}
use Rattle.lnfs_world.proofs.Rows.{all_weaker, all_anyway}
use Rattle.lnfs_counts.proofs.Rows.{each_at, gone, none_gone, filter-inserted}
use Rattle.lnfs_locks.specs.Locks.{Lock, lock_order}
use Rattle.lnfs_locks.specs.Effects.{is_one_of}
use Rattle.lnfs_locking.specs.Rows.{lock_id, lock_at}
use Rattle.lnfs_locking.specs.Indexed.{passes}
use Rattle.lnfs_locking.specs.Walks.{from_on}
use Rattle.lnfs_locking.proofs.Finding.{locks_there}

-- tests that agree at each leave the same
pub filter_agree : {X : Type 0} (p q : X → Bool) (xs : List X) → AllByRecursion (λ x. p x ≡ q x) xs → filter p xs ≡ filter q xs
filter_agree p q [] all = refl
filter_agree p q (x ∷ xs) all = grind (arith, all.0, filter_agree p q xs all.1)

abbrev left_from : Id → (Lock → Bool) → List Lock → List Lock
left_from i p xs = filter (λ l. not (from_on i p l)) xs

-- ---- one goes, and the walk goes on behind it

level_of_first : (from : Id) (p : Lock → Bool) (x : Lock) → from_on from p x ≡ true → x.id.level ≡ from.level
level_of_first from p x is = grind (arith, nat_tests, is)

from_first : (from : Id) (p : Lock → Bool) (x : Lock) → from_on from p x ≡ true → is_le (id_order from x.id) ≡ true
from_first from p x is = grind (arith, is)

behind_le : (a b c : Id) → is_le (id_order a b) ≡ true → id_order b c ≡ Less → is_le (id_order a c) ≡ true
behind_le a b c x y = grind (arith, nat_tests)

less_le : (a b : Id) → id_order a b ≡ Less → is_le (id_order a b) ≡ true
less_le a b x = grind (arith, x)

turned_le : (a b : Id) → id_order a b ≡ Less → is_le (id_order b a) ≡ false
turned_le a b x = grind (arith, nat_tests)

turned_same : (a b : Id) → id_order a b ≡ Less → same_id b a ≡ false
turned_same a b x = grind (arith, nat_tests)

-- behind the first that goes the two walks look at the same
agree_behind : (from : Id) (p : Lock → Bool) (x y : Lock) → from_on from p x ≡ true → id_order x.id y.id ≡ Less → not (from_on x.id p y) ≡ not (from_on from p y)
agree_behind from p x y is less =
    let a = less_le x.id y.id less in
    let b = behind_le from x.id y.id (from_first from p x is) less in
    let c = level_of_first from p x is in
    grind (arith, a, b, c)

found_later : (P : Lock → Type 0) (q : Lock → Bool) (xs : List Lock) (i : Id) → AllByRecursion P xs → option_map lock_id (find q xs) ≡ Some i → (l : Lock) × (P l × (l.id ≡ i))
found_later P q [] i all found = absurd (cc)
found_later P q (x ∷ xs) i all found = by (q x) refl (found_later P q xs i all.1)
  where
    by : (b : Bool) → q x ≡ b → (option_map lock_id (find q xs) ≡ Some i → (l : Lock) × (P l × (l.id ≡ i))) → (l : Lock) × (P l × (l.id ≡ i))
    by true is rest = (x, (all.0, grind (arith, is, found)))
    by false is rest = rest (grind (arith, is, found))

pub one_gone : (from i : Id) (p : Lock → Bool) (xs : List Lock) → Rising lock_order xs → option_map lock_id (find (from_on from p) xs) ≡ Some i →
    left_from i p (filter (λ y. not (same_id i y.id)) xs) ≡ left_from from p xs
one_gone from i p [] rising found = absurd (cc)
one_gone from i p (x ∷ xs) rising found = by (from_on from p x) refl (one_gone from i p xs rising.1)
  where
    by : (b : Bool) → from_on from p x ≡ b →
        (option_map lock_id (find (from_on from p) xs) ≡ Some i → left_from i p (filter (λ y. not (same_id i y.id)) xs) ≡ left_from from p xs) →
        left_from i p (filter (λ y. not (same_id i y.id)) (x ∷ xs)) ≡ left_from from p (x ∷ xs)
    by true is rest =
        let own : x.id ≡ i = grind (arith, is, found) in
        let same : same_id i x.id ≡ true = ap (λ j. same_id j x.id) (sym own) ∙ id_itself x.id in
        let others : filter (λ y. not (same_id i y.id)) xs ≡ xs = none_gone lock_id i xs (gone lock_id x i xs rising.0 same) in
        let agree : left_from x.id p xs ≡ left_from from p xs = filter_agree _ _ xs (all_weaker _ _ (λ y less. agree_behind from p x y is less) xs rising.0) in
        rw (same, is) (ap (left_from i p) others ∙ (ap (λ j. left_from j p xs) (sym own) ∙ agree))
    by false is rest =
        let there : option_map lock_id (find (from_on from p) xs) ≡ Some i = grind (arith, is, found) in
        let later = found_later (λ y. id_order x.id y.id ≡ Less) (from_on from p) xs i rising.0 there in
        let less : id_order x.id i ≡ Less = ap (id_order x.id) (sym later.1.1) ∙ later.1.0 in
        let apart = turned_same x.id i less in
        let before = turned_le x.id i less in
        let held : from_on i p x ≡ false = grind (arith, before) in
        rw (apart, held, is) (ap (λ ys. x ∷ ys) (rest there))

pub is_there : (q : Lock → Bool) (xs : List Lock) (i : Id) → option_map lock_id (find q xs) ≡ Some i → list_any (λ y. same_id i y.id) xs ≡ true
is_there q [] i found = absurd (cc)
is_there q (x ∷ xs) i found = by (q x) refl (is_there q xs i)
  where
    by : (b : Bool) → q x ≡ b → (option_map lock_id (find q xs) ≡ Some i → list_any (λ y. same_id i y.id) xs ≡ true) → list_any (λ y. same_id i y.id) (x ∷ xs) ≡ true
    by true is rest =
        let own : x.id ≡ i = grind (arith, is, found) in
        let same : same_id i x.id ≡ true = ap (λ j. same_id j x.id) (sym own) ∙ id_itself x.id in
        grind (arith, same)
    by false is rest = grind (arith, is, rest (grind (arith, is, found)))

pub all_stay : (q : Lock → Bool) (xs : List Lock) → option_map lock_id (find q xs) ≡ None → filter (λ l. not (q l)) xs ≡ xs
all_stay q [] none = refl
all_stay q (x ∷ xs) none = by (q x) refl (all_stay q xs)
  where
    by : (b : Bool) → q x ≡ b → (option_map lock_id (find q xs) ≡ None → filter (λ l. not (q l)) xs ≡ xs) → filter (λ l. not (q l)) (x ∷ xs) ≡ x ∷ xs
    by true is rest = absurd (grind (arith, is, none))
    by false is rest = rw is (ap (λ ys. x ∷ ys) (rest (grind (arith, is, none))))

-- ---- from the front of a level on

from_front : (level : ℕ) (p : Lock → Bool) (l : Lock) → from_on (record { level = level; number = 0 }) p l ≡ (l.id.level == level && p l)
from_front level p l = by (l.id.level == level) refl
  where
    by : (b : Bool) → (l.id.level == level) ≡ b → from_on (record { level = level; number = 0 }) p l ≡ (l.id.level == level && p l)
    by false is = rw is refl
    by true is =
        let le : is_le (id_order (record { level = level; number = 0 }) l.id) ≡ true = grind (arith, nat_tests, is) in
        rw (is, le) refl

pub all_from_front : (level : ℕ) (p : Lock → Bool) (xs : List Lock) → filter (λ l. not (from_on (record { level = level; number = 0 }) p l)) xs ≡ filter (λ l. not (l.id.level == level && p l)) xs
all_from_front level p xs = filter_agree _ _ xs (all_anyway _ (λ l. ap not (from_front level p l)) xs)

-- ---- those that go by a list of them

any_ids : (i : Id) (xs : List Lock) → list_any (λ y. same_id y.id i) xs ≡ list_any (same_id i) (map lock_id xs)
any_ids i [] = refl
any_ids i (x ∷ xs) = (λ t. id_turned x.id i t || any_ids i xs t)

one_of : (g : Lock → Bool) (all : List Lock) → Rising lock_order all → (x : Lock) → lock_at all x.id ≡ Some x → not (is_one_of (filter g all) x) ≡ not (g x)
one_of g all rising x there = ap not (any_ids x.id (filter g all) ∙ (locks_there g x.id all rising ∙ ap (passes g) there))

pub left_by : (g : Lock → Bool) (xs : List Lock) → Rising lock_order xs → filter (λ x. not (is_one_of (filter g xs) x)) xs ≡ filter (λ x. not (g x)) xs
left_by g xs rising = filter_agree _ _ xs (all_weaker _ _ (λ x there. one_of g xs rising x there) xs (each_at lock_id xs rising))

-- what is set before others go is what is set after they went
pub kept_locks : (g : Lock → Bool) (l : Lock) (xs : List Lock) → g l ≡ false → Rising lock_order xs →
    filter (λ x. not (g x)) (inserted lock_order l xs) ≡ inserted lock_order l (filter (λ x. not (is_one_of (filter g xs) x)) xs)
kept_locks g l xs stays rising =
    filter-inserted lock_id (λ x. not (g x)) l (ap not stays) xs rising
    ∙ ap (inserted lock_order l) (sym (left_by g xs rising))
