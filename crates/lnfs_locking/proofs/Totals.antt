-- Totals over the locks of a level, beside one and with it.
use Rattle.std.proofs.Common.{◌≡◌, ◌≤◌, ◌<◌, ℕ, ◌+◌, Bool, true, false, cond, not, ◌&&◌, List, [], ◌∷◌, length, map, refl, sym, ap, ◌∙◌, arith}
use Rattle.std.specs.Prelude.{◌==◌, filter, sum_by}
use Rattle.std.specs.Ordering.{is_le}
use Rattle.std.specs.declared.cmp.Ordering.{Ordering}
use Rattle.std.specs.declared.cmp.Ordering.TheVariants.{Less, Equal, Greater}
use Rattle.std.proofs.lemmas.Bool.Decides.{nat_tests}
use Rattle.std.proofs.lemmas.List.Sums.{sum_by-cons}
use Rattle.lnfs_world.specs.Rows.{Rising, inserted}
use Rattle.lnfs_world.specs.World.{Id, id_order, same_id}
use Rattle.lnfs_world.proofs.Keys.{id_equal}
use Rattle.lnfs_counts.proofs.Rows.{gone, before, none_gone}
use Rattle.lnfs_locks.specs.Locks.{Lock, lock_order}
use Rattle.lnfs_locks.specs.Facts.{locks_at, ranges_at}
use Rattle.lnfs_locks.proofs.Totals.{length_is_sum, count_is_sum, sum_filter}
use Rattle.lnfs_locking.specs.declared.keys.Key.{Key}
use Rattle.lnfs_locking.specs.declared.keys.LockRow.{LockRow}
use Rattle.lnfs_locking.specs.Keys.{id_of}
use Rattle.lnfs_locking.specs.Rows.{lock_id, entry_of}
use Rattle.lnfs_locking.specs.Usage.{total, is_beside, locks_beside, ranges_beside, standing_with}
use Rattle.lnfs_locking.proofs.Entries.{key_cmp}
use Rattle.lnfs_locking.proofs.Keeping.{rise_filter}
use Rattle.lnfs_locking.proofs.LevelRuns.{Rows, is_from}

-- ---- totals and sums

pub sum_is_total : {X : Type 0} (f : X → ℕ) (xs : List X) → sum_by f xs ≡ total f xs
sum_is_total f [] = refl
sum_is_total f (x ∷ xs) = sum_by-cons f x xs ∙ ap (λ n. f x + n) (sum_is_total f xs)

total_filter : (f : Lock → ℕ) (p : Lock → Bool) (xs : List Lock) → total f (filter p xs) ≡ total (λ x. cond (p x) (f x) 0) xs
total_filter f p [] = refl
total_filter f p (x ∷ xs) = by (p x) (total_filter f p xs)
  where
    by : (b : Bool) → total f (filter p xs) ≡ total (λ y. cond (p y) (f y) 0) xs → total f (cond b (x ∷ filter p xs) (filter p xs)) ≡ cond b (f x) 0 + total (λ y. cond (p y) (f y) 0) xs
    by true rest = ap (λ n. f x + n) rest
    by false rest = omega (arith, rest)

total_agree : (f g : Lock → ℕ) → ((l : Lock) → f l ≡ g l) → (xs : List Lock) → total f xs ≡ total g xs
total_agree f g same [] = refl
total_agree f g same (x ∷ xs) = (λ t. same x t + total_agree f g same xs t)

total_le : (f g : Lock → ℕ) → ((l : Lock) → f l ≤ g l) → (xs : List Lock) → total f xs ≤ total g xs
total_le f g less [] = omega arith
total_le f g less (x ∷ xs) = omega (arith, less x, total_le f g less xs)

-- ---- with one of them in a new state

total_inserted : (f : Lock → ℕ) (l : Lock) (xs : List Lock) → Rising lock_order xs → total f (inserted lock_order l xs) ≡ f l + total f (filter (λ x. not (same_id l.id x.id)) xs)
total_inserted f l [] rising = refl
total_inserted f l (x ∷ xs) rising = by (id_order l.id x.id) refl (total_inserted f l xs rising.1)
  where
    apart : id_order l.id x.id ≡ Greater → same_id l.id x.id ≡ false
    apart is = grind (arith, nat_tests, is)

    by : (o : Ordering) → id_order l.id x.id ≡ o → total f (inserted lock_order l xs) ≡ f l + total f (filter (λ y. not (same_id l.id y.id)) xs) →
        total f (inserted lock_order l (x ∷ xs)) ≡ f l + total f (filter (λ y. not (same_id l.id y.id)) (x ∷ xs))
    by Less is rest = rw is (ap (λ ys. f l + total f ys) (sym (none_gone lock_id l.id (x ∷ xs) (before lock_id l x xs rising.0 is))))
    by Equal is rest =
        let same = id_equal l.id x.id is in
        rw (is, same) (ap (λ ys. f l + total f ys) (sym (none_gone lock_id l.id xs (gone lock_id x l.id xs rising.0 same))))
    by Greater is rest =
        let other = apart is in
        rw (is, other) (omega (arith, rest))

beside_cond : (a b c : Bool) (n : ℕ) → cond (a && c) (cond (not b) n 0) 0 ≡ cond (a && (not b && c)) n 0
beside_cond true true true n = refl
beside_cond true true false n = refl
beside_cond true false true n = refl
beside_cond true false false n = refl
beside_cond false b c n = refl

total_with : (f : Lock → ℕ) (counts : Lock → Bool) (l : Lock) (xs : List Lock) → Rising lock_order xs →
    total f (standing_with counts l xs) ≡ f l + total (λ x. cond (is_beside counts l.id x) (f x) 0) xs
total_with f counts l xs rising =
    let at : Lock → Bool = λ x. x.id.level == l.id.level && counts x in
    total_inserted f l (filter at xs) (rise_filter at xs rising)
    ∙ ap (λ n. f l + n)
    (total_filter f (λ x. not (same_id l.id x.id)) (filter at xs)
    ∙ (total_filter (λ x. cond (not (same_id l.id x.id)) (f x) 0) at xs
    ∙ total_agree _ _ (λ x. beside_cond (x.id.level == l.id.level) (same_id l.id x.id) (counts x) (f x)) xs))

turned_sum : (a b : ℕ) → a + b ≡ b + a
turned_sum a b = omega arith

pub locks_with : (counts : Lock → Bool) (l : Lock) (xs : List Lock) → Rising lock_order xs → length (standing_with counts l xs) ≡ locks_beside counts l.id xs + 1
locks_with counts l xs rising =
    length_is_sum (standing_with counts l xs) ∙ (sum_is_total (λ x. 1) (standing_with counts l xs) ∙ (total_with (λ x. 1) counts l xs rising ∙ turned_sum 1 (locks_beside counts l.id xs)))

pub ranges_with : (counts : Lock → Bool) (l : Lock) (xs : List Lock) → Rising lock_order xs → sum_by (λ x. length x.ranges) (standing_with counts l xs) ≡ ranges_beside counts l.id xs + length l.ranges
ranges_with counts l xs rising =
    sum_is_total (λ x. length x.ranges) (standing_with counts l xs) ∙ (total_with (λ x. length x.ranges) counts l xs rising ∙ turned_sum (length l.ranges) (ranges_beside counts l.id xs))

-- ---- no more than all of the level

fewer_by : (a b : Bool) (n : ℕ) → cond (a && b) n 0 ≤ cond a n 0
fewer_by true true n = omega arith
fewer_by true false n = omega arith
fewer_by false b n = omega arith

locks_fewer : (counts : Lock → Bool) (i : Id) (xs : List Lock) → locks_beside counts i xs ≤ locks_at i.level xs
locks_fewer counts i xs =
    let all : locks_at i.level xs ≡ total (λ l. cond (l.id.level == i.level) 1 0) xs =
    count_is_sum (λ l. l.id.level == i.level) xs ∙ (sym (sum_filter (λ l. 1) (λ l. l.id.level == i.level) xs) ∙ sum_is_total (λ l. cond (l.id.level == i.level) 1 0) xs) in
    omega (arith, all, total_le (λ l. cond (is_beside counts i l) 1 0) (λ l. cond (l.id.level == i.level) 1 0) (λ l. fewer_by (l.id.level == i.level) (not (same_id i l.id) && counts l) 1) xs)

ranges_fewer : (counts : Lock → Bool) (i : Id) (xs : List Lock) → ranges_beside counts i xs ≤ ranges_at i.level xs
ranges_fewer counts i xs =
    let all : ranges_at i.level xs ≡ total (λ l. cond (l.id.level == i.level) (length l.ranges) 0) xs = sum_is_total (λ l. cond (l.id.level == i.level) (length l.ranges) 0) xs in
    omega (arith, all, total_le (λ l. cond (is_beside counts i l) (length l.ranges) 0) (λ l. cond (l.id.level == i.level) (length l.ranges) 0) (λ l. fewer_by (l.id.level == i.level) (not (same_id i l.id) && counts l) (length l.ranges)) xs)

-- ---- by the run of the level

level_all : (from : Key) (k : Key) → from.number ≡ 0 → (k.level == from.level) ≡ true → is_le (key_cmp from k) ≡ true
level_all from k zero same = grind (arith, nat_tests, zero, same)

pub total_of : (own : Key) (counts : Lock → Bool) (g : Lock → ℕ) (es : Rows) →
    total (λ e. cond (not (same_id (id_of own) (entry_of e).id) && counts (entry_of e)) (g (entry_of e)) 0) (filter (is_from (record { level = own.level; number = 0 })) es)
    ≡ total (λ l. cond (is_beside counts (id_of own) l) (g l) 0) (map entry_of es)
total_of own counts g [] = refl
total_of own counts g (e ∷ es) = by (e.0.level == own.level) refl (total_of own counts g es)
  where
    front : Key
    front = record { level = own.level; number = 0 }

    f : Key × LockRow → ℕ
    f x = cond (not (same_id (id_of own) (entry_of x).id) && counts (entry_of x)) (g (entry_of x)) 0

    by : (b : Bool) → (e.0.level == own.level) ≡ b →
        total f (filter (is_from front) es) ≡ total (λ l. cond (is_beside counts (id_of own) l) (g l) 0) (map entry_of es) →
        total f (filter (is_from front) (e ∷ es)) ≡ total (λ l. cond (is_beside counts (id_of own) l) (g l) 0) (map entry_of (e ∷ es))
    by true is rest =
        let le = level_all front e.0 refl is in
        rw (is, le) (ap (λ n. f e + n) rest)
    by false is rest = rw is (rest ∙ omega arith)

within : (a b n : ℕ) → a ≤ b → b < n → a < n
within a b n less few = omega (arith, less, few)

pub few_locks : (counts : Lock → Bool) (i : Id) (xs : List Lock) (n : ℕ) → locks_at i.level xs < n → locks_beside counts i xs < n
few_locks counts i xs n few = within (locks_beside counts i xs) (locks_at i.level xs) n (locks_fewer counts i xs) few

pub few_ranges : (counts : Lock → Bool) (i : Id) (xs : List Lock) (n : ℕ) → ranges_at i.level xs < n → ranges_beside counts i xs < n
few_ranges counts i xs n few = within (ranges_beside counts i xs) (ranges_at i.level xs) n (ranges_fewer counts i xs) few
