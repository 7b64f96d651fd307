-- What a level sees of locks after one of them was set and others went.
use Rattle.std.proofs.Common.{◌≡◌, ℕ, Bool, true, false, cond, not, List, [], ◌∷◌, refl, sym, ap, ◌∙◌, arith}
use Rattle.std.specs.Prelude.{filter, nat_le}
use Rattle.std.specs.List.{AllByRecursion}
use Rattle.std.proofs.lemmas.Bool.Decides.{nat_tests}
use Rattle.lnfs_world.specs.Rows.{kept, inserted, Rising}
use Rattle.lnfs_world.specs.World.{Id, level_order, last_of, is_given}
use Rattle.lnfs_world.proofs.Keys.{id_equal, id_before, level_same, level_before, level_equal}
use Rattle.lnfs_world.proofs.Rows.{filter_unseen, all_anyway}
use Rattle.lnfs_world.proofs.Sorted.{inserted_within, inserted_unseen, rising_filter}
use Rattle.lnfs_world.proofs.Views.{last_of-seen}
use Rattle.lnfs_beside.proofs.SidesLaws.{filter-both}
use Rattle.lnfs_locks.specs.Locks.{Lock, Locks, Row, lock_order, level_of, rows_of, locks_of}
use Rattle.lnfs_locks.specs.Effects.{given, is_one_of, kept_with}
use Rattle.lnfs_locks.proofs.SeenLocks.{kept_is_filter, seen_of, rows_seen}

filter_twice : {X : Type 0} (p : X → Bool) (xs : List X) → filter p (filter p xs) ≡ filter p xs
filter_twice p [] = refl
filter_twice p (x ∷ xs) = grind (arith, filter_twice p xs)

filter_turned : {X : Type 0} (p q : X → Bool) (xs : List X) → filter p (filter q xs) ≡ filter q (filter p xs)
filter_turned p q [] = refl
filter_turned p q (x ∷ xs) = grind (arith, filter_turned p q xs)

module _ (dom : ℕ → ℕ → Bool) (level : ℕ) where
  abbrev sees_id : Id → Bool
  sees_id i = dom level i.level

  abbrev sees_lock : Lock → Bool
  sees_lock l = dom level l.id.level

  abbrev sees_row : Row → Bool
  sees_row r = dom level (level_of r)

  -- what is seen of all that is kept, as rows
  pub shown_rows : (own : Locks) → filter sees_row (rows_of own) ≡ rows_of (seen_of dom level own)
  shown_rows own = filter-both sees_row own.lasts own.locks

  -- ---- where it is seen

  module _ (l : Lock) (gone : List Lock) (above : dom level l.id.level ≡ true) where
    given_seen : (lasts : List Id) → Rising level_order lasts → filter sees_id (given l.id lasts) ≡ filter sees_id (given l.id (filter sees_id lasts))
    given_seen lasts rise =
        at (is_given lasts l.id) ∙ ap (λ b. filter sees_id (cond b (filter sees_id lasts) (inserted level_order l.id (filter sees_id lasts)))) (sym same)
      where
        same : is_given (filter sees_id lasts) l.id ≡ is_given lasts l.id
        same = ap (nat_le l.id.number) (ap (last_of l.id.level) (sym (kept_is_filter sees_id lasts)) ∙ last_of-seen dom level l.id.level above lasts)

        at : (b : Bool) → filter sees_id (cond b lasts (inserted level_order l.id lasts)) ≡ filter sees_id (cond b (filter sees_id lasts) (inserted level_order l.id (filter sees_id lasts)))
        at true = sym (filter_twice sees_id lasts)
        at false =
            sym (kept_is_filter sees_id (inserted level_order l.id lasts))
            ∙ inserted_within level_order sees_id sees_id l.id (λ x e. ap (dom level) (sym (level_equal l.id x e))) (level_before l.id) lasts rise (all_anyway _ (λ x is. is) lasts)
            ∙ kept_is_filter sees_id (inserted level_order l.id (kept sees_id (λ x. x) lasts))
            ∙ ap (λ xs. filter sees_id (inserted level_order l.id xs)) (kept_is_filter sees_id lasts)

    locks_seen : (locks : List Lock) → Rising lock_order locks → filter sees_lock (inserted lock_order l (filter (λ x. not (is_one_of gone x)) locks)) ≡ filter sees_lock (inserted lock_order l (filter (λ x. not (is_one_of gone x)) (filter sees_lock locks)))
    locks_seen locks rise =
        let left = filter (λ x. not (is_one_of gone x)) locks in
        sym (kept_is_filter sees_lock (inserted lock_order l left))
        ∙ inserted_within lock_order sees_lock sees_lock l (λ x e. level_same dom level l.id x.id (id_equal l.id x.id e)) (λ a b. id_before l.id a.id b.id) left (rising_filter lock_order _ locks rise) (all_anyway _ (λ x is. is) left)
        ∙ kept_is_filter sees_lock (inserted lock_order l (kept sees_lock (λ x. x) left))
        ∙ ap (λ xs. filter sees_lock (inserted lock_order l xs)) (kept_is_filter sees_lock left ∙ filter_turned sees_lock (λ x. not (is_one_of gone x)) locks)

    -- what is seen of it all afterwards is determined by what was seen
    seen_after : (own : Locks) → Rising level_order own.lasts → Rising lock_order own.locks → seen_of dom level (kept_with l gone own) ≡ seen_of dom level (kept_with l gone (seen_of dom level own))
    seen_after own lasts_rise rise = λ k. record { lasts = given_seen own.lasts lasts_rise k; locks = locks_seen own.locks rise k }

    pub rows_determined : (a b : List Row) → Rising level_order (locks_of a).lasts → Rising lock_order (locks_of a).locks → Rising level_order (locks_of b).lasts → Rising lock_order (locks_of b).locks →
        filter sees_row a ≡ filter sees_row b → filter sees_row (rows_of (kept_with l gone (locks_of a))) ≡ filter sees_row (rows_of (kept_with l gone (locks_of b)))
    rows_determined a b la ra lb rb e =
        let same : seen_of dom level (locks_of a) ≡ seen_of dom level (locks_of b) = sym (rows_seen dom level a) ∙ ap locks_of e ∙ rows_seen dom level b in
        shown_rows (kept_with l gone (locks_of a))
        ∙ ap rows_of (seen_after (locks_of a) la ra ∙ ap (λ (own : Locks). seen_of dom level (kept_with l gone own)) same ∙ sym (seen_after (locks_of b) lb rb))
        ∙ sym (shown_rows (kept_with l gone (locks_of b)))

  -- ---- where it isn't

  -- one that is seen isn't one of those that aren't
  not_gone : (gone : List Lock) (x : Lock) → AllByRecursion (λ g. dom level g.id.level ≡ false) gone → dom level x.id.level ≡ true → not (is_one_of gone x) ≡ true
  not_gone [] x hidden seen = refl
  not_gone (g ∷ gone) x hidden seen =
      let other = hidden.0 in
      let rest = not_gone gone x hidden.1 seen in
      grind (arith, nat_tests, other, seen, rest)

  module _ (l : Lock) (gone : List Lock) (apart : dom level l.id.level ≡ false) (hidden : AllByRecursion (λ g. dom level g.id.level ≡ false) gone) where
    given_unseen : (lasts : List Id) → filter sees_id (given l.id lasts) ≡ filter sees_id lasts
    given_unseen lasts = at (is_given lasts l.id)
      where
        at : (b : Bool) → filter sees_id (cond b lasts (inserted level_order l.id lasts)) ≡ filter sees_id lasts
        at true = refl
        at false =
            sym (kept_is_filter sees_id (inserted level_order l.id lasts))
            ∙ inserted_unseen level_order sees_id (λ x. x) l.id (λ x e. ap (dom level) (sym (level_equal l.id x e))) apart lasts
            ∙ kept_is_filter sees_id lasts

    locks_unseen : (locks : List Lock) → filter sees_lock (inserted lock_order l (filter (λ x. not (is_one_of gone x)) locks)) ≡ filter sees_lock locks
    locks_unseen locks =
        let left = filter (λ x. not (is_one_of gone x)) locks in
        sym (kept_is_filter sees_lock (inserted lock_order l left))
        ∙ inserted_unseen lock_order sees_lock (λ x. x) l (λ x e. level_same dom level l.id x.id (id_equal l.id x.id e)) apart left
        ∙ filter_unseen sees_lock (λ x. x) (λ x. not (is_one_of gone x)) locks (all_anyway _ (λ x seen. not_gone gone x hidden seen) locks)
        ∙ kept_is_filter sees_lock locks

    pub rows_unseen : (own : Locks) → filter sees_row (rows_of (kept_with l gone own)) ≡ filter sees_row (rows_of own)
    rows_unseen own = shown_rows (kept_with l gone own) ∙ (λ k. rows_of (record { lasts = given_unseen own.lasts k; locks = locks_unseen own.locks k })) ∙ sym (shown_rows own)
