-- Client records stay indexed where one is entered, or gets another state.
use Rattle.std.proofs.Common.{◌≡◌, ◌≤◌, ℕ, Bool, true, false, cond, List, Option, Some, None, inl, inr, refl, sym, ap, ◌∙◌, subst, arith}
use Rattle.std.specs.Prelude.{◌+◌, ◌<◌, ◌==◌, ◌&&◌, ◌⊎◌}
use Rattle.std.specs.Str.{bytes_eq}
use Rattle.std.proofs.lemmas.Bool.{false≢true}
use Rattle.std.proofs.lemmas.Bool.Decides.{nat_tests}
use Rattle.lnfs_world.specs.Rows.{inserted}
use Rattle.lnfs_world.specs.World.{Id, Client, client_order, level_order, same_id, client_at}
use Rattle.lnfs_world.specs.Facts.{same_flag}
use Rattle.lnfs_world.proofs.Keys.{id_same, bytes_itself}
use Rattle.lnfs_world.proofs.KeptClients.{client_at-inserted}
use Rattle.lnfs_counts.proofs.Rows.{found_id}
use Rattle.lnfs_counts.proofs.Counted as counting
use Rattle.lnfs_counts.proofs.Counted.{with_number}
use Rattle.lnfs_session.specs.declared.levels.OwnerNumbers.{OwnerNumbers}
use Rattle.lnfs_session.specs.Levels.{number_by, put_number}
use Rattle.lnfs_session.specs.Standing.{clients_set}
use Rattle.lnfs_session.specs.Indexed.{own_id, IsIndexed, is_record_of}
use Rattle.lnfs_session.proofs.Reindexed.{with_numbers, keyed, flags_same}

put-own : (a b : Bool) (number : ℕ) (n : OwnerNumbers) → same_flag a b ≡ true → number_by a (put_number b number n) ≡ Some number
put-own true true number n is = refl
put-own true false number n is = absurd (false≢true is)
put-own false true number n is = absurd (false≢true is)
put-own false false number n is = refl

put-other : (a b : Bool) (number : ℕ) (n : OwnerNumbers) → same_flag a b ≡ false → number_by a (put_number b number n) ≡ number_by a n
put-other true true number n is = absurd (false≢true (sym is))
put-other true false number n is = refl
put-other false true number n is = refl
put-other false false number n is = absurd (false≢true (sym is))

flag_itself : (b : Bool) → same_flag b b ≡ true
flag_itself true = refl
flag_itself false = refl

module _ (rows : List Client) (lasts : List Id) (last records : ℕ → ℕ) (numbers : ℕ → List ℕ → OwnerNumbers) (ix : IsIndexed rows lasts last records numbers) (row : Client) where
  abbrev new : List Client
  new = inserted client_order row rows

  at_own : (j : Id) → same_id j row.id ≡ true → client_at new j ≡ Some row
  at_own j is = client_at-inserted row rows j ∙ ap (λ b. cond b (Some row) (client_at rows j)) is

  at_other : (j : Id) → same_id j row.id ≡ false → client_at new j ≡ client_at rows j
  at_other j is = client_at-inserted row rows j ∙ ap (λ b. cond b (Some row) (client_at rows j)) is

  -- what is found is the row, or was found before
  found_in : (j : Id) (d : Client) → client_at new j ≡ Some d → ((j ≡ row.id) × (d ≡ row)) ⊎ ((same_id j row.id ≡ false) × (client_at rows j ≡ Some d))
  found_in j d at = by (same_id j row.id) refl
    where
      by : (b : Bool) → same_id j row.id ≡ b → ((j ≡ row.id) × (d ≡ row)) ⊎ ((same_id j row.id ≡ false) × (client_at rows j ≡ Some d))
      by true is = let own = at_own j is in let same : d ≡ row = cc in inl (id_same j row.id is, same)
      by false is = inr (is, sym (at_other j is) ∙ at)

  own_key : (row.id.level == row.id.level && bytes_eq row.owner row.owner) ≡ true
  own_key = grind (arith, nat_tests, bytes_itself row.owner)

  -- what holds of each row, by its identifier
  by_row : (P : Id → Client → Type 0) → P row.id row → ((j : Id) (d : Client) → same_id j row.id ≡ false → client_at rows j ≡ Some d → P j d) → (j : Id) (d : Client) → client_at new j ≡ Some d → P j d
  by_row P own other j d at = by (found_in j d at)
    where
      by : ((j ≡ row.id) × (d ≡ row)) ⊎ ((same_id j row.id ≡ false) × (client_at rows j ≡ Some d)) → P j d
      by (inl is) = subst (λ (x : Id × Client). P x.0 x.1) (λ t. (sym is.0 t, sym is.1 t)) own
      by (inr is) = other j d is.0 is.1

  -- what holds of what is found at an identifier
  by_place : (P : Option Client → Type 0) (j : Id) → (same_id j row.id ≡ true → P (Some row)) → (same_id j row.id ≡ false → P (client_at rows j)) → P (client_at new j)
  by_place P j own other = by (same_id j row.id) refl
    where
      by : (b : Bool) → same_id j row.id ≡ b → P (client_at new j)
      by true is = subst P (sym (at_own j is)) (own is)
      by false is = subst P (sym (at_other j is)) (other is)

  -- ---- another state of a record

  module _ (c : Client) (found : client_at rows row.id ≡ Some c) where
    -- one by which its owner's records stay
    pub kept : row.owner ≡ c.owner → row.confirmed ≡ c.confirmed → IsIndexed new lasts last records numbers
    kept owner confirmed = record {
      counted = counting.set own_id rows lasts last records ix.counted row c found;
      filed = by_row (λ j d. number_by d.confirmed (numbers j.level d.owner) ≡ Some j.number) ((λ t. number_by (confirmed t) (numbers row.id.level (owner t))) ∙ ix.filed row.id c found) (λ j d is at. ix.filed j d at);
      there = λ level o flag number known.
          let j : Id = record { level = level; number = number } in
          by_place (λ x. is_record_of o flag x ≡ true) j
          (λ is. (λ t. bytes_eq (owner t) o && same_flag (confirmed t) flag) ∙ sym (ap (is_record_of o flag) (ap (client_at rows) (id_same j row.id is) ∙ found)) ∙ ix.there level o flag number known)
          (λ is. ix.there level o flag number known);
      few = ix.few;
    }

    -- its owner's pending one is confirmed
    module _ (owner : row.owner ≡ c.owner) (pending : c.confirmed ≡ false) (is_confirmed : row.confirmed ≡ true) (none : (numbers row.id.level row.owner).confirmed ≡ None) where
      abbrev Confirmed : ℕ → List ℕ → OwnerNumbers
      Confirmed = with_numbers row.id.level row.owner (record { pending = None; confirmed = Some row.id.number }) numbers

      was : (numbers row.id.level row.owner).pending ≡ Some row.id.number
      was = (λ t. number_by (sym pending t) (numbers row.id.level (owner t))) ∙ ix.filed row.id c found

      filed_other : (j : Id) (d : Client) → same_id j row.id ≡ false → client_at rows j ≡ Some d → number_by d.confirmed (Confirmed j.level d.owner) ≡ Some j.number
      filed_other j d is at = by (row.id.level == j.level && bytes_eq row.owner d.owner) d.confirmed refl refl (ix.filed j d at)
        where
          by : (key flag : Bool) → (row.id.level == j.level && bytes_eq row.owner d.owner) ≡ key → d.confirmed ≡ flag → number_by d.confirmed (numbers j.level d.owner) ≡ Some j.number → number_by d.confirmed (cond key (record { pending = None; confirmed = Some row.id.number }) (numbers j.level d.owner)) ≡ Some j.number
          by false flag key is_flag old = old
          by true true key is_flag old =
              let k = keyed row.id.level j.level row.owner d.owner key in
              let here : (numbers row.id.level row.owner).confirmed ≡ Some j.number = (λ t. number_by (sym is_flag t) (numbers (k.0 t) (k.1 t))) ∙ old in
              absurd (cc)
          by true false key is_flag old =
              let k = keyed row.id.level j.level row.owner d.owner key in
              let here : (numbers row.id.level row.owner).pending ≡ Some j.number = (λ t. number_by (sym is_flag t) (numbers (k.0 t) (k.1 t))) ∙ old in
              let number : j.number ≡ row.id.number = let mine = was in cc in
              let level = k.0 in
              absurd (false≢true (sym is ∙ grind (arith, nat_tests, level, number)))

      there_confirmed : (level : ℕ) (o : List ℕ) (flag : Bool) (number : ℕ) → number_by flag (Confirmed level o) ≡ Some number → is_record_of o flag (client_at new (record { level = level; number = number })) ≡ true
      there_confirmed level o flag number = by (row.id.level == level && bytes_eq row.owner o) flag refl
        where
          j : Id
          j = record { level = level; number = number }

          by : (key flag : Bool) → (row.id.level == level && bytes_eq row.owner o) ≡ key → number_by flag (cond key (record { pending = None; confirmed = Some row.id.number }) (numbers level o)) ≡ Some number → is_record_of o flag (client_at new j) ≡ true
          by false flag key known = by_place (λ x. is_record_of o flag x ≡ true) j
              (λ is.
              let old : is_record_of o flag (Some c) ≡ true = sym (ap (is_record_of o flag) (ap (client_at rows) (id_same j row.id is) ∙ found)) ∙ ix.there level o flag number known in
              let same : bytes_eq row.owner o ≡ true = ap (λ x. bytes_eq x o) owner ∙ grind (arith, nat_tests, old) in
              absurd (false≢true (sym key ∙ grind (arith, nat_tests, is, same))))
              (λ is. ix.there level o flag number known)
          by true true key known =
              let k = keyed row.id.level level row.owner o key in
              let number_is : row.id.number ≡ number = cc in
              let level_is = k.0 in
              ap (is_record_of o true) (at_own j (grind (arith, nat_tests, level_is, number_is))) ∙ (λ t. bytes_eq row.owner (sym k.1 t) && same_flag (is_confirmed t) true) ∙ grind (arith, nat_tests, bytes_itself row.owner)
          by true false key known = absurd (cc)

      pub confirmed : IsIndexed new lasts last records Confirmed
      confirmed = record {
        counted = counting.set own_id rows lasts last records ix.counted row c found;
        filed = by_row (λ j d. number_by d.confirmed (Confirmed j.level d.owner) ≡ Some j.number)
            ((λ t. number_by (is_confirmed t) (cond (own_key t) (record { pending = None; confirmed = Some row.id.number }) (numbers row.id.level row.owner)))) filed_other;
        there = there_confirmed;
        few = ix.few;
      }

  -- ---- a new record of an owner that has none that is pending

  module _ (pending : row.confirmed ≡ false) (next : row.id.number ≡ last row.id.level + 1) (none : (numbers row.id.level row.owner).pending ≡ None) where
    abbrev N : OwnerNumbers
    N = record (numbers row.id.level row.owner) { pending = Some row.id.number }

    abbrev Added : ℕ → List ℕ → OwnerNumbers
    Added = with_numbers row.id.level row.owner N numbers

    pub absent : client_at rows row.id ≡ None
    absent = counting.absent own_id rows lasts last records ix.counted row next

    filed_beside : (j : Id) (d : Client) → same_id j row.id ≡ false → client_at rows j ≡ Some d → number_by d.confirmed (Added j.level d.owner) ≡ Some j.number
    filed_beside j d is at = by (row.id.level == j.level && bytes_eq row.owner d.owner) d.confirmed refl refl (ix.filed j d at)
      where
        by : (key flag : Bool) → (row.id.level == j.level && bytes_eq row.owner d.owner) ≡ key → d.confirmed ≡ flag → number_by d.confirmed (numbers j.level d.owner) ≡ Some j.number → number_by d.confirmed (cond key N (numbers j.level d.owner)) ≡ Some j.number
        by false flag key is_flag old = old
        by true true key is_flag old =
            let k = keyed row.id.level j.level row.owner d.owner key in
            (λ t. number_by (is_flag t) N) ∙ (λ t. number_by (sym is_flag t) (numbers (k.0 t) (k.1 t))) ∙ old
        by true false key is_flag old =
            let k = keyed row.id.level j.level row.owner d.owner key in
            let here : (numbers row.id.level row.owner).pending ≡ Some j.number = (λ t. number_by (sym is_flag t) (numbers (k.0 t) (k.1 t))) ∙ old in
            absurd (cc)

    there_added : (level : ℕ) (o : List ℕ) (flag : Bool) (number : ℕ) → number_by flag (Added level o) ≡ Some number → is_record_of o flag (client_at new (record { level = level; number = number })) ≡ true
    there_added level o flag number = by (row.id.level == level && bytes_eq row.owner o) flag refl
      where
        j : Id
        j = record { level = level; number = number }

        old : (flag : Bool) → number_by flag (numbers level o) ≡ Some number → is_record_of o flag (client_at new j) ≡ true
        old flag known = by_place (λ x. is_record_of o flag x ≡ true) j
            (λ is. absurd (false≢true (sym (ap (is_record_of o flag) (ap (client_at rows) (id_same j row.id is) ∙ absent)) ∙ ix.there level o flag number known)))
            (λ is. ix.there level o flag number known)

        by : (key flag : Bool) → (row.id.level == level && bytes_eq row.owner o) ≡ key → number_by flag (cond key N (numbers level o)) ≡ Some number → is_record_of o flag (client_at new j) ≡ true
        by false flag key known = old flag known
        by true true key known =
            let k = keyed row.id.level level row.owner o key in
            old true ((λ t. (numbers (sym k.0 t) (sym k.1 t)).confirmed) ∙ known)
        by true false key known =
            let k = keyed row.id.level level row.owner o key in
            let number_is : row.id.number ≡ number = cc in
            let level_is = k.0 in
            ap (is_record_of o false) (at_own j (grind (arith, nat_tests, level_is, number_is))) ∙ (λ t. bytes_eq row.owner (sym k.1 t) && same_flag (pending t) false) ∙ grind (arith, nat_tests, bytes_itself row.owner)

    few_added : (level : ℕ) → with_number row.id.level (records row.id.level + 1) records level ≤ with_number row.id.level row.id.number last level
    few_added level = by (row.id.level == level)
      where
        by : (b : Bool) → cond b (records row.id.level + 1) (records level) ≤ cond b row.id.number (last level)
        by true = omega (arith, next, ix.few row.id.level)
        by false = ix.few level

    pub added : IsIndexed new (inserted level_order row.id lasts) (with_number row.id.level row.id.number last) (with_number row.id.level (records row.id.level + 1) records) Added
    added = record {
      counted = counting.added own_id rows lasts last records ix.counted row next;
      filed = by_row (λ j d. number_by d.confirmed (Added j.level d.owner) ≡ Some j.number) (λ t. number_by (pending t) (cond (own_key t) N (numbers row.id.level row.owner))) filed_beside;
      there = there_added;
      few = few_added;
    }

  -- ---- a record of an owner that has none that is confirmed, or pending, as it is. Its number was given before

  module _ (fresh : client_at rows row.id ≡ None) (given : row.id.number ≤ last row.id.level) (left : records row.id.level < last row.id.level) (none : number_by row.confirmed (numbers row.id.level row.owner) ≡ None) where
    abbrev Own : OwnerNumbers
    Own = put_number row.confirmed row.id.number (numbers row.id.level row.owner)

    abbrev Filed : ℕ → List ℕ → OwnerNumbers
    Filed = with_numbers row.id.level row.owner Own numbers

    filed_others : (j : Id) (d : Client) → same_id j row.id ≡ false → client_at rows j ≡ Some d → number_by d.confirmed (Filed j.level d.owner) ≡ Some j.number
    filed_others j d is at = by (row.id.level == j.level && bytes_eq row.owner d.owner) (same_flag d.confirmed row.confirmed) refl refl (ix.filed j d at)
      where
        by : (key flag : Bool) → (row.id.level == j.level && bytes_eq row.owner d.owner) ≡ key → same_flag d.confirmed row.confirmed ≡ flag → number_by d.confirmed (numbers j.level d.owner) ≡ Some j.number → number_by d.confirmed (cond key Own (numbers j.level d.owner)) ≡ Some j.number
        by false flag key same old = old
        by true true key same old =
            let k = keyed row.id.level j.level row.owner d.owner key in
            let here : number_by row.confirmed (numbers row.id.level row.owner) ≡ Some j.number = (λ t. number_by (sym (flags_same d.confirmed row.confirmed same) t) (numbers (k.0 t) (k.1 t))) ∙ old in
            absurd (cc)
        by true false key same old =
            let k = keyed row.id.level j.level row.owner d.owner key in
            put-other d.confirmed row.confirmed row.id.number (numbers row.id.level row.owner) same ∙ (λ t. number_by d.confirmed (numbers (k.0 t) (k.1 t))) ∙ old

    there_filed : (level : ℕ) (o : List ℕ) (flag : Bool) (number : ℕ) → number_by flag (Filed level o) ≡ Some number → is_record_of o flag (client_at new (record { level = level; number = number })) ≡ true
    there_filed level o flag number = by (row.id.level == level && bytes_eq row.owner o) (same_flag flag row.confirmed) refl refl
      where
        j : Id
        j = record { level = level; number = number }

        old : number_by flag (numbers level o) ≡ Some number → is_record_of o flag (client_at new j) ≡ true
        old known = by_place (λ x. is_record_of o flag x ≡ true) j
            (λ is. absurd (false≢true (sym (ap (is_record_of o flag) (ap (client_at rows) (id_same j row.id is) ∙ fresh)) ∙ ix.there level o flag number known)))
            (λ is. ix.there level o flag number known)

        by : (key own : Bool) → (row.id.level == level && bytes_eq row.owner o) ≡ key → same_flag flag row.confirmed ≡ own → number_by flag (cond key Own (numbers level o)) ≡ Some number → is_record_of o flag (client_at new j) ≡ true
        by false own key same known = old known
        by true false key same known =
            let k = keyed row.id.level level row.owner o key in
            old ((λ t. number_by flag (numbers (sym k.0 t) (sym k.1 t))) ∙ sym (put-other flag row.confirmed row.id.number (numbers row.id.level row.owner) same) ∙ known)
        by true true key same known =
            let k = keyed row.id.level level row.owner o key in
            let put : number_by flag Own ≡ Some row.id.number = put-own flag row.confirmed row.id.number (numbers row.id.level row.owner) same in
            let number_is : row.id.number ≡ number = cc in
            let level_is = k.0 in
            ap (is_record_of o flag) (at_own j (grind (arith, nat_tests, level_is, number_is))) ∙ (λ t. bytes_eq row.owner (sym k.1 t) && same_flag row.confirmed (flags_same flag row.confirmed same t)) ∙ grind (arith, bytes_itself row.owner, flag_itself row.confirmed)

    few_filed : (level : ℕ) → with_number row.id.level (records row.id.level + 1) records level ≤ last level
    few_filed level = by (row.id.level == level) refl
      where
        by : (b : Bool) → (row.id.level == level) ≡ b → cond b (records row.id.level + 1) (records level) ≤ last level
        by true is =
            let same : row.id.level ≡ level = grind (arith, nat_tests) in
            omega (arith, left, ap last same)
        by false is = ix.few level

    pub filed_given : IsIndexed new lasts last (with_number row.id.level (records row.id.level + 1) records) Filed
    filed_given = record {
      counted = counting.added_given own_id rows lasts last records ix.counted row fresh given;
      filed = by_row (λ j d. number_by d.confirmed (Filed j.level d.owner) ≡ Some j.number) ((λ t. number_by row.confirmed (cond (own_key t) Own (numbers row.id.level row.owner))) ∙ put-own row.confirmed row.confirmed row.id.number (numbers row.id.level row.owner) (flag_itself row.confirmed)) filed_others;
      there = there_filed;
      few = few_filed;
    }

-- a state that keeps what its owner is found by
pub set_kept : (rows : List Client) (lasts : List Id) (last records : ℕ → ℕ) (numbers : ℕ → List ℕ → OwnerNumbers) → IsIndexed rows lasts last records numbers → (g : Client → Client) → ((c : Client) → (g c).id ≡ c.id) → ((c : Client) → (g c).owner ≡ c.owner) → ((c : Client) → (g c).confirmed ≡ c.confirmed) → (i : Id) → IsIndexed (clients_set g (client_at rows i) rows) lasts last records numbers
set_kept rows lasts last records numbers ix g id owner confirmed i = by (client_at rows i) refl
  where
    by : (o : Option Client) → client_at rows i ≡ o → IsIndexed (clients_set g o rows) lasts last records numbers
    by None is = ix
    by (Some c) is =
        let own : (g c).id ≡ i = id c ∙ sym (id_same i c.id (found_id own_id rows i c is)) in
        kept rows lasts last records numbers ix (g c) c (ap (client_at rows) own ∙ is) (owner c) (confirmed c)
