-- Client records stay indexed where one of them changes, and what is kept of its owner with it.
use Rattle.std.proofs.Common.{◌≡◌, ◌≤◌, ℕ, Bool, true, false, cond, not, List, Some, None, refl, sym, ap, ◌∙◌, subst, arith}
use Rattle.std.specs.Prelude.{◌-◌, ◌==◌, ◌&&◌, filter}
use Rattle.std.specs.Str.{bytes_eq}
use Rattle.std.proofs.lemmas.Bool.{false≢true}
use Rattle.std.proofs.lemmas.Bool.Decides.{nat_tests}
use Rattle.lnfs_world.specs.World.{Id, Client, same_id, client_at}
use Rattle.lnfs_world.specs.Facts.{same_flag}
use Rattle.lnfs_world.proofs.Keys.{id_same, bytes_same}
use Rattle.lnfs_world.proofs.KeptClients.{client_at-dropped}
use Rattle.lnfs_counts.proofs.Rows.{found_id}
use Rattle.lnfs_counts.proofs.Counted as counting
use Rattle.lnfs_counts.proofs.Counted.{with_number}
use Rattle.lnfs_session.specs.declared.levels.OwnerNumbers.{OwnerNumbers}
use Rattle.lnfs_session.specs.Levels.{number_by, cleared}
use Rattle.lnfs_session.specs.Indexed.{own_id, IsIndexed, is_record_of}

-- numbers of a level, with those of one owner changed
abbrev pub with_numbers : ℕ → List ℕ → OwnerNumbers → (ℕ → List ℕ → OwnerNumbers) → ℕ → List ℕ → OwnerNumbers
with_numbers level owner new numbers l o = cond (level == l && bytes_eq owner o) new (numbers l o)

pub keyed : (level l : ℕ) (owner o : List ℕ) → (level == l && bytes_eq owner o) ≡ true → (level ≡ l) × (owner ≡ o)
keyed level l owner o is = (grind (arith, nat_tests, is), bytes_same owner o (grind (arith, nat_tests, is)))

cleared-own : (a b : Bool) (n : OwnerNumbers) → same_flag a b ≡ true → number_by a (cleared b n) ≡ None
cleared-own true true n is = refl
cleared-own true false n is = absurd (false≢true is)
cleared-own false true n is = absurd (false≢true is)
cleared-own false false n is = refl

cleared-other : (a b : Bool) (n : OwnerNumbers) → same_flag a b ≡ false → number_by a (cleared b n) ≡ number_by a n
cleared-other true true n is = absurd (false≢true (sym is))
cleared-other true false n is = refl
cleared-other false true n is = refl
cleared-other false false n is = absurd (false≢true (sym is))

pub flags_same : (a b : Bool) → same_flag a b ≡ true → a ≡ b
flags_same true true is = refl
flags_same true false is = absurd (false≢true is)
flags_same false true is = absurd (false≢true is)
flags_same false false is = refl

module _ (rows : List Client) (lasts : List Id) (last records : ℕ → ℕ) (numbers : ℕ → List ℕ → OwnerNumbers) (ix : IsIndexed rows lasts last records numbers) where
  -- ---- what is told in the same way

  pub same : (rows' : List Client) (lasts' : List Id) (last' records' : ℕ → ℕ) (numbers' : ℕ → List ℕ → OwnerNumbers) → rows' ≡ rows → lasts' ≡ lasts → ((l : ℕ) → last' l ≡ last l) → ((l : ℕ) → records' l ≡ records l) → ((l : ℕ) (o : List ℕ) → numbers' l o ≡ numbers l o) → IsIndexed rows' lasts' last' records' numbers'
  same rows' lasts' last' records' numbers' r ls la re nu = subst (λ (X : Type 0). X) (λ i. IsIndexed (sym r i) (sym ls i) (λ l. sym (la l) i) (λ l. sym (re l) i) (λ l o. sym (nu l o) i)) ix

  -- ---- a record goes

  module _ (i : Id) (c : Client) (found : client_at rows i ≡ Some c) where
    own : c.id ≡ i
    own = sym (id_same i c.id (found_id own_id rows i c found))

    abbrev N : OwnerNumbers
    N = numbers i.level c.owner

    abbrev left : List Client
    left = filter (λ d. not (same_id i d.id)) rows

    abbrev Left : ℕ → List ℕ → OwnerNumbers
    Left = with_numbers i.level c.owner (cleared c.confirmed N) numbers

    -- what is left was there, under another identifier
    was : (j : Id) (d : Client) → client_at left j ≡ Some d → (same_id j i ≡ false) × (client_at rows j ≡ Some d)
    was j d at = by (same_id j i) refl (sym (client_at-dropped i rows j) ∙ at)
      where
        by : (b : Bool) → same_id j i ≡ b → cond b None (client_at rows j) ≡ Some d → (same_id j i ≡ false) × (client_at rows j ≡ Some d)
        by true is e = absurd (cc)
        by false is e = (is, e)

    stays : (j : Id) → same_id j i ≡ false → client_at left j ≡ client_at rows j
    stays j is = client_at-dropped i rows j ∙ ap (λ b. cond b None (client_at rows j)) is

    filed-left : (j : Id) (d : Client) → client_at left j ≡ Some d → number_by d.confirmed (Left j.level d.owner) ≡ Some j.number
    filed-left j d at = by (i.level == j.level && bytes_eq c.owner d.owner) (same_flag d.confirmed c.confirmed) refl refl
      where
        before : number_by d.confirmed (numbers j.level d.owner) ≡ Some j.number
        before = ix.filed j d (was j d at).1

        by : (key flag : Bool) → (i.level == j.level && bytes_eq c.owner d.owner) ≡ key → same_flag d.confirmed c.confirmed ≡ flag → number_by d.confirmed (cond key (cleared c.confirmed N) (numbers j.level d.owner)) ≡ Some j.number
        by false flag key is = before
        by true false key is =
            let k = keyed i.level j.level c.owner d.owner key in
            cleared-other d.confirmed c.confirmed N is ∙ (λ t. number_by d.confirmed (numbers (k.0 t) (k.1 t))) ∙ before
        by true true key is =
            let k = keyed i.level j.level c.owner d.owner key in
            let mine : number_by d.confirmed (numbers j.level d.owner) ≡ Some i.number = (λ t. number_by (flags_same d.confirmed c.confirmed is t) (numbers (sym k.0 t) (sym k.1 t))) ∙ ix.filed i c found in
            let number : j.number ≡ i.number = let other = before in cc in
            let level = k.0 in
            absurd (false≢true (sym (was j d at).0 ∙ grind (arith, nat_tests, level, number)))

    there-left : (level : ℕ) (owner : List ℕ) (confirmed : Bool) (number : ℕ) → number_by confirmed (Left level owner) ≡ Some number → is_record_of owner confirmed (client_at left (record { level = level; number = number })) ≡ true
    there-left level owner confirmed number = by (i.level == level && bytes_eq c.owner owner) (same_flag confirmed c.confirmed) refl refl
      where
        j : Id
        j = record { level = level; number = number }

        -- another record than the one that goes
        other : (number_by confirmed (numbers level owner) ≡ Some number) → (same_id j i ≡ true → is_record_of owner confirmed (Some c) ≡ false) → is_record_of owner confirmed (client_at left j) ≡ true
        other known apart = at (same_id j i) refl
          where
            at : (b : Bool) → same_id j i ≡ b → is_record_of owner confirmed (client_at left j) ≡ true
            at false is = ap (is_record_of owner confirmed) (stays j is) ∙ ix.there level owner confirmed number known
            at true is = absurd (false≢true (sym (apart is) ∙ sym (ap (is_record_of owner confirmed) (ap (client_at rows) (id_same j i is) ∙ found)) ∙ ix.there level owner confirmed number known))

        by : (key flag : Bool) → (i.level == level && bytes_eq c.owner owner) ≡ key → same_flag confirmed c.confirmed ≡ flag → number_by confirmed (cond key (cleared c.confirmed N) (numbers level owner)) ≡ Some number → is_record_of owner confirmed (client_at left j) ≡ true
        by false flag key is known = other known (λ at. grind (arith, nat_tests, key, at))
        by true false key is known =
            let k = keyed i.level level c.owner owner key in
            other ((λ t. number_by confirmed (numbers (sym k.0 t) (sym k.1 t))) ∙ sym (cleared-other confirmed c.confirmed N is) ∙ known) (λ at. grind (arith, is))
        by true true key is known = absurd (let gone = cleared-own confirmed c.confirmed N is in cc)

    few-left : (level : ℕ) → with_number i.level (records i.level - 1) records level ≤ last level
    few-left level = by (i.level == level) refl
      where
        by : (b : Bool) → (i.level == level) ≡ b → cond b (records i.level - 1) (records level) ≤ last level
        by true is =
            let same : i.level ≡ level = grind (arith, nat_tests) in
            omega (arith, ix.few level, ap records same)
        by false is = ix.few level

    pub dropped : IsIndexed left lasts last (with_number i.level (records i.level - 1) records) Left
    dropped = record {
      counted = counting.dropped own_id rows lasts last records ix.counted i c found;
      filed = filed-left;
      there = there-left;
      few = few-left;
    }
