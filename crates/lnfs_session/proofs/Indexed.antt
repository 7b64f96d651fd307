-- Client records are found by what is kept to find them.
use Rattle.std.proofs.Common.{◌≡◌, ℕ, Bool, true, false, cond, not, List, [], ◌∷◌, Option, Some, None, refl, sym, ap, ◌∙◌, subst, arith}
use Rattle.std.specs.Prelude.{◌+◌, length, ◌==◌, ◌&&◌, find, filter, count_by, is_some, option_map}
use Rattle.std.specs.List.{AllByRecursion}
use Rattle.std.specs.Str.{bytes_eq}
use Rattle.std.proofs.lemmas.Bool.Decides.{nat_tests}
use Rattle.std.proofs.lemmas.Bool.{false≢true}
use Rattle.std.proofs.lemmas.List.Sums.{length-filter}
use Rattle.lnfs_world.specs.Rows.{Rising}
use Rattle.lnfs_world.specs.World.{Id, Client, client_order, same_id, client_at}
use Rattle.lnfs_world.proofs.Rows.{all_weaker}
use Rattle.lnfs_world.proofs.Keys.{id_same, bytes_same, bytes_itself}
use Rattle.lnfs_counts.proofs.Rows.{each_at, found_id, passing, none_passes, one_passes, gone}
use Rattle.lnfs_counts.proofs.Counts.{counts}
use Rattle.lnfs_operations.specs.ExchangeId.{is_pending, is_confirmed_as, others_of}
use Rattle.lnfs_session.specs.declared.levels.OwnerNumbers.{OwnerNumbers}
use Rattle.lnfs_session.specs.Levels.{number_by, without}
use Rattle.lnfs_session.specs.Indexed.{own_id, IsIndexed, is_record_of}

-- ---- counts

-- rows of which none passes a test
length-none : (p q : Client → Bool) (rows : List Client) → find q rows ≡ None → length (filter (λ c. p c && not (q c)) rows) ≡ length (filter p rows)
length-none p q [] none = refl
length-none p q (x ∷ xs) none = grind (arith, length-none p q xs)

count-none : (p q : Client → Bool) (rows : List Client) → find q rows ≡ None → count_by (λ c. p c && not (q c)) rows ≡ count_by p rows
count-none p q rows none = counts _ rows ∙ length-none p q rows none ∙ length-filter p rows

-- rows of which one passes both tests, by its identifier
length-one : (p q : Client → Bool) (i : Id) (rows : List Client) → Rising client_order rows → AllByRecursion (λ c. (p c && q c) ≡ same_id i c.id) rows → length (filter (λ c. p c && not (q c)) rows) + cond (is_some (client_at rows i)) 1 0 ≡ length (filter p rows)
length-one p q i [] rising all = refl
length-one p q i (x ∷ xs) rising all = by (same_id i x.id) refl (length-one p q i xs rising.1 all.1)
  where
    by : (b : Bool) → same_id i x.id ≡ b → length (filter (λ c. p c && not (q c)) xs) + cond (is_some (client_at xs i)) 1 0 ≡ length (filter p xs) → length (filter (λ c. p c && not (q c)) (x ∷ xs)) + cond (is_some (client_at (x ∷ xs) i)) 1 0 ≡ length (filter p (x ∷ xs))
    by true is rest = grind (arith, is, all.0, gone own_id x i xs rising.0 is)
    by false is rest = grind (arith, is, all.0)

count-but_one : (p q : Client → Bool) (i : Id) (rows : List Client) → Rising client_order rows → (c : Client) → client_at rows i ≡ Some c → AllByRecursion (λ c. (p c && q c) ≡ same_id i c.id) rows → count_by (λ c. p c && not (q c)) rows + 1 ≡ count_by p rows
count-but_one p q i rows rising c found all =
    let one = length-one p q i rows rising all in
    omega (arith, one, counts p rows, counts (λ c. p c && not (q c)) rows, ap {B = ℕ} (λ (o : Option Client). cond (is_some o) 1 0) found)

-- ---- rows that are indexed

abbrev pub at_number : List Client → ℕ → Option ℕ → Option Client
at_number rows level None = None
at_number rows level (Some number) = client_at rows (record { level = level; number = number })

module _ (rows : List Client) (lasts : List Id) (last records : ℕ → ℕ) (numbers : ℕ → List ℕ → OwnerNumbers) (ix : IsIndexed rows lasts last records numbers) where
  -- what a test asks of a row
  abbrev pub IsOf : ℕ → List ℕ → Bool → Client → Type 0
  IsOf level owner confirmed c = (c.id.level ≡ level) × (c.owner ≡ owner) × (c.confirmed ≡ confirmed)

  filed_as : (level : ℕ) (owner : List ℕ) (confirmed : Bool) (c : Client) → client_at rows c.id ≡ Some c → IsOf level owner confirmed c → number_by confirmed (numbers level owner) ≡ Some c.id.number
  filed_as level owner confirmed c there of = (λ i. number_by (sym of.2 i) (numbers (sym of.0 i) (sym of.1 i))) ∙ ix.filed c.id c there

  -- a test of the records of one owner that are confirmed, or that are pending
  pub find-indexed : (q : Client → Bool) (level : ℕ) (owner : List ℕ) (confirmed : Bool) → ((c : Client) → q c ≡ true → IsOf level owner confirmed c) → find q rows ≡ passing q (at_number rows level (number_by confirmed (numbers level owner)))
  find-indexed q level owner confirmed of = by (number_by confirmed (numbers level owner)) refl
    where
      fails : number_by confirmed (numbers level owner) ≡ None → (c : Client) (b : Bool) → q c ≡ b → client_at rows c.id ≡ Some c → q c ≡ false
      fails none c true is there = absurd (let filed = filed_as level owner confirmed c there (of c is) in cc)
      fails none c false is there = is

      named : (number : ℕ) → number_by confirmed (numbers level owner) ≡ Some number → (c : Client) → client_at rows c.id ≡ Some c → q c ≡ true → same_id (record { level = level; number = number }) c.id ≡ true
      named number known c there is =
          let filed = filed_as level owner confirmed c there (of c is) in
          let same : number ≡ c.id.number = cc in
          let own = (of c is).0 in
          grind (arith, nat_tests, same, own)

      by : (o : Option ℕ) → number_by confirmed (numbers level owner) ≡ o → find q rows ≡ passing q (at_number rows level o)
      by None is = none_passes q rows (all_weaker _ _ (λ c there. fails is c (q c) refl there) rows (each_at own_id rows ix.counted.rise))
      by (Some number) is = one_passes own_id q (record { level = level; number = number }) rows ix.counted.rise (all_weaker _ _ (λ c there passes. named number is c there passes) rows (each_at own_id rows ix.counted.rise))

  pending_of : (level : ℕ) (owner : List ℕ) (c : Client) → is_pending level owner c ≡ true → IsOf level owner false c
  pending_of level owner c is = (grind (arith, nat_tests, is), bytes_same c.owner owner (grind (arith, nat_tests, is)), grind (arith, nat_tests, is))

  confirmed_of : (level : ℕ) (owner verifier : List ℕ) (c : Client) → is_confirmed_as level owner verifier c ≡ true → IsOf level owner true c
  confirmed_of level owner verifier c is = (grind (arith, nat_tests, is), bytes_same c.owner owner (grind (arith, nat_tests, is)), grind (arith, nat_tests, is))

  is_pending_of : (level : ℕ) (owner : List ℕ) (c : Client) → IsOf level owner false c → is_pending level owner c ≡ true
  is_pending_of level owner c of = (λ i. is_pending level (sym of.1 i) c) ∙ grind (arith, nat_tests, of.0, of.2, bytes_itself c.owner)

  -- what is found at a number of an owner
  pub record IsThere (level number : ℕ) (owner : List ℕ) (confirmed : Bool) : Type 0 where
    pub row : Client
    pub found : client_at rows (record { level = level; number = number }) ≡ Some row
    pub id : row.id ≡ record { level = level; number = number }
    pub of : IsOf level owner confirmed row

  pub there_at : (level : ℕ) (owner : List ℕ) (confirmed : Bool) (number : ℕ) → number_by confirmed (numbers level owner) ≡ Some number → IsThere level number owner confirmed
  there_at level owner confirmed number known = by (client_at rows (record { level = level; number = number })) refl (ix.there level owner confirmed number known)
    where
      by : (o : Option Client) → client_at rows (record { level = level; number = number }) ≡ o → is_record_of owner confirmed o ≡ true → IsThere level number owner confirmed
      by None is record_of = absurd (cc)
      by (Some c) is record_of =
          let id : c.id ≡ record { level = level; number = number } = sym (id_same (record { level = level; number = number }) c.id (found_id own_id rows (record { level = level; number = number }) c is)) in
          record { row = c; found = is; id = id; of = (ap (λ (i : Id). i.level) id, bytes_same c.owner owner (grind (arith, nat_tests, record_of)), grind (arith, nat_tests, record_of)) }

  -- ---- an owner's pending record

  pub find-pending : (level : ℕ) (owner : List ℕ) → find (is_pending level owner) rows ≡ at_number rows level (numbers level owner).pending
  find-pending level owner = find-indexed (is_pending level owner) level owner false (pending_of level owner) ∙ by (numbers level owner).pending refl
    where
      by : (o : Option ℕ) → (numbers level owner).pending ≡ o → passing (is_pending level owner) (at_number rows level o) ≡ at_number rows level o
      by None is = refl
      by (Some number) is =
          let there = there_at level owner false number is in
          ap (passing (is_pending level owner)) there.found ∙ ap (λ b. cond b (Some there.row) None) (is_pending_of level owner there.row there.of) ∙ sym there.found

  pub pending_id : (level : ℕ) (owner : List ℕ) → option_map (λ (c : Client). c.id) (find (is_pending level owner) rows) ≡ option_map (λ (n : ℕ). record { level = level; number = n }) (numbers level owner).pending
  pending_id level owner = ap (option_map (λ (c : Client). c.id)) (find-pending level owner) ∙ by (numbers level owner).pending refl
    where
      by : (o : Option ℕ) → (numbers level owner).pending ≡ o → option_map (λ (c : Client). c.id) (at_number rows level o) ≡ option_map (λ (n : ℕ). record { level = level; number = n }) o
      by None is = refl
      by (Some number) is = let there = there_at level owner false number is in ap (option_map (λ (x : Client). x.id)) there.found ∙ ap Some there.id

  -- ---- an owner's confirmed record

  pub none_confirmed : (level : ℕ) (owner verifier : List ℕ) → (numbers level owner).confirmed ≡ None → find (is_confirmed_as level owner verifier) rows ≡ None
  none_confirmed level owner verifier none = find-indexed (is_confirmed_as level owner verifier) level owner true (confirmed_of level owner verifier) ∙ ap (λ o. passing (is_confirmed_as level owner verifier) (at_number rows level o)) none

  -- where there is one it is found if it has the verifier
  pub find-verified : (level : ℕ) (owner verifier : List ℕ) (number : ℕ) → (numbers level owner).confirmed ≡ Some number → (c : Client) → Some c ≡ client_at rows (record { level = level; number = number }) → (b : Bool) → bytes_eq c.verifier verifier ≡ b → cond b (Some c) None ≡ find (is_confirmed_as level owner verifier) rows
  find-verified level owner verifier number known c found b tested =
      let there = there_at level owner true number known in
      let same : there.row ≡ c = let known = there.found in cc in
      let of = subst (IsOf level owner true) same there.of in
      let is : is_confirmed_as level owner verifier c ≡ bytes_eq c.verifier verifier = (λ i. is_confirmed_as level (sym of.1 i) verifier c) ∙ grind (arith, nat_tests, of.0, of.2, bytes_itself c.owner) in
      sym (
      find-indexed (is_confirmed_as level owner verifier) level owner true (confirmed_of level owner verifier)
      ∙ ap (λ o. passing (is_confirmed_as level owner verifier) (at_number rows level o)) known
      ∙ ap (passing (is_confirmed_as level owner verifier)) (sym found)
      ∙ ap (λ b. cond b (Some c) None) (is ∙ tested)
      )

  -- ---- how many stay where the pending one goes

  pub others-indexed : (level : ℕ) (owner : List ℕ) → others_of level owner rows ≡ without (records level) (numbers level owner).pending
  others-indexed level owner = by (numbers level owner).pending refl
    where
      only : (number : ℕ) → (numbers level owner).pending ≡ Some number → (c : Client) → client_at rows c.id ≡ Some c → (b same : Bool) → is_pending level owner c ≡ b → same_id (record { level = level; number = number }) c.id ≡ same → (c.id.level == level && is_pending level owner c) ≡ same_id (record { level = level; number = number }) c.id
      only number known c found true same is at =
          let of = pending_of level owner c is in
          let filed = filed_as level owner false c found of in
          let own : number ≡ c.id.number = cc in
          let level_is = of.0 in
          grind (arith, nat_tests, is, own, level_is)
      only number known c found false true is at =
          let there = there_at level owner false number known in
          let id : record { level = level; number = number } ≡ c.id = id_same (record { level = level; number = number }) c.id at in
          let same : there.row ≡ c = let one = there.found in let other : client_at rows (record { level = level; number = number }) ≡ Some c = ap (client_at rows) id ∙ found in cc in
          absurd (false≢true (sym is ∙ is_pending_of level owner c (subst (IsOf level owner false) same there.of)))
      only number known c found false false is at = grind (arith, nat_tests, is, at)

      by : (o : Option ℕ) → (numbers level owner).pending ≡ o → others_of level owner rows ≡ without (records level) o
      by None is =
          let none = find-pending level owner ∙ ap (at_number rows level) is in
          count-none (λ c. c.id.level == level) (is_pending level owner) rows none ∙ sym (ix.counted.counted level)
      by (Some number) is =
          let there = there_at level owner false number is in
          let i : Id = record { level = level; number = number } in
          let one : others_of level owner rows + 1 ≡ count_by (λ c. c.id.level == level) rows = count-but_one (λ c. c.id.level == level) (is_pending level owner) i rows ix.counted.rise there.row there.found (all_weaker _ _ (λ c found. only number is c found (is_pending level owner c) (same_id i c.id) refl refl) rows (each_at own_id rows ix.counted.rise)) in
          omega (arith, one, ix.counted.counted level)
