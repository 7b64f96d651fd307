-- Client records stay indexed where one of an owner takes the place of another.
use Rattle.std.proofs.Common.{◌≡◌, ℕ, Bool, true, false, cond, not, List, [], ◌∷◌, Option, Some, None, refl, sym, ap, ◌∙◌, subst, arith}
use Rattle.std.specs.Prelude.{◌+◌, ◌-◌, ◌==◌, ◌&&◌, filter, find, option_map, is_some}
use Rattle.std.specs.Str.{bytes_eq}
use Rattle.std.specs.declared.cmp.Ordering.{Ordering}
use Rattle.std.specs.declared.cmp.Ordering.TheVariants.{Less, Equal, Greater}
use Rattle.std.proofs.lemmas.Bool.Decides.{nat_tests}
use Rattle.lnfs_world.specs.Rows.{Rising, inserted}
use Rattle.lnfs_world.specs.World.{Id, Client, client_order, level_order, same_id, client_at}
use Rattle.lnfs_world.proofs.Keys.{id_equal, id_same, bytes_itself}
use Rattle.lnfs_operations.specs.ExchangeId.{is_pending}
use Rattle.lnfs_counts.proofs.Rows.{before, filter-inserted}
use Rattle.lnfs_counts.proofs.Counted.{with_number}
use Rattle.lnfs_session.specs.declared.levels.OwnerNumbers.{OwnerNumbers}
use Rattle.lnfs_session.specs.Levels.{number_by, cleared, without}
use Rattle.lnfs_session.specs.Standing.{clients_left}
use Rattle.lnfs_session.specs.Records.{left_by}
use Rattle.lnfs_session.specs.Indexed.{own_id, IsIndexed}
use Rattle.lnfs_session.proofs.Indexed.{at_number, there_at, find-pending}
use Rattle.lnfs_session.proofs.Reindexed.{with_numbers, same, dropped}
use Rattle.lnfs_session.proofs.Entered.{added}

-- ---- rows in their order

-- a row that is there is set to what it is
pub inserted_there : (row : Client) (rows : List Client) → Rising client_order rows → client_at rows row.id ≡ Some row → inserted client_order row rows ≡ rows
inserted_there row [] rising there = absurd (cc)
inserted_there row (x ∷ xs) rising there = by (client_order row x) refl (inserted_there row xs rising.1)
  where
    by : (o : Ordering) → client_order row x ≡ o → (client_at xs row.id ≡ Some row → inserted client_order row xs ≡ xs) → inserted client_order row (x ∷ xs) ≡ x ∷ xs
    by Less is rest = absurd (let none = before own_id row x xs rising.0 is in cc)
    by Equal is rest = grind (arith, is, id_equal row.id x.id is)
    by Greater is rest = grind (arith, nat_tests, is)

-- ---- indexed rows

abbrev pub id_at : ℕ → ℕ → Id
id_at level number = record { level = level; number = number }

abbrev pub ids_at : ℕ → Option ℕ → Option Id
ids_at level o = option_map (id_at level) o

pub number_here : (level new : ℕ) (f : ℕ → ℕ) → with_number level new f level ≡ new
number_here level new f = let own : (level == level) ≡ true = grind (arith, nat_tests) in ap (λ b. cond b new (f level)) own

pub number_twice : (level new old : ℕ) (f : ℕ → ℕ) (l : ℕ) → with_number level new (with_number level old f) l ≡ with_number level new f l
number_twice level new old f l = by (level == l)
  where
    by : (b : Bool) → cond b new (cond b old (f l)) ≡ cond b new (f l)
    by true = refl
    by false = refl

pub numbers_here : (level : ℕ) (owner : List ℕ) (new : OwnerNumbers) (f : ℕ → List ℕ → OwnerNumbers) → with_numbers level owner new f level owner ≡ new
numbers_here level owner new f = let own : (level == level && bytes_eq owner owner) ≡ true = grind (arith, nat_tests, bytes_itself owner) in ap (λ b. cond b new (f level owner)) own

pub numbers_twice : (level : ℕ) (owner : List ℕ) (new old : OwnerNumbers) (f : ℕ → List ℕ → OwnerNumbers) (l : ℕ) (o : List ℕ) → with_numbers level owner new (with_numbers level owner old f) l o ≡ with_numbers level owner new f l o
numbers_twice level owner new old f l o = by (level == l && bytes_eq owner o)
  where
    by : (b : Bool) → cond b new (cond b old (f l o)) ≡ cond b new (f l o)
    by true = refl
    by false = refl

module _ (rows : List Client) (lasts : List Id) (last records : ℕ → ℕ) (numbers : ℕ → List ℕ → OwnerNumbers) (ix : IsIndexed rows lasts last records numbers) where
  -- what is found at an owner's number goes by that number
  pub left_at : (level : ℕ) (owner : List ℕ) (flag : Bool) → left_by (at_number rows level (number_by flag (numbers level owner))) rows ≡ clients_left (ids_at level (number_by flag (numbers level owner))) rows
  left_at level owner flag = by (number_by flag (numbers level owner)) refl
    where
      by : (o : Option ℕ) → number_by flag (numbers level owner) ≡ o → left_by (at_number rows level o) rows ≡ clients_left (ids_at level o) rows
      by None is = refl
      by (Some number) is =
          let there = there_at rows lasts last records numbers ix level owner flag number is in
          ap (λ o. left_by o rows) there.found ∙ ap (λ (i : Id). filter (λ (d : Client). not (same_id i d.id)) rows) there.id

  pub ids_found : (level : ℕ) (owner : List ℕ) (flag : Bool) → option_map (λ (c : Client). c.id) (at_number rows level (number_by flag (numbers level owner))) ≡ ids_at level (number_by flag (numbers level owner))
  ids_found level owner flag = by (number_by flag (numbers level owner)) refl
    where
      by : (o : Option ℕ) → number_by flag (numbers level owner) ≡ o → option_map (λ (c : Client). c.id) (at_number rows level o) ≡ ids_at level o
      by None is = refl
      by (Some number) is =
          let there = there_at rows lasts last records numbers ix level owner flag number is in
          ap (option_map (λ (x : Client). x.id)) there.found ∙ ap Some there.id

  -- one of an owner's records goes, by its number
  pub owner_left : (level : ℕ) (owner : List ℕ) (flag : Bool) (number : ℕ) → number_by flag (numbers level owner) ≡ Some number → IsIndexed (clients_left (Some (id_at level number)) rows) lasts last (with_number level (records level - 1) records) (with_numbers level owner (cleared flag (numbers level owner)) numbers)
  owner_left level owner flag number is =
      let there = there_at rows lasts last records numbers ix level owner flag number is in
      let left = dropped rows lasts last records numbers ix (id_at level number) there.row there.found in
      same _ _ _ _ _ left _ _ _ _ _ refl refl (λ l. refl) (λ l. refl)
      (λ l o. λ t. with_numbers level (sym there.of.1 t) (cleared (sym there.of.2 t) (numbers level (sym there.of.1 t))) numbers l o)

  -- ---- a new record of an owner in place of its pending one

  module _ (row : Client) (pending : row.confirmed ≡ false) (next : row.id.number ≡ last row.id.level + 1) where
    abbrev N : OwnerNumbers
    N = numbers row.id.level row.owner

    commutes : (o : Option ℕ) → N.pending ≡ o → clients_left (ids_at row.id.level o) (inserted client_order row rows) ≡ inserted client_order row (clients_left (ids_at row.id.level o) rows)
    commutes None is = refl
    commutes (Some number) is = filter-inserted own_id (λ d. not (same_id (id_at row.id.level number) d.id)) row (ap not (by (same_id (id_at row.id.level number) row.id) refl)) rows ix.counted.rise
      where
        by : (b : Bool) → same_id (id_at row.id.level number) row.id ≡ b → same_id (id_at row.id.level number) row.id ≡ false
        by true same =
            let there = there_at rows lasts last records numbers ix row.id.level row.owner false number is in
            let given = ix.counted.given (id_at row.id.level number) (ap is_some there.found) in
            let own : number ≡ row.id.number = ap (λ (i : Id). i.number) (id_same (id_at row.id.level number) row.id same) in
            absurd (omega (arith, given, next, own))
        by false same = same

    pub pending_rows : clients_left (ids_at row.id.level N.pending) (inserted client_order row rows) ≡ inserted client_order row (left_by (find (is_pending row.id.level row.owner) rows) rows)
    pending_rows = commutes N.pending refl ∙ ap (inserted client_order row) (sym (left_at row.id.level row.owner false) ∙ ap (λ o. left_by o rows) (sym (find-pending rows lasts last records numbers ix row.id.level row.owner)))

    pub pending_indexed : IsIndexed (clients_left (ids_at row.id.level N.pending) (inserted client_order row rows)) (inserted level_order row.id lasts) (with_number row.id.level row.id.number last) (with_number row.id.level (without (records row.id.level) N.pending + 1) records) (with_numbers row.id.level row.owner (record N { pending = Some row.id.number }) numbers)
    pending_indexed = subst (λ (new : List Client). IsIndexed new (inserted level_order row.id lasts) (with_number row.id.level row.id.number last) (with_number row.id.level (without (records row.id.level) N.pending + 1) records) (with_numbers row.id.level row.owner (record N { pending = Some row.id.number }) numbers)) (sym (commutes N.pending refl)) (by N.pending refl)
      where
        by : (o : Option ℕ) → N.pending ≡ o → IsIndexed (inserted client_order row (clients_left (ids_at row.id.level o) rows)) (inserted level_order row.id lasts) (with_number row.id.level row.id.number last) (with_number row.id.level (without (records row.id.level) o + 1) records) (with_numbers row.id.level row.owner (record N { pending = Some row.id.number }) numbers)
        by None is = added rows lasts last records numbers ix row pending next is
        by (Some number) is =
            let left = owner_left row.id.level row.owner false number is in
            let new = added _ _ _ _ _ left row pending next (ap (λ (n : OwnerNumbers). n.pending) (numbers_here row.id.level row.owner (cleared false N) numbers)) in
            same _ _ _ _ _ new _ _ _ _ _ refl refl (λ l. refl)
            (λ l. sym (ap (λ n. with_number row.id.level (n + 1) (with_number row.id.level (records row.id.level - 1) records) l) (number_here row.id.level (records row.id.level - 1) records) ∙ number_twice row.id.level (records row.id.level - 1 + 1) (records row.id.level - 1) records l))
            (λ l o. sym (ap (λ (n : OwnerNumbers). with_numbers row.id.level row.owner (record n { pending = Some row.id.number }) (with_numbers row.id.level row.owner (cleared false N) numbers) l o) (numbers_here row.id.level row.owner (cleared false N) numbers) ∙ numbers_twice row.id.level row.owner (record N { pending = Some row.id.number }) (cleared false N) numbers l o))
