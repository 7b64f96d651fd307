-- Client records stay indexed where one is confirmed, and the other confirmed one of its owner goes.
use Rattle.std.proofs.Common.{◌≡◌, ℕ, Bool, true, false, cond, List, Option, Some, None, refl, sym, ap, ◌∙◌, subst, arith}
use Rattle.std.specs.Prelude.{◌==◌, find, option_map}
use Rattle.std.specs.Str.{bytes_eq}
use Rattle.std.proofs.lemmas.Bool.{false≢true}
use Rattle.std.proofs.lemmas.Bool.Decides.{nat_tests}
use Rattle.lnfs_world.specs.Rows.{inserted}
use Rattle.lnfs_world.specs.World.{Id, Client, client_order, same_id, client_at}
use Rattle.lnfs_world.proofs.Keys.{id_same, id_itself, bytes_itself, bytes_same}
use Rattle.lnfs_world.proofs.KeptClients.{client_at-dropped}
use Rattle.lnfs_operations.specs.CreateSession.{is_replaced}
use Rattle.lnfs_counts.proofs.Rows.{passing}
use Rattle.lnfs_counts.proofs.Counted.{with_number}
use Rattle.lnfs_session.specs.declared.levels.OwnerNumbers.{OwnerNumbers}
use Rattle.lnfs_session.specs.Levels.{number_by, cleared, without}
use Rattle.lnfs_session.specs.Standing.{clients_left, clients_set}
use Rattle.lnfs_session.specs.Records.{left_by}
use Rattle.lnfs_session.specs.Indexed.{IsIndexed}
use Rattle.lnfs_session.proofs.Indexed.{at_number, there_at, IsOf, find-indexed}
use Rattle.lnfs_session.proofs.Reindexed.{with_numbers, same}
use Rattle.lnfs_session.proofs.Entered.{confirmed}
use Rattle.lnfs_session.proofs.Replaced.{id_at, ids_at, left_at, ids_found, owner_left, inserted_there, numbers_here, numbers_twice}

abbrev pub confirm : Client → Client
confirm c = record c { confirmed = true }

module _ (rows : List Client) (lasts : List Id) (last records : ℕ → ℕ) (numbers : ℕ → List ℕ → OwnerNumbers) (ix : IsIndexed rows lasts last records numbers) (c : Client) (found : client_at rows c.id ≡ Some c) where
  abbrev N : OwnerNumbers
  N = numbers c.id.level c.owner

  replaced_of : (d : Client) → is_replaced c d ≡ true → IsOf rows lasts last records numbers ix c.id.level c.owner true d
  replaced_of d is = (grind (arith, nat_tests, is), bytes_same d.owner c.owner (grind (arith, nat_tests, is)), grind (arith, nat_tests, is))

  -- ---- one that is confirmed is so already

  pub none_replaced : c.confirmed ≡ true → find (is_replaced c) rows ≡ None
  none_replaced is =
      let mine : N.confirmed ≡ Some c.id.number = (λ t. number_by (sym is t) N) ∙ ix.filed c.id c found in
      let itself : is_replaced c c ≡ false = grind (arith, nat_tests, id_itself c.id) in
      find-indexed rows lasts last records numbers ix (is_replaced c) c.id.level c.owner true replaced_of
      ∙ ap (λ o. passing (is_replaced c) (at_number rows c.id.level o)) mine
      ∙ ap (passing (is_replaced c)) found
      ∙ ap (λ b. cond b (Some c) None) itself

  pub confirmed_already : c.confirmed ≡ true → inserted client_order (confirm c) (left_by (find (is_replaced c) rows) rows) ≡ rows
  confirmed_already is =
      let already : confirm c ≡ c = λ t. record c { confirmed = sym is t } in
      (λ t. inserted client_order (already t) (left_by (none_replaced is t) rows)) ∙ inserted_there c rows ix.counted.rise found

  -- ---- one that is pending

  module _ (pending : c.confirmed ≡ false) where
    -- its owner's confirmed one is another
    apart : (number : ℕ) → N.confirmed ≡ Some number → same_id c.id (id_at c.id.level number) ≡ false
    apart number is = by (same_id c.id (id_at c.id.level number)) refl
      where
        by : (b : Bool) → same_id c.id (id_at c.id.level number) ≡ b → same_id c.id (id_at c.id.level number) ≡ false
        by true own =
            let there = there_at rows lasts last records numbers ix c.id.level c.owner true number is in
            let row : there.row ≡ c = let one = there.found in let other : client_at rows (id_at c.id.level number) ≡ Some c = ap (client_at rows) (sym (id_same c.id (id_at c.id.level number) own)) ∙ found in cc in
            absurd (false≢true (sym pending ∙ ap (λ (d : Client). d.confirmed) (sym row) ∙ there.of.2))
        by false own = own

    pub find-replaced : find (is_replaced c) rows ≡ at_number rows c.id.level N.confirmed
    find-replaced = find-indexed rows lasts last records numbers ix (is_replaced c) c.id.level c.owner true replaced_of ∙ by N.confirmed refl
      where
        by : (o : Option ℕ) → N.confirmed ≡ o → passing (is_replaced c) (at_number rows c.id.level o) ≡ at_number rows c.id.level o
        by None is = refl
        by (Some number) is =
            let there = there_at rows lasts last records numbers ix c.id.level c.owner true number is in
            let other : same_id c.id there.row.id ≡ false = ap (same_id c.id) there.id ∙ apart number is in
            let name : bytes_eq there.row.owner c.owner ≡ true = ap (λ o. bytes_eq o c.owner) there.of.1 ∙ bytes_itself c.owner in
            let level = there.of.0 in
            let flag = there.of.2 in
            let passes : is_replaced c there.row ≡ true = grind (arith, nat_tests, other, name, level, flag) in
            ap (passing (is_replaced c)) there.found ∙ ap (λ b. cond b (Some there.row) None) passes ∙ sym there.found

    pub replaced_id : option_map (λ (d : Client). d.id) (find (is_replaced c) rows) ≡ ids_at c.id.level N.confirmed
    replaced_id = ap (option_map (λ (d : Client). d.id)) find-replaced ∙ ids_found rows lasts last records numbers ix c.id.level c.owner true

    stays : (o : Option ℕ) → N.confirmed ≡ o → client_at (clients_left (ids_at c.id.level o) rows) c.id ≡ Some c
    stays None is = found
    stays (Some number) is = client_at-dropped (id_at c.id.level number) rows c.id ∙ ap (λ b. cond b None (client_at rows c.id)) (apart number is) ∙ found

    set : (o : Option ℕ) → N.confirmed ≡ o → clients_set confirm (client_at (clients_left (ids_at c.id.level o) rows) c.id) (clients_left (ids_at c.id.level o) rows) ≡ inserted client_order (confirm c) (clients_left (ids_at c.id.level o) rows)
    set o is = ap (λ x. clients_set confirm x (clients_left (ids_at c.id.level o) rows)) (stays o is)

    pub confirmed_rows : clients_set confirm (client_at (clients_left (ids_at c.id.level N.confirmed) rows) c.id) (clients_left (ids_at c.id.level N.confirmed) rows) ≡ inserted client_order (confirm c) (left_by (find (is_replaced c) rows) rows)
    confirmed_rows = set N.confirmed refl ∙ ap (inserted client_order (confirm c)) (sym (left_at rows lasts last records numbers ix c.id.level c.owner true) ∙ ap (λ o. left_by o rows) (sym find-replaced))

    abbrev Confirmed : OwnerNumbers
    Confirmed = record { pending = None; confirmed = Some c.id.number }

    pub confirmed_indexed : IsIndexed (clients_set confirm (client_at (clients_left (ids_at c.id.level N.confirmed) rows) c.id) (clients_left (ids_at c.id.level N.confirmed) rows)) lasts last (with_number c.id.level (without (records c.id.level) N.confirmed) records) (with_numbers c.id.level c.owner Confirmed numbers)
    confirmed_indexed = subst (λ (new : List Client). IsIndexed new lasts last (with_number c.id.level (without (records c.id.level) N.confirmed) records) (with_numbers c.id.level c.owner Confirmed numbers)) (sym (set N.confirmed refl)) (by N.confirmed refl)
      where
        by : (o : Option ℕ) → N.confirmed ≡ o → IsIndexed (inserted client_order (confirm c) (clients_left (ids_at c.id.level o) rows)) lasts last (with_number c.id.level (without (records c.id.level) o) records) (with_numbers c.id.level c.owner Confirmed numbers)
        by None is =
            let new = confirmed rows lasts last records numbers ix (confirm c) c found refl pending refl is in
            same _ _ _ _ _ new _ _ _ _ _ refl refl (λ l. refl) (λ l. stay l (c.id.level == l) refl) (λ l o. refl)
          where
            stay : (l : ℕ) (b : Bool) → (c.id.level == l) ≡ b → cond b (records c.id.level) (records l) ≡ records l
            stay l true is = ap records (let own : c.id.level ≡ l = grind (arith, nat_tests) in own)
            stay l false is = refl
        by (Some number) is =
            let left = owner_left rows lasts last records numbers ix c.id.level c.owner true number is in
            let new = confirmed _ _ _ _ _ left (confirm c) c (stays (Some number) is) refl pending refl (ap (λ (n : OwnerNumbers). n.confirmed) (numbers_here c.id.level c.owner (cleared true N) numbers)) in
            same _ _ _ _ _ new _ _ _ _ _ refl refl (λ l. refl) (λ l. refl) (λ l o. sym (numbers_twice c.id.level c.owner Confirmed (cleared true N) numbers l o))
