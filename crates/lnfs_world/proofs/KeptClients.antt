-- Changes of clients, sessions and contexts keep what holds of them.
use Rattle.std.proofs.Common.{◌≡◌, ℕ, Bool, true, false, cond, not, ◌&&◌, ◌||◌, List, [], ◌∷◌, Option, Some, None, refl, sym, subst, arith}
use Rattle.std.specs.Prelude.{filter, ◌==◌, is_some}
use Rattle.std.specs.List.{AllByRecursion, list_any}
use Rattle.std.proofs.lemmas.Bool.Decides.{nat_tests}
use Rattle.lnfs_world.specs.Rows.{inserted, Rising, Apart}
use Rattle.lnfs_world.specs.World.{Id, Client, Session, Context, id_order, client_order, session_order, context_order, level_order, same_id, client_at, is_given}
use Rattle.lnfs_world.specs.Change.{is_session_of}
use Rattle.lnfs_world.specs.Facts.{ClientFacts, SessionFacts, ContextFacts, are_rivals, is_confirmed, has_confirmed}
use Rattle.lnfs_world.proofs.Within.{IsNew}
use Rattle.lnfs_world.proofs.Rows.{all_weaker, all_filter, all_left, all_find, any_row}
use Rattle.lnfs_world.proofs.Sorted.{all_inserted, find-inserted, rising_filter, rising_inserted}
use Rattle.lnfs_world.proofs.Apart.{apart_filter, apart_inserted}
use Rattle.lnfs_world.proofs.Keys.{id_same, id_equal, id_tie, id_before, id_after, id_tied, level_before, level_after, level_tied, last_of-inserted, bytes_turned}

-- ---- identifiers

-- a row under an identifier of its own
pub row_rises : {X : Type 0} (key : X → Id) (row : X) (xs : List X) → Rising (λ a b. id_order (key a) (key b)) xs → Rising (λ a b. id_order (key a) (key b)) (inserted (λ a b. id_order (key a) (key b)) row xs)
row_rises key row xs rising = rising_inserted (λ a b. id_order (key a) (key b)) (λ a b. id_after (key a) (key b)) (λ a b c. id_before (key a) (key b) (key c)) (λ a b c. id_tied (key a) (key b) (key c)) row xs rising

pub lasts_rise : (i : Id) (lasts : List Id) → Rising level_order lasts → Rising level_order (inserted level_order i lasts)
lasts_rise i lasts rising = rising_inserted level_order level_after level_before level_tied i lasts rising

pub given_own : (i : Id) (lasts : List Id) → is_given (inserted level_order i lasts) i ≡ true
given_own i lasts = grind (arith, nat_tests, last_of-inserted i lasts i.level)

pub given_more : (s : ℕ) (i : Id) (lasts : List Id) → IsNew s lasts i → (j : Id) → is_given lasts j ≡ true → is_given (inserted level_order i lasts) j ≡ true
given_more s i lasts new j given = let own = new.own in let above = new.above in grind (arith, nat_tests, last_of-inserted i lasts j.level)

-- a row more, and the last identifier with it
pub rows_given : {X : Type 0} (key : X → Id) (s : ℕ) (row : X) (xs : List X) (lasts : List Id) → IsNew s lasts (key row) → AllByRecursion (λ x. is_given lasts (key x) ≡ true) xs → AllByRecursion (λ x. is_given (inserted level_order (key row) lasts) (key x) ≡ true) (inserted (λ a b. id_order (key a) (key b)) row xs)
rows_given key s row xs lasts new given = all_inserted (λ a b. id_order (key a) (key b)) _ row xs (given_own (key row) lasts) (all_weaker _ _ (λ x g. given_more s (key row) lasts new (key x) g) xs given)

-- the identifier of a row that is there was given
pub there_given : {X : Type 0} (key : X → Id) (i : Id) (xs : List X) (lasts : List Id) → AllByRecursion (λ x. is_given lasts (key x) ≡ true) xs → list_any (λ x. same_id i (key x)) xs ≡ true → is_given lasts i ≡ true
there_given key i xs lasts given there =
    let row = any_row _ (λ x. same_id i (key x)) xs given there in
    subst (λ j. is_given lasts j ≡ true) (sym (id_same i (key row.0) row.2)) row.1

-- rows that clash with none of another identifier
pub row_apart : {X : Type 0} (clash : X → X → Bool) (key : X → Id) (row : X) (xs : List X) → ((x y : X) → clash x y ≡ clash y x) → Rising (λ a b. id_order (key a) (key b)) xs → AllByRecursion (λ x. (clash row x && not (same_id (key row) (key x))) ≡ false) xs → Apart clash xs → Apart clash (inserted (λ a b. id_order (key a) (key b)) row xs)
row_apart clash key row xs turn rising alone apart =
    apart_inserted clash (λ a b. id_order (key a) (key b)) turn (λ a b c. id_before (key a) (key b) (key c)) (λ a b c. id_tied (key a) (key b) (key c)) row xs rising
    (all_weaker _ _ (λ x none. grind (arith, none, id_tie (key row) (key x))) xs alone) apart

-- ---- clients

pub rivals_turn : (a b : Client) → are_rivals a b ≡ are_rivals b a
rivals_turn a b = grind (arith, nat_tests, bytes_turned a.owner b.owner)

pub client_at-inserted : (row : Client) (clients : List Client) (i : Id) → client_at (inserted client_order row clients) i ≡ cond (same_id i row.id) (Some row) (client_at clients i)
client_at-inserted row clients i = find-inserted client_order (λ c. same_id i c.id) row (λ x e. grind (arith, nat_tests, id_equal row.id x.id e)) (λ x h k. id_tie row.id x.id (grind (arith, nat_tests))) clients

pub client_at-dropped : (client : Id) (clients : List Client) (i : Id) → client_at (filter (λ c. not (same_id client c.id)) clients) i ≡ cond (same_id i client) None (client_at clients i)
client_at-dropped client [] i = grind arith
client_at-dropped client (c ∷ clients) i = grind (arith, nat_tests, client_at-dropped client clients i)

client_given : (clients : List Client) (lasts : List Id) → ClientFacts clients lasts → (i : Id) → is_some (client_at clients i) ≡ true → is_given lasts i ≡ true
client_given clients lasts facts i there = at (client_at clients i) refl
  where
    at : (o : Option Client) → client_at clients i ≡ o → is_given lasts i ≡ true
    at None found = absurd (grind arith)
    at (Some c) found = let known = all_find _ (λ c. same_id i c.id) clients c facts.given found in subst (λ j. is_given lasts j ≡ true) (sym (id_same i c.id known.1)) known.0

-- a new client isn't there
pub client_absent : (s : ℕ) (clients : List Client) (lasts : List Id) → ClientFacts clients lasts → (i : Id) → IsNew s lasts i → client_at clients i ≡ None
client_absent s clients lasts facts i new = at (client_at clients i) refl
  where
    at : (o : Option Client) → client_at clients i ≡ o → client_at clients i ≡ None
    at None found = found
    at (Some c) found =
        let given = client_given clients lasts facts i (grind arith) in
        let own = new.own in
        let above = new.above in
        absurd (grind (arith, nat_tests))

pub add_client : (s : ℕ) (clients : List Client) (lasts : List Id) (row : Client) → ClientFacts clients lasts → IsNew s lasts row.id → AllByRecursion (λ c. are_rivals row c ≡ false) clients → ClientFacts (inserted client_order row clients) (inserted level_order row.id lasts)
add_client s clients lasts row facts new alone = record {
  rise = row_rises (λ c. c.id) row clients facts.rise;
  lasts_rise = lasts_rise row.id lasts facts.lasts_rise;
  given = rows_given (λ c. c.id) s row clients lasts new facts.given;
  rivals = row_apart are_rivals (λ c. c.id) row clients rivals_turn facts.rise (all_weaker _ _ (λ c none. grind (arith, none)) clients alone) facts.rivals;
}

pub set_client : (clients : List Client) (lasts : List Id) (row : Client) → ClientFacts clients lasts → is_some (client_at clients row.id) ≡ true → AllByRecursion (λ c. (are_rivals row c && not (same_id row.id c.id)) ≡ false) clients → ClientFacts (inserted client_order row clients) lasts
set_client clients lasts row facts there alone = record {
  rise = row_rises (λ c. c.id) row clients facts.rise;
  lasts_rise = facts.lasts_rise;
  given = all_inserted client_order _ row clients (client_given clients lasts facts row.id there) facts.given;
  rivals = row_apart are_rivals (λ c. c.id) row clients rivals_turn facts.rise alone facts.rivals;
}

pub drop_client : (clients : List Client) (lasts : List Id) (client : Id) → ClientFacts clients lasts → ClientFacts (filter (λ c. not (same_id client c.id)) clients) lasts
drop_client clients lasts client facts = record {
  rise = rising_filter client_order _ clients facts.rise;
  lasts_rise = facts.lasts_rise;
  given = all_left _ _ clients facts.given;
  rivals = apart_filter are_rivals _ clients facts.rivals;
}

-- ---- whose client is behind them

pub confirmed_stay : (row : Client) (clients : List Client) → (row.confirmed || not (is_confirmed (client_at clients row.id))) ≡ true → (level number : ℕ) → has_confirmed clients level number ≡ true → has_confirmed (inserted client_order row clients) level number ≡ true
confirmed_stay row clients stays level number was =
    let i : Id = record { level = level; number = number } in
    let at = client_at-inserted row clients i in
    grind (arith, nat_tests, at, id_same i row.id)

pub confirmed_left : (client : Id) (clients : List Client) (level number : ℕ) → (level == client.level && number == client.number) ≡ false → has_confirmed clients level number ≡ true → has_confirmed (filter (λ c. not (same_id client c.id)) clients) level number ≡ true
confirmed_left client clients level number apart was =
    let at = client_at-dropped client clients (record { level = level; number = number }) in
    grind (arith, nat_tests, at)

-- ---- sessions

pub sessions_stay : (old new : List Client) (sessions : List Session) (lasts : List Id) → ((level number : ℕ) → has_confirmed old level number ≡ true → has_confirmed new level number ≡ true) → SessionFacts old sessions lasts → SessionFacts new sessions lasts
sessions_stay old new sessions lasts stays facts = record {
  rise = facts.rise;
  lasts_rise = facts.lasts_rise;
  given = facts.given;
  behind = all_weaker _ _ (λ x was. stays x.id.level x.client was) sessions facts.behind;
}

pub sessions_left : (clients : List Client) (sessions : List Session) (lasts : List Id) (client : Id) → SessionFacts clients sessions lasts → SessionFacts (filter (λ c. not (same_id client c.id)) clients) (filter (λ x. not (is_session_of client x)) sessions) lasts
sessions_left clients sessions lasts client facts = record {
  rise = rising_filter session_order _ sessions facts.rise;
  lasts_rise = facts.lasts_rise;
  given = all_left _ _ sessions facts.given;
  behind = all_weaker _ _ (λ x both. confirmed_left client clients x.id.level x.client (grind (arith, both.0)) both.1) _ (all_filter _ (λ x. not (is_session_of client x)) sessions facts.behind);
}

pub add_session : (s : ℕ) (clients : List Client) (sessions : List Session) (lasts : List Id) (row : Session) → SessionFacts clients sessions lasts → IsNew s lasts row.id → has_confirmed clients row.id.level row.client ≡ true → SessionFacts clients (inserted session_order row sessions) (inserted level_order row.id lasts)
add_session s clients sessions lasts row facts new behind = record {
  rise = row_rises (λ x. x.id) row sessions facts.rise;
  lasts_rise = lasts_rise row.id lasts facts.lasts_rise;
  given = rows_given (λ x. x.id) s row sessions lasts new facts.given;
  behind = all_inserted session_order _ row sessions behind facts.behind;
}

pub set_session : (clients : List Client) (sessions : List Session) (lasts : List Id) (row : Session) → SessionFacts clients sessions lasts → list_any (λ x. same_id row.id x.id) sessions ≡ true → has_confirmed clients row.id.level row.client ≡ true → SessionFacts clients (inserted session_order row sessions) lasts
set_session clients sessions lasts row facts there behind = record {
  rise = row_rises (λ x. x.id) row sessions facts.rise;
  lasts_rise = facts.lasts_rise;
  given = all_inserted session_order _ row sessions (there_given (λ x. x.id) row.id sessions lasts facts.given there) facts.given;
  behind = all_inserted session_order _ row sessions behind facts.behind;
}

pub drop_session : (clients : List Client) (sessions : List Session) (lasts : List Id) (session : Id) → SessionFacts clients sessions lasts → SessionFacts clients (filter (λ x. not (same_id session x.id)) sessions) lasts
drop_session clients sessions lasts session facts = record {
  rise = rising_filter session_order _ sessions facts.rise;
  lasts_rise = facts.lasts_rise;
  given = all_left _ _ sessions facts.given;
  behind = all_left _ _ sessions facts.behind;
}

-- ---- contexts

pub add_context : (s : ℕ) (contexts : List Context) (lasts : List Id) (row : Context) → ContextFacts contexts lasts → IsNew s lasts row.id → ContextFacts (inserted context_order row contexts) (inserted level_order row.id lasts)
add_context s contexts lasts row facts new = record {
  rise = row_rises (λ x. x.id) row contexts facts.rise;
  lasts_rise = lasts_rise row.id lasts facts.lasts_rise;
  given = rows_given (λ x. x.id) s row contexts lasts new facts.given;
}

pub drop_context : (contexts : List Context) (lasts : List Id) (context : Id) → ContextFacts contexts lasts → ContextFacts (filter (λ x. not (same_id context x.id)) contexts) lasts
drop_context contexts lasts context facts = record {
  rise = rising_filter context_order _ contexts facts.rise;
  lasts_rise = facts.lasts_rise;
  given = all_left _ _ contexts facts.given;
}
