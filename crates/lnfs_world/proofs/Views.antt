-- What a subject looks at in a world is what it sees of it.
use Rattle.std.proofs.Common.{◌≡◌, ℕ, Bool, true, false, cond, List, [], ◌∷◌, Option, Some, None, refl, sym, ◌∙◌, ap, subst, arith}
use Rattle.std.specs.Prelude.{filter, ◌==◌}
use Rattle.std.specs.List.{find}
use Rattle.std.specs.Option.{option_map}
use Rattle.std.specs.declared.cmp.Ordering.TheVariants.{Less}
use Rattle.std.proofs.lemmas.Bool.Decides.{nat_tests}
use Rattle.lnfs_world.specs.Rows.{kept, Rising}
use Rattle.lnfs_world.specs.World.{Id, Client, Session, id_order, same_id, client_at, session_at, number_in, last_of}
use Rattle.lnfs_world.specs.Erased.{lasts_seen}
use Rattle.lnfs_world.proofs.Keys.{id_same, id_itself}
use Rattle.lnfs_world.proofs.Rows.{find-kept, all_find}

pub same_option : {X : Type 0} (o : Option X) → option_map (λ x. x) o ≡ o
same_option None = refl
same_option (Some x) = refl

-- a look-up among rows of a level that is seen
pub row_at-seen : {X : Type 0} (dom : ℕ → ℕ → Bool) (level : ℕ) (key : X → Id) (q : X → Bool) → ((x : X) → q x ≡ true → dom level (key x).level ≡ true) → (xs : List X) → find q (kept (λ x. dom level (key x).level) (λ x. x) xs) ≡ find q xs
row_at-seen dom level key q own xs = find-kept _ _ q own (λ x. refl) xs ∙ same_option (find q xs)

pub client_at-seen : (dom : ℕ → ℕ → Bool) (level : ℕ) (i : Id) → dom level i.level ≡ true → (clients : List Client) → client_at (kept (λ c. dom level c.id.level) (λ c. c) clients) i ≡ client_at clients i
client_at-seen dom level i above clients = row_at-seen dom level (λ c. c.id) (λ c. same_id i c.id) (λ c is. ap (λ (j : Id). dom level j.level) (sym (id_same i c.id is)) ∙ above) clients

pub session_at-seen : (dom : ℕ → ℕ → Bool) (level : ℕ) (i : Id) → dom level i.level ≡ true → (sessions : List Session) → session_at (kept (λ x. dom level x.id.level) (λ x. x) sessions) i ≡ session_at sessions i
session_at-seen dom level i above sessions = row_at-seen dom level (λ x. x.id) (λ x. same_id i x.id) (λ x is. ap (λ (j : Id). dom level j.level) (sym (id_same i x.id is)) ∙ above) sessions

pub last_of-seen : (dom : ℕ → ℕ → Bool) (level s : ℕ) → dom level s ≡ true → (lasts : List Id) → last_of s (lasts_seen dom level lasts) ≡ last_of s lasts
last_of-seen dom level s above lasts = ap number_in (row_at-seen dom level (λ i. i) (λ i. i.level == s) (λ i is. grind (arith, nat_tests)) lasts)

-- ---- rows that are found

module _ {X : Type 0} (key : X → Id) where
  not_first : (x y : X) → id_order (key x) (key y) ≡ Less → same_id (key y) (key x) ≡ false
  not_first x y before = grind (arith, nat_tests)

  -- what is found by any test is what is found by its identifier
  pub found_by_id : (q : X → Bool) (xs : List X) (x : X) → Rising (λ a b. id_order (key a) (key b)) xs → find q xs ≡ Some x → find (λ y. same_id (key x) (key y)) xs ≡ Some x
  found_by_id q [] x rising found = grind arith
  found_by_id q (y ∷ ys) x rising found = at (q y) refl (found_by_id q ys x rising.1)
    where
      at : (b : Bool) → q y ≡ b → (find q ys ≡ Some x → find (λ z. same_id (key x) (key z)) ys ≡ Some x) → find (λ z. same_id (key x) (key z)) (y ∷ ys) ≡ Some x
      at true is rest =
          let same : y ≡ x = grind (arith, is) in
          subst (λ z. cond (same_id (key z) (key y)) (Some y) (find (λ u. same_id (key z) (key u)) ys) ≡ Some z) same (ap (λ b. cond b (Some y) (find (λ u. same_id (key y) (key u)) ys)) (id_itself (key y)))
      at false is rest =
          let later : find q ys ≡ Some x = grind (arith, is) in
          let before = (all_find _ q ys x rising.0 later).0 in
          ap (λ b. cond b (Some y) (find (λ z. same_id (key x) (key z)) ys)) (not_first y x before) ∙ rest later

-- what is found is found among what a filter leaves, where it is left
pub found_left : {X : Type 0} (q k : X → Bool) (xs : List X) (x : X) → find q xs ≡ Some x → k x ≡ true → find q (filter k xs) ≡ Some x
found_left q k [] x found stays = grind arith
found_left q k (y ∷ ys) x found stays = grind (arith, found_left q k ys x)
