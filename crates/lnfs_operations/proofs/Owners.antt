-- Records of one owner.
use Rattle.std.proofs.Common.{◌≡◌, ℕ, Bool, true, false, not, List, [], ◌∷◌, Some, None, refl, sym, ap, arith}
use Rattle.std.specs.Prelude.{filter}
use Rattle.std.specs.List.{find, list_any, AllByRecursion}
use Rattle.std.specs.Str.{bytes_eq}
use Rattle.std.proofs.lemmas.Bool.Decides.{nat_tests}
use Rattle.lnfs_world.specs.Rows.{Apart}
use Rattle.lnfs_world.specs.World.{Client, same_id}
use Rattle.lnfs_world.specs.Facts.{are_rivals}
use Rattle.lnfs_world.proofs.Keys.{bytes_same, bytes_itself}
use Rattle.lnfs_operations.specs.ExchangeId.{is_pending}

-- two pending records of one owner are rivals
pending_rivals : (s : ℕ) (owner : List ℕ) (a b : Client) → is_pending s owner a ≡ true → is_pending s owner b ≡ true → are_rivals a b ≡ true
pending_rivals s owner a b p q =
    let x : a.owner ≡ owner = bytes_same a.owner owner (grind (arith, nat_tests)) in
    let y : b.owner ≡ owner = bytes_same b.owner owner (grind (arith, nat_tests)) in
    let same : bytes_eq a.owner b.owner ≡ true = rw (x, y) (bytes_itself owner) in
    grind (arith, nat_tests)

-- the rivals of a pending record of the owner are pending records of it
pub rival_pending : (s : ℕ) (owner : List ℕ) (a b : Client) → a.id.level ≡ s → a.owner ≡ owner → a.confirmed ≡ false → are_rivals a b ≡ true → is_pending s owner b ≡ true
rival_pending s owner a b level name pending r =
    let x : a.owner ≡ b.owner = bytes_same a.owner b.owner (grind (arith, nat_tests)) in
    let same : bytes_eq b.owner owner ≡ true = rw (sym x, name) (bytes_itself owner) in
    grind (arith, nat_tests)

-- no row passes where none is found
pub none_found : {X : Type 0} (q : X → Bool) (xs : List X) → find q xs ≡ None → list_any q xs ≡ false
none_found q [] e = refl
none_found q (x ∷ xs) e = grind (arith, none_found q xs)

-- where one of records that are all rivals goes, none stays
module _ (q : Client → Bool) (rivals : (a b : Client) → q a ≡ true → q b ≡ true → are_rivals a b ≡ true) where
  none_of : (gone c : Client) (cs : List Client) → q c ≡ true → AllByRecursion (λ d. are_rivals c d ≡ false) cs → list_any q (filter (λ d. not (same_id gone.id d.id)) cs) ≡ false
  none_of gone c [] is apart = refl
  none_of gone c (d ∷ ds) is apart = grind (arith, nat_tests, none_of gone c ds is apart.1, rivals c d is, apart.0)

  pub none_left : (cs : List Client) (c : Client) → Apart are_rivals cs → find q cs ≡ Some c → list_any q (filter (λ d. not (same_id c.id d.id)) cs) ≡ false
  none_left [] c none found = refl
  none_left (d ∷ ds) c none found = at (q d) refl (none_left ds c none.1)
    where
      at : (b : Bool) → q d ≡ b → (find q ds ≡ Some c → list_any q (filter (λ x. not (same_id c.id x.id)) ds) ≡ false) → list_any q (filter (λ x. not (same_id c.id x.id)) (d ∷ ds)) ≡ false
      at true is rest =
          let same : d ≡ c = grind (arith, is) in
          let id : d.id ≡ c.id = ap (λ (x : Client). x.id) same in
          grind (arith, nat_tests, none_of c d ds is none.0)
      at false is rest = grind (arith, nat_tests, rest)

-- where the owner's pending record goes, none stays
pub none_pending : (s : ℕ) (owner : List ℕ) (cs : List Client) (c : Client) → Apart are_rivals cs → find (is_pending s owner) cs ≡ Some c → list_any (is_pending s owner) (filter (λ d. not (same_id c.id d.id)) cs) ≡ false
none_pending s owner = none_left (is_pending s owner) (pending_rivals s owner)
