-- Identifiers and the order of rows.
use Rattle.std.proofs.Common.{inl, inr, ◌≡◌, ℕ, Bool, true, false, cond, ◌&&◌, List, [], ◌∷◌, Some, refl, sym, ap, ◌∙◌, arith}
use Rattle.std.specs.Prelude.{◌==◌, ◌⊎◌}
use Rattle.std.proofs.lemmas.Bool.{false≢true}
use Rattle.std.specs.Ordering.{nat_cmp, is_eq, ordering_then}
use Rattle.std.specs.List.{find}
use Rattle.std.proofs.lemmas.Bool.Decides.{nat_tests}
use Rattle.std.specs.declared.cmp.Ordering.{Ordering}
use Rattle.std.specs.declared.cmp.Ordering.TheVariants.{Less, Equal, Greater}
use Rattle.std.specs.Str.{bytes_eq}
use Rattle.lnfs_world.specs.Rows.{inserted}
use Rattle.lnfs_world.specs.World.{Id, Entry, id_order, entry_order, level_order, same_id, number_in, last_of}
use Rattle.lnfs_world.proofs.Sorted.{find-inserted}

-- tests that pass together are one
pub same_truth : (a b : Bool) → (a ≡ true → b ≡ true) → (b ≡ true → a ≡ true) → a ≡ b
same_truth true b f g = sym (f refl)
same_truth false true f g = g refl
same_truth false false f g = refl

pub id_same : (a b : Id) → same_id a b ≡ true → a ≡ b
id_same a b e = grind (arith, nat_tests)

pub id_itself : (a : Id) → same_id a a ≡ true
id_itself a = grind (arith, nat_tests)

pub id_turned : (a b : Id) → same_id a b ≡ same_id b a
id_turned a b = grind (arith, nat_tests)

pub id_equal : (a b : Id) → id_order a b ≡ Equal → same_id a b ≡ true
id_equal a b e = grind (arith, nat_tests)

pub id_tie : (a b : Id) → same_id a b ≡ true → id_order a b ≡ Equal
id_tie a b e = grind (arith, nat_tests)

pub id_before : (a b c : Id) → id_order a b ≡ Less → id_order b c ≡ Less → id_order a c ≡ Less
id_before a b c x y = grind (arith, nat_tests)

pub id_after : (a b : Id) → id_order a b ≡ Greater → id_order b a ≡ Less
id_after a b x = grind (arith, nat_tests)

pub id_tied : (a b c : Id) → id_order a b ≡ Equal → id_order b c ≡ id_order a c
id_tied a b c x = grind (arith, nat_tests)

pub level_same : (dom : ℕ → ℕ → Bool) (level : ℕ) (a b : Id) → same_id a b ≡ true → dom level b.level ≡ dom level a.level
level_same dom level a b e = ap (λ i. dom level i.level) (sym (id_same a b e))

-- ---- entries

id_tied_right : (a b c : Id) → id_order b c ≡ Equal → id_order a b ≡ id_order a c
id_tied_right a b c e = ap (id_order a) (id_same b c (id_equal b c e))

nat_before : (a b c : ℕ) → nat_cmp a b ≡ Less → nat_cmp b c ≡ Less → nat_cmp a c ≡ Less
nat_before a b c x y = grind (arith, nat_tests)

nat_after : (a b : ℕ) → nat_cmp a b ≡ Greater → nat_cmp b a ≡ Less
nat_after a b x = grind (arith, nat_tests)

nat_equal : (a b : ℕ) → nat_cmp a b ≡ Equal → a ≡ b
nat_equal a b x = grind (arith, nat_tests)

-- the parts of an order by two keys
then_less : (o p : Ordering) → ordering_then o p ≡ Less → (o ≡ Less) ⊎ ((o ≡ Equal) × (p ≡ Less))
then_less Less p e = inl refl
then_less Equal p e = inr (refl, e)
then_less Greater p e = absurd cc

pub entry_before : (a b c : Entry) → entry_order a b ≡ Less → entry_order b c ≡ Less → entry_order a c ≡ Less
entry_before a b c x y = at (then_less _ _ x) (then_less _ _ y)
  where
    at : (id_order a.directory b.directory ≡ Less) ⊎ ((id_order a.directory b.directory ≡ Equal) × (nat_cmp a.cookie b.cookie ≡ Less)) → (id_order b.directory c.directory ≡ Less) ⊎ ((id_order b.directory c.directory ≡ Equal) × (nat_cmp b.cookie c.cookie ≡ Less)) → entry_order a c ≡ Less
    at (inl p) (inl q) = ap (λ o. ordering_then o (nat_cmp a.cookie c.cookie)) (id_before a.directory b.directory c.directory p q)
    at (inl p) (inr q) = ap (λ o. ordering_then o (nat_cmp a.cookie c.cookie)) (sym (id_tied_right a.directory b.directory c.directory q.0) ∙ p)
    at (inr p) (inl q) = ap (λ o. ordering_then o (nat_cmp a.cookie c.cookie)) (sym (id_tied a.directory b.directory c.directory p.0) ∙ q)
    at (inr p) (inr q) = ap (λ o. ordering_then o (nat_cmp a.cookie c.cookie)) (sym (id_tied a.directory b.directory c.directory p.0) ∙ q.0) ∙ nat_before a.cookie b.cookie c.cookie p.1 q.1

pub entry_after : (a b : Entry) → entry_order a b ≡ Greater → entry_order b a ≡ Less
entry_after a b x = at (id_order a.directory b.directory) refl x
  where
    at : (o : Ordering) → id_order a.directory b.directory ≡ o → ordering_then o (nat_cmp a.cookie b.cookie) ≡ Greater → entry_order b a ≡ Less
    at Less is e = absurd cc
    at Equal is e = ap (λ o. ordering_then o (nat_cmp b.cookie a.cookie)) (id_tie b.directory a.directory (id_turned b.directory a.directory ∙ id_equal a.directory b.directory is)) ∙ nat_after a.cookie b.cookie e
    at Greater is e = ap (λ o. ordering_then o (nat_cmp b.cookie a.cookie)) (id_after a.directory b.directory is)

then_equal : (o p : Ordering) → ordering_then o p ≡ Equal → (o ≡ Equal) × (p ≡ Equal)
then_equal Less p e = absurd cc
then_equal Equal p e = (refl, e)
then_equal Greater p e = absurd cc

-- what a tie tells
pub entry_place : (a b : Entry) → entry_order a b ≡ Equal → (a.directory ≡ b.directory) × (a.cookie ≡ b.cookie)
entry_place a b e = let both = then_equal _ _ e in (id_same a.directory b.directory (id_equal a.directory b.directory both.0), nat_equal a.cookie b.cookie both.1)

pub entry_tied : (a b c : Entry) → entry_order a b ≡ Equal → entry_order b c ≡ entry_order a c
entry_tied a b c e =
    let same = entry_place a b e in
    λ i. ordering_then (id_order (sym same.0 i) c.directory) (nat_cmp (sym same.1 i) c.cookie)

pub entry_apart : (a b : Entry) → (same_id a.directory b.directory && a.cookie == b.cookie) ≡ false → is_eq (entry_order a b) ≡ false
entry_apart a b x = at (entry_order a b) refl
  where
    at : (o : Ordering) → entry_order a b ≡ o → is_eq o ≡ false
    at Less is = refl
    at Equal is = let same = entry_place a b is in absurd (false≢true (sym x ∙ grind (arith, nat_tests, same.0, same.1, id_itself b.directory)))
    at Greater is = refl

-- ---- last identifiers

pub level_before : (a b c : Id) → level_order a b ≡ Less → level_order b c ≡ Less → level_order a c ≡ Less
level_before a b c x y = grind (arith, nat_tests)

pub level_after : (a b : Id) → level_order a b ≡ Greater → level_order b a ≡ Less
level_after a b x = grind (arith, nat_tests)

pub level_tied : (a b c : Id) → level_order a b ≡ Equal → level_order b c ≡ level_order a c
level_tied a b c x = grind (arith, nat_tests)

pub level_equal : (a b : Id) → level_order a b ≡ Equal → a.level ≡ b.level
level_equal a b x = grind (arith, nat_tests)

pub last_of-inserted : (i : Id) (lasts : List Id) (level : ℕ) → last_of level (inserted level_order i lasts) ≡ cond (i.level == level) i.number (last_of level lasts)
last_of-inserted i lasts level = ap number_in (find-inserted level_order (λ x. x.level == level) i (λ x e. ap (λ (n : ℕ). n == level) (sym (level_equal i x e))) (λ x e f. grind (arith, nat_tests)) lasts) ∙ at (i.level == level)
  where
    at : (b : Bool) → number_in (cond b (Some i) (find (λ x. x.level == level) lasts)) ≡ cond b i.number (last_of level lasts)
    at true = refl
    at false = refl

-- ---- bytes

pub bytes_same : (a b : List ℕ) → bytes_eq a b ≡ true → a ≡ b
bytes_same [] [] e = refl
bytes_same [] (y ∷ ys) e = absurd (cc)
bytes_same (x ∷ xs) [] e = absurd (cc)
bytes_same (x ∷ xs) (y ∷ ys) e = grind (arith, nat_tests, bytes_same xs ys)

pub bytes_itself : (a : List ℕ) → bytes_eq a a ≡ true
bytes_itself [] = refl
bytes_itself (x ∷ xs) = grind (arith, nat_tests, bytes_itself xs)

pub bytes_turned : (a b : List ℕ) → bytes_eq a b ≡ bytes_eq b a
bytes_turned [] [] = refl
bytes_turned [] (y ∷ ys) = refl
bytes_turned (x ∷ xs) [] = refl
bytes_turned (x ∷ xs) (y ∷ ys) = grind (arith, nat_tests, bytes_turned xs ys)
