-- The bytes before the last separator, from the end.
use Rattle.std.proofs.Common.{◌≡◌, ◌==◌, ℕ, Bool, true, false, ◌||◌, List, [], ◌∷◌, ◌++◌, refl, sym, ap, ◌∙◌}
use Rattle.std.specs.List.{list_any}
use Rattle.std.proofs.Math.Bool.{or_assoc, or-false, or-true}
use Rattle.lnfs_words.specs.Paths.{before_last}

has_last : (s b : ℕ) (xs : List ℕ) (f : Bool) → (b == s) ≡ f → list_any (λ c. c == s) (xs ++ b ∷ []) ≡ (list_any (λ c. c == s) xs || f)
has_last s b [] f e = rw e (or-false f)
has_last s b (x ∷ xs) f e = ap (λ r. (x == s) || r) (has_last s b xs f e) ∙ sym (or_assoc (x == s) (list_any (λ c. c == s) xs) f)

-- the last byte is the separator
pub before_last_is : (s b : ℕ) (xs : List ℕ) → (b == s) ≡ true → before_last s (xs ++ b ∷ []) ≡ xs
unfolding before_last
before_last_is s b [] e = refl
before_last_is s b (x ∷ xs) e = rw (has_last s b xs true e, or-true (list_any (λ c. c == s) xs), before_last_is s b xs e) refl

-- the last byte isn't
pub before_last_isnt : (s b : ℕ) (xs : List ℕ) → (b == s) ≡ false → before_last s (xs ++ b ∷ []) ≡ before_last s xs
unfolding before_last
before_last_isnt s b [] e = refl
before_last_isnt s b (x ∷ xs) e = rw (has_last s b xs false e, or-false (list_any (λ c. c == s) xs), before_last_isnt s b xs e) refl
