-- The first part of a text, and the parts behind it.
use Rattle.std.proofs.Common.{◌≡◌, ◌<◌, ◌≤◌, ◌+◌, ◌-◌, ℕ, zero, suc, ◌==◌, false, List, [], ◌∷◌, length, take, drop, nat_lt, refl, ap, ◌∙◌, inl, inr, arith}
use Rattle.std.specs.Prelude.{Some, None, position}
use Rattle.std.specs.List.{position_or_len}
use Rattle.std.proofs.lemmas.Bool.{cases_Bool, ltb-true, ltb-false}
use Rattle.std.proofs.lemmas.List.{take_rest}
use Rattle.lnfs_words.specs.Words.{is_empty, split, longer}

abbrev place_of : ℕ → List ℕ → ℕ
place_of s xs = position_or_len (λ b. b == s) xs

found_at : (s : ℕ) (xs : List ℕ) (n : ℕ) → place_of s xs ≡ n → n < length xs → split s xs ≡ take n xs ∷ split s (drop (suc n) xs)
found_at s [] n e lt = absurd (omega arith)
found_at s (b ∷ bs) zero e lt =
    elim (cases_Bool (b == s)) [
      | inl t ↦ rw t refl
      | inr f ↦ let z : 1 + place_of s bs ≡ 0 = rw f at e in absurd (omega arith)
    ]
found_at s (b ∷ bs) (suc n) e lt =
    elim (cases_Bool (b == s)) [
      | inl t ↦ let z : 0 ≡ suc n = rw t at e in absurd (omega arith)
      | inr f ↦ let z : 1 + place_of s bs ≡ suc n = rw f at e in
          let deeper : split s bs ≡ take n bs ∷ split s (drop (suc n) bs) = found_at s bs n (omega arith) (omega arith) in
          rw (f, deeper) refl
    ]

none_at : (s : ℕ) (xs : List ℕ) → length xs ≤ place_of s xs → split s xs ≡ xs ∷ []
none_at s [] le = refl
none_at s (b ∷ bs) le =
    elim (cases_Bool (b == s)) [
      | inl t ↦ let z : suc (length bs) ≤ 0 = rw t at le in absurd (omega arith)
      | inr f ↦ let z : suc (length bs) ≤ 1 + place_of s bs = rw f at le in
          let deeper : split s bs ≡ bs ∷ [] = none_at s bs (omega arith) in
          rw (f, deeper) refl
    ]

pub split_found : (s : ℕ) (xs : List ℕ) (i : ℕ) → position (λ b. b == s) xs ≡ Some i → split s xs ≡ take i xs ∷ split s (take (length xs - (i + 1)) (drop (i + 1) xs))
split_found s xs i e =
    elim (cases_Bool (nat_lt (place_of s xs) (length xs))) [
      | inl t ↦ let here : place_of s xs ≡ i = let z : Some (place_of s xs) ≡ Some i = rw t at e in cc in
          let within : place_of s xs < length xs = ltb-true _ _ t in
          rw take_rest (found_at s xs i here (omega arith) ∙ ap (λ n. take i xs ∷ split s (drop n xs)) (let n : suc i ≡ i + 1 = omega arith in n))
      | inr f ↦ let z : None ≡ Some i = rw f at e in cc
    ]

pub split_none : (s : ℕ) (xs : List ℕ) → position (λ b. b == s) xs ≡ None → split s xs ≡ xs ∷ []
split_none s xs e =
    elim (cases_Bool (nat_lt (place_of s xs) (length xs))) [
      | inl t ↦ let z : Some (place_of s xs) ≡ None = rw t at e in cc
      | inr f ↦ none_at s xs (ltb-false _ _ f)
    ]

longer_some : (b : ℕ) (parts : List (List ℕ)) → 0 < length parts → (length (longer b parts) ≡ length parts) × (0 < length (longer b parts))
longer_some b [] h = absurd (omega arith)
longer_some b (part ∷ parts) h = (refl, h)

pub split_some : (s : ℕ) (xs : List ℕ) → 0 < length (split s xs)
split_some s [] = omega arith
split_some s (b ∷ bs) =
    elim (cases_Bool (b == s)) [
      | inl t ↦ rw t (omega arith)
      | inr f ↦ rw f (longer_some b (split s bs) (split_some s bs)).1
    ]

-- there are few parts
pub length-split : (s : ℕ) (xs : List ℕ) → length (split s xs) ≤ length xs + 1
length-split s [] = omega arith
length-split s (b ∷ bs) =
    elim (cases_Bool (b == s)) [
      | inl t ↦ rw t (omega (arith, length-split s bs))
      | inr f ↦ rw f (omega (arith, length-split s bs, (longer_some b (split s bs) (split_some s bs)).0))
    ]

-- some part is left where some text is
pub not_done : (s : ℕ) (xs : List ℕ) → false ≡ is_empty (split s xs)
not_done s [] = refl
not_done s (b ∷ bs) =
    elim (cases_Bool (b == s)) [
      | inl t ↦ rw t refl
      | inr f ↦ rw f (filled (longer b (split s bs)) (longer_some b (split s bs) (split_some s bs)).1)
    ]
  where
    filled : (parts : List (List ℕ)) → 0 < length parts → false ≡ is_empty parts
    filled [] h = absurd (omega arith)
    filled (part ∷ parts) h = refl
