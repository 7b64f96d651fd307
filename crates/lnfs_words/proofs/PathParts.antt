-- A path is the path of its directory and one name more, and its parts tell it.
use Rattle.std.proofs.Common.{◌≡◌, ◌<◌, ℕ, ◌==◌, true, false, List, [], ◌∷◌, ◌++◌, length, refl, sym, ap, ◌∙◌, inl, inr, arith}
use Rattle.std.specs.List.{list_any, flat_map}
use Rattle.std.proofs.lemmas.Bool.{cases_Bool, eqb-true}
use Rattle.lnfs_words.specs.Words.{is_empty, split, longer, slash}
use Rattle.lnfs_words.specs.Paths.{are_components, is_path, before_last, parent_of}
use Rattle.lnfs_words.proofs.Splits.{split_some}

module _ (s : ℕ) where
  -- ---- the parts tell the text

  abbrev joined : List (List ℕ) → List ℕ
  joined parts = flat_map (λ part. s ∷ part) parts

  joined_longer : (b : ℕ) (text : List ℕ) (parts : List (List ℕ)) → 0 < length parts → joined parts ≡ s ∷ text → joined (longer b parts) ≡ s ∷ b ∷ text
  joined_longer b text [] some e = absurd (omega arith)
  joined_longer b text (part ∷ parts) some e = let rest : part ++ joined parts ≡ text = cc in ap (λ bs. s ∷ b ∷ bs) rest

  joined_split : (text : List ℕ) → joined (split s text) ≡ s ∷ text
  joined_split [] = refl
  joined_split (b ∷ text) =
      elim (cases_Bool (b == s)) [
        | inl t ↦ rw t (ap (λ bs. s ∷ bs) (joined_split text) ∙ ap (λ c. s ∷ c ∷ text) (sym (eqb-true b s t)))
        | inr f ↦ rw f (joined_longer b text (split s text) (split_some s text) (joined_split text))
      ]

  pub split_same : (a b : List ℕ) → split s a ≡ split s b → a ≡ b
  split_same a b e = let both : s ∷ a ≡ s ∷ b = sym (joined_split a) ∙ ap joined e ∙ joined_split b in cc

  -- ---- all parts but the last

  split_none : (text : List ℕ) → list_any (λ c. c == s) text ≡ false → split s text ≡ text ∷ []
  split_none [] none = refl
  split_none (b ∷ text) none =
      elim (cases_Bool (b == s)) [
        | inl t ↦ absurd (let e : true ≡ false = rw t at none in cc)
        | inr f ↦ let deeper : list_any (λ c. c == s) text ≡ false = rw f at none in rw (f, split_none text deeper) refl
      ]

  longer_front : (b : ℕ) (parts more : List (List ℕ)) → 0 < length parts → longer b (parts ++ more) ≡ longer b parts ++ more
  longer_front b [] more some = absurd (omega arith)
  longer_front b (part ∷ parts) more some = refl

  split_front : (text : List ℕ) → list_any (λ c. c == s) text ≡ true → (last : List ℕ) × (split s text ≡ split s (before_last s text) ++ last ∷ [])
  unfolding before_last
  split_front [] some = absurd cc
  split_front (b ∷ text) some =
      elim (cases_Bool (list_any (λ c. c == s) text)) [
        | inl t ↦
            let rest = split_front text t in
            elim (cases_Bool (b == s)) [
              | inl is ↦ (rest.0, rw (t, is, rest.1) refl)
              | inr isnt ↦ (rest.0, rw (t, isnt, rest.1) (longer_front b (split s (before_last s text)) (rest.0 ∷ []) (split_some s (before_last s text))))
            ]
        | inr f ↦
            elim (cases_Bool (b == s)) [
              | inl is ↦ (text, rw (f, is, split_none text f) refl)
              | inr isnt ↦ absurd (let e : false ≡ true = rw (isnt, f) at some in cc)
            ]
      ]

-- the names of a path: those of its directory's path, and one more
pub record HasFront (path : List ℕ) : Type 0 where
  pub front : List (List ℕ)
  pub name : List ℕ
  pub parts : split slash path ≡ [] ∷ (front ++ name ∷ [])
  pub parent : split slash (parent_of path) ≡ [] ∷ front

empty_is : (text : List ℕ) → is_empty text ≡ true → text ≡ []
empty_is [] e = refl
empty_is (b ∷ text) e = absurd cc

pub path_parts : (path : List ℕ) → is_path path ≡ true → HasFront path
unfolding is_path
path_parts path is =
    elim (cases_Bool (list_any (λ c. c == slash) path)) [
      | inl t ↦ let last = split_front slash path t in of (split slash (parent_of path)) refl last.0 last.1
      | inr f ↦ let none : are_components (path ∷ []) ≡ true = rw (split_none slash path f) at is in absurd (grind arith)
    ]
  where
    of : (parts : List (List ℕ)) → split slash (parent_of path) ≡ parts → (last : List ℕ) → split slash path ≡ split slash (parent_of path) ++ last ∷ [] → HasFront path
    of [] at last e = absurd (let some = split_some slash (parent_of path) in omega (arith, some, ap length at))
    of (part ∷ front) at last e =
        let parts : split slash path ≡ part ∷ (front ++ last ∷ []) = e ∙ ap (λ ps. ps ++ last ∷ []) at in
        let first : are_components (part ∷ (front ++ last ∷ [])) ≡ true = rw parts at is in
        let empty : part ≡ [] = empty_is part (grind arith) in
        record { front = front; name = last; parts = parts ∙ ap (λ p. p ∷ (front ++ last ∷ [])) empty; parent = at ∙ ap (λ p. p ∷ front) empty }
