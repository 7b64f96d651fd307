-- What a collection keeps is told as a list, one after the other.
use Rattle.std.proofs.Common.{◌≡◌, ◌++◌, List, [], ◌∷◌, map, sym, ap, ◌∙◌}
use Rattle.std.proofs.lemmas.List.{append-nil, append_assoc, map-append}

-- rows that stand for what entries do
module _ {R E X : Type 0} (f : R → X) (g : E → X) where
  -- the rows that are told, with the entries that are left
  pub one_told : (rows more : List R) (row : R) (e : E) (left before : List E) (all : List X) → map f rows ++ map g before ≡ all → before ≡ e ∷ left → f row ≡ g e → more ≡ rows ++ row ∷ [] → map f more ++ map g left ≡ all
  one_told rows more row e left before all so is same pushed =
      ap (λ (xs : List R). map f xs ++ map g left) pushed
      ∙ ap (λ (xs : List X). xs ++ map g left) (map-append f rows (row ∷ []))
      ∙ append_assoc (map f rows) (f row ∷ []) (map g left)
      ∙ ap (λ (x : X). map f rows ++ x ∷ map g left) same
      ∙ ap (λ (es : List E). map f rows ++ map g es) (sym is)
      ∙ so

  pub all_told : (rows : List R) (left : List E) (all : List X) → map f rows ++ map g left ≡ all → left ≡ [] → map f rows ≡ all
  all_told rows left all so none = sym (append-nil (map f rows)) ∙ ap (λ (es : List E). map f rows ++ map g es) (sym none) ∙ so
