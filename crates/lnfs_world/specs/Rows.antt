-- Lists of rows that lie in the order of their keys.
use Rattle.std.specs.List.{AllByRecursion}
use Rattle.std.specs.Ordering.{match_ordering}
use Rattle.std.specs.declared.cmp.Ordering.{Ordering}
use Rattle.std.specs.declared.cmp.Ordering.TheVariants.{Less}
use Rattle.std.specs.Prelude.{◌≡◌, Bool, false, cond, List, [], ◌∷◌}

-- sets the row of the same key, or adds one at its place
abbrev pub inserted : {X : Type 0} → (X → X → Ordering) → X → List X → List X
inserted R r [] = r ∷ []
inserted R r (x ∷ xs) = match_ordering (R r x) (r ∷ x ∷ xs) (r ∷ xs) (x ∷ inserted R r xs)

-- changes the first row that passes a test
abbrev pub updated : {X : Type 0} → (X → Bool) → (X → X) → List X → List X
updated q g [] = []
updated q g (x ∷ xs) = cond (q x) (g x ∷ xs) (x ∷ updated q g xs)

-- the rows that are seen, each as it is seen
abbrev pub kept : {X : Type 0} → (X → Bool) → (X → X) → List X → List X
kept p f [] = []
kept p f (x ∷ xs) = cond (p x) (f x ∷ kept p f xs) (kept p f xs)

-- keys rise, so no two are equal
abbrev pub Rising : {X : Type 0} → (X → X → Ordering) → List X → Type 0
Rising R [] = Unit {0}
Rising R (x ∷ xs) = AllByRecursion (λ y. R x y ≡ Less) xs × Rising R xs

-- no two rows clash
abbrev pub Apart : {X : Type 0} → (X → X → Bool) → List X → Type 0
Apart clash [] = Unit {0}
Apart clash (x ∷ xs) = AllByRecursion (λ y. clash x y ≡ false) xs × Apart clash xs
