-- Lists of labels and of their numbers.
use Rattle.std.proofs.Common.{◌≡◌, refl, ap, Bool, ◌&&◌, ◌==◌, List, [], ◌∷◌, map, length, arith}
use Rattle.std.specs.List.{list_all}
use Rattle.lnfs_words.specs.Words.{is_empty}

pub empty_map : {A B : Type 0} (f : A → B) (xs : List A) → is_empty (map f xs) ≡ (length xs == 0)
empty_map f [] = refl
empty_map f (x ∷ xs) = grind arith

pub all_map : {A B : Type 0} (f : A → B) (p : B → Bool) (xs : List A) → list_all (λ x. p (f x)) xs ≡ list_all p (map f xs)
all_map f p [] = refl
all_map f p (x ∷ xs) = ap (λ rest. p (f x) && rest) (all_map f p xs)
